-- Acts of a recovery, and evictions between them: what a queue keeps.
use Rattle.std.proofs.Common.{◌≡◌, ◌≢◌, ◌⊎◌, ◌<◌, ◌≤◌, ◌+◌, ℕ, Bool, true, false, if◌then◌else◌, List, [], ◌∷◌, length, get_or, refl, sym, ap, subst, ◌∙◌, arith, inl, inr, Option, Some, None}
use Rattle.std.proofs.lemmas.List.{get_or-set_same, length-set}
use Rattle.bz_mark.specs.Counts.{acts_by, is_taken}
use Rattle.bz_mark.specs.Times.{since_on}
use Rattle.bz_mark.specs.WordsAfter.{state_after_marks}
use Rattle.bz_mark.specs.declared.marks.Mark.{Mark}
use Rattle.bz_mark.specs.declared.marks.Mark.TheVariants.{Evict}
use Rattle.bz_mark.specs.declared.power.Power.TheVariants as power
use Rattle.bz_pm.specs.Acts.{evicted}
use Rattle.bz_pm.specs.Words.{Words}
use Rattle.bz_swap.specs.Starts.{started}
use Rattle.bz_swap.specs.Steps.{StepsIn}
use Rattle.bz_swap.specs.SwapMemory.{SwapMemory, Doing, Working, idle, memory_words, value_at, worker_of}
use Rattle.bz_swap_acts.specs.declared.acted.Act.{Act}
use Rattle.bz_swap_acts.specs.declared.acted.Act.TheVariants as act
use Rattle.bz_swap_machine.specs.declared.done.Done.{Done}
use Rattle.bz_swap_machine.specs.declared.done.Done.TheVariants as done
use Rattle.bz_swap_cells.specs.Store.{Past}
use Rattle.bz_swap_marks.proofs.Pasts.{evict-past}
use Rattle.bz_swap_marks.specs.Marks.{mark_of}
use Rattle.bz_swap_recovery.proofs.Proved.{acts_recover, evictions_leave_sweeps, sweeps_go_on, values_stay}
use Rattle.bz_swap_recovery.specs.Laws.{ActsOn, StaysSweeping, answer_of}
use Rattle.bz_swap_recovery.specs.Recovering as recovery
use Rattle.bz_sweep.specs.Duties.{Hears, Tells, acts_in, acts_left, asks_of}
use Rattle.bz_sweep.specs.Words.{IsShared}
use Rattle.bz_sweep.specs.declared.ask.Answer.{Answer}
use Rattle.bz_sweep.specs.declared.ask.Ask.{Ask}
use Rattle.bz_sweep.specs.declared.ask.Ask.TheVariants as ask
use Rattle.bz_sweep.specs.declared.sweep.Sweep.{Sweep}
use Rattle.bz_ring.specs.Follows.{IsAfterRecovering, MayHappen, power_after}
use Rattle.bz_ring.specs.Journal.{memory_of, with_mark}
use Rattle.bz_ring.specs.declared.marks.QMark.{QMark}
use Rattle.bz_ring.specs.declared.marks.QMark.TheVariants.{Memory}
use Rattle.bz_queue.proofs.Dark.{Marks, darkens, listed-dark, none-opens}
use Rattle.bz_queue.proofs.Marks.{act-found, act-kept, act-marked, act-plain, plain-power}
use Rattle.bz_queue.proofs.Powered.{kept-started}
use Rattle.bz_queue.proofs.Tables.{tabled-still}
use Rattle.bz_queue.specs.Inside.Acted.{IsEvicted}
use Rattle.bz_queue.specs.Inside.Kept.{IsDark, IsKept, IsStarted, IsSwept, area_of}
use Rattle.bz_queue.specs.Inside.Powering.{IsRawAct}
use Rattle.bz_queue.specs.declared.parts.Parts.{Parts}

-- worker 0 may make any act, and its mark is one of recovery
raw-follows : (past : List QMark) (made : Act) → power_after past ≡ power.Recovering → MayHappen past (mark_of 0 made)
raw-follows past (act.Load a v) h = h
raw-follows past (act.Store a v) h = h
raw-follows past (act.Cas a old new found) h = h
raw-follows past (act.Ask line) h = h
raw-follows past act.Fence h = h

raw-after : (past : List QMark) (made : Act) → IsAfterRecovering (Memory (mark_of 0 made) ∷ past)
raw-after past (act.Load a v) = refl
raw-after past (act.Store a v) = refl
raw-after past (act.Cas a old new found) = refl
raw-after past (act.Ask line) = refl
raw-after past act.Fence = refl

-- it takes no descriptor, and is one act more
raw-untaken : (s : ℕ) (marks : List Mark) (made : Act) → is_taken s (since_on (mark_of 0 made ∷ marks)) ≡ is_taken s (since_on marks)
raw-untaken s marks (act.Load a v) = refl
raw-untaken s marks (act.Store a v) = refl
raw-untaken s marks (act.Cas a old new found) = refl
raw-untaken s marks (act.Ask line) = refl
raw-untaken s marks act.Fence = refl

raw-counted : (marks : List Mark) (made : Act) → acts_by 0 (since_on (mark_of 0 made ∷ marks)) ≡ acts_by 0 (since_on marks) + 1
raw-counted marks (act.Load a v) = refl
raw-counted marks (act.Store a v) = refl
raw-counted marks (act.Cas a old new found) = refl
raw-counted marks (act.Ask line) = refl
raw-counted marks act.Fence = refl

-- what is asked for takes an act
some-acts : (asks : Option Ask) → 1 ≤ acts_in asks
some-acts (Some (ask.Load a)) = omega arith
some-acts (Some (ask.Store a x)) = omega arith
some-acts (Some (ask.Flush line)) = omega arith
some-acts (Some ask.Finish) = omega arith
some-acts None = omega arith

some-come : (m : SwapMemory) (asks : Option Ask) → 1 ≤ recovery.to_come recovery.Started m asks
some-come m asks = go (worker_of m 0).flush_next
  where
    go : (t : Bool) → 1 ≤ (if t then 1 else acts_in asks)
    go true = omega arith
    go false = some-acts asks

busy-or : (d : Done) → (d ≡ done.Busy) ⊎ (d ≢ done.Busy)
busy-or done.Busy = inl refl
busy-or (done.Read v) = inr (λ is. cc)
busy-or (done.Swapped won) = inr (λ is. cc)
busy-or done.Stored = inr (λ is. cc)
busy-or done.Flushed = inr (λ is. cc)

module _ (old new : Parts) (made : Act) (ended : Done) (told : Option ℕ) (k : IsStarted old) (is : old.power ≡ power.Recovering) (room : length old.journal.past + 3 ≤ old.journal.most) (a : IsRawAct old made ended told new) where
  on : ActsOn (area_of old.numbers.ring) k.dark.values old.access new.access old.sweep ended told
  on = acts_recover (area_of old.numbers.ring) k.dark.values old.access new.access old.sweep made ended told k.memory (subst (λ phase. StepsIn phase old.access 0 made ended told new.access) (sym k.memory.phase) a.step)

  values-on : (b : ℕ) → IsShared (area_of old.numbers.ring) b → value_at new.access b ≡ k.dark.values b
  values-on b shared = elim (busy-or ended) [
    | inl busy ↦ values_stay.sweeping (area_of old.numbers.ring) k.dark.values new.access recovery.Started old.sweep b (on.goes_on busy).1.sweeping shared
    | inr ends ↦ values_stay.sweeping (area_of old.numbers.ring) k.dark.values new.access recovery.Made old.sweep b (on.ends ends).sweeping shared
  ]

  marks : Marks old k.dark.values new.access (mark_of 0 made) old.power
  marks = record {
    happens = record { may = raw-follows old.journal.past made (k.dark.tabled.powered ∙ is); found = act-found 0 old.access new.access old.journal.start (memory_of old.journal.past) made k.dark.words a.step.one.act.found a.step.one.within };
    words = act-marked 0 old.access new.access old.journal.start (memory_of old.journal.past) made ended k.dark.words k.dark.past a.step.one;
    past = act-kept 0 old.access new.access old.journal.start (memory_of old.journal.past) made ended k.dark.words k.dark.past a.step.one;
    stays = values-on;
    count = a.step.one.others.count;
    swaps = a.step.one.others.swaps;
    size = a.step.one.others.size;
    steps = omega (arith, a.step.one.steps);
    power = plain-power old.journal.past (mark_of 0 made) (act-plain 0 made) ∙ k.dark.tabled.powered;
    room = omega (arith, room);
  }

  abbrev acted : Parts
  acted = record old { access = new.access; journal = with_mark old.journal (Memory (mark_of 0 made)) }

  dark-on : IsDark acted
  unfolding darkens
  dark-on = darkens old k.dark.values (listed-dark old k.dark) new.access (mark_of 0 made) old.power marks old.workers refl k.dark.none (λ w. none-opens w old.journal.past (mark_of 0 made) (k.dark.calls w))

  untaken-on : (s : ℕ) → is_taken s (since_on (memory_of acted.journal.past)) ≡ false
  untaken-on s = raw-untaken s (memory_of old.journal.past) made ∙ k.untaken s

  -- the act is made, and the sweep is to be told
  pub made-on : ended ≢ done.Busy → IsSwept new recovery.Made
  unfolding dark-on darkens
  made-on ends = subst (λ (p : Parts). IsSwept p recovery.Made) (sym a.rest) (record {
    dark = dark-on;
    memory = (on.ends ends).sweeping;
    untaken = untaken-on;
    spent = omega (arith, raw-counted (memory_of old.journal.past) made, some-come old.access (asks_of old.sweep), (on.ends ends).left, k.spent);
  })

  pub hears-on : ended ≢ done.Busy → (answer : Answer) → answer ≡ answer_of ended → Hears new.sweep answer
  hears-on ends answer e = subst (λ (t : Sweep). Hears t answer) (sym (ap (λ (p : Parts). p.sweep) a.rest)) (subst (Hears old.sweep) (sym e) (on.ends ends).hears)

  pub told-on : ended ≢ done.Busy → (answer : Answer) → answer ≡ answer_of ended → Tells new.sweep answer (recovery.words_in new.access)
  told-on ends answer e = subst (λ (t : Sweep). Tells t answer (recovery.words_in new.access)) (sym (ap (λ (p : Parts). p.sweep) a.rest)) (subst (λ (z : Answer). Tells old.sweep z (recovery.words_in new.access)) (sym e) (on.ends ends).tells)

  -- or a flush goes on
  pub flush-on : ended ≡ done.Busy → IsStarted new
  unfolding dark-on darkens
  flush-on busy = subst IsStarted (sym a.rest) (record {
    dark = dark-on;
    memory = (on.goes_on busy).1.sweeping;
    untaken = untaken-on;
    spent = omega (arith, raw-counted (memory_of old.journal.past) made, (on.goes_on busy).0, (on.goes_on busy).1.left, k.spent);
  })

  pub after-on : IsAfterRecovering new.journal.past
  after-on = subst (λ (p : Parts). IsAfterRecovering p.journal.past) (sym a.rest) (raw-after old.journal.past made)

-- an eviction between two acts
module _ (old new : Parts) (a : ℕ) (told : Option ℕ) (k : IsStarted old) (is : old.power ≡ power.Recovering) (within : a < length old.access.cached) (room : length old.journal.past + 3 ≤ old.journal.most) (e : IsEvicted old a told new) where
  stays : StaysSweeping (area_of old.numbers.ring) k.dark.values old.access new.access recovery.Started old.sweep told
  stays = evictions_leave_sweeps (area_of old.numbers.ring) k.dark.values old.access new.access recovery.Started old.sweep a told k.memory within e.eviction

  evict-marks : Marks old k.dark.values new.access (Evict a) old.power
  evict-marks = record {
    happens = record { may = λ off. (let both : power.Recovering ≡ power.Off = sym (k.dark.tabled.powered ∙ is) ∙ off in cc); found = tt };
    words = ap memory_words e.eviction.is ∙ ap (λ w. evicted w a) k.dark.words;
    past = evict-past old.access new.access (state_after_marks old.journal.start (memory_of old.journal.past)) a told e.eviction k.dark.past;
    stays = λ b shared. values_stay.sweeping (area_of old.numbers.ring) k.dark.values new.access recovery.Started old.sweep b stays.sweeping shared;
    count = ap (λ (m : SwapMemory). length m.workers) e.eviction.is;
    swaps = ap (λ (m : SwapMemory). m.swaps) e.eviction.is;
    size = ap (λ (m : SwapMemory). length m.cached) e.eviction.is;
    steps = omega (arith, ap (λ (m : SwapMemory). m.steps) e.eviction.is);
    power = k.dark.tabled.powered;
    room = omega (arith, room);
  }

  same-come : recovery.to_come recovery.Started new.access (asks_of old.sweep) ≡ recovery.to_come recovery.Started old.access (asks_of old.sweep)
  same-come = ap (λ (m : SwapMemory). recovery.to_come recovery.Started m (asks_of old.sweep)) e.eviction.is

  pub evict-started : IsStarted new
  unfolding darkens
  evict-started = subst IsStarted (sym e.rest) (record {
    dark = darkens old k.dark.values (listed-dark old k.dark) new.access (Evict a) old.power evict-marks old.workers refl k.dark.none k.dark.calls;
    memory = stays.sweeping;
    untaken = k.untaken;
    spent = omega (arith, same-come, stays.left, k.spent);
  })

  pub evict-kept : IsKept new
  evict-kept = kept-started new (ap (λ (p : Parts). p.power) e.rest ∙ is) evict-started

-- what beside the access and the sweep is as it was keeps the dark
unfoldable pub dark-beside : (p : Parts) (d : IsDark p) (m : SwapMemory) (t : Sweep) → memory_words m ≡ memory_words p.access → m.past ≡ p.access.past → m.swaps ≡ p.access.swaps → length m.workers ≡ length p.access.workers → m.steps ≡ p.access.steps
    → IsDark (record p { access = m; sweep = t })
dark-beside p d m t words past swaps count steps = record {
  tabled = tabled-still p (record p { access = m; sweep = t }) d.tabled (record {
    numbers = refl;
    start = refl;
    most = refl;
    places = refl;
    last = refl;
    owner_places = refl;
    begun = refl;
    count = count;
    swaps = swaps;
    size = ap (λ (w : Words). length w.cached) words;
    calls = λ w. refl;
    begins = refl;
    steps = omega (arith, steps, d.tabled.steps);
    room = omega (arith, d.tabled.marks, d.tabled.most);
    power = d.tabled.powered;
  });
  sound = d.sound;
  sparing = d.sparing;
  words = words ∙ d.words;
  past = record {
    count = ap (λ (z : Past). z.count) past ∙ d.past.count;
    since = ap (λ (z : Past). z.since) past ∙ d.past.since;
    asks = λ w. ap (λ (z : Past). get_or z.asks w []) past ∙ d.past.asks w;
    workers = rw past d.past.workers;
  };
  none = d.none;
  calls = d.calls;
  values = d.values;
  list = d.list;
  low = d.low;
}

-- it is told what came of its act, and asks for the next one
pub asked-on : (p : Parts) (answer : Answer) (next : Sweep) → IsSwept p recovery.Made → recovery.IsNext p.sweep answer next → Tells p.sweep answer (recovery.words_in p.access) → IsSwept (record p { sweep = next }) recovery.Asked
unfolding dark-beside
asked-on p answer next k is tells = record {
  dark = dark-beside p k.dark p.access next refl refl refl refl refl;
  memory = sweeps_go_on (area_of p.numbers.ring) k.dark.values p.access p.sweep next answer k.memory is tells;
  untaken = k.untaken;
  spent = omega (arith, k.spent, is.sooner k.dark.values (recovery.words_in p.access) k.memory.knows);
}

-- a start of worker 0
pub started-on : (p : Parts) (k : IsSwept p recovery.Asked) (doing : Doing) → recovery.IsSweeping (area_of p.numbers.ring) k.dark.values (started p.access 0 doing) recovery.Started p.sweep → IsStarted (record p { access = started p.access 0 doing })
unfolding dark-beside
started-on p k doing memory = record {
  dark = dark-beside p k.dark (started p.access 0 doing) p.sweep refl refl refl (length-set p.access.workers 0 (record { doing = doing; flush_next = false })) refl;
  memory = memory;
  untaken = k.untaken;
  spent =
      let asks_first : (worker_of (started p.access 0 doing) 0).flush_next ≡ false = ap (λ (u : Working). u.flush_next) (get_or-set_same p.access.workers 0 (record { doing = doing; flush_next = false }) idle k.memory.memory.sizes.workers) in
      let come : recovery.to_come recovery.Started (started p.access 0 doing) (asks_of p.sweep) ≡ acts_in (asks_of p.sweep) = rw asks_first refl in
      let same : acts_left p.sweep (recovery.words_in (started p.access 0 doing)) ≡ acts_left p.sweep (recovery.words_in p.access) = refl in
      omega (arith, come, same, k.spent);
}
