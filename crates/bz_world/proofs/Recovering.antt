-- Acts of a recovery, and evictions between them: what a world keeps.
use Rattle.std.proofs.Common.{◌≡◌, ◌≢◌, ℕ, ◌+◌, ◌<◌, ◌≤◌, false, List, ◌∷◌, length, slice_index, arith, refl, sym, ap, subst, ◌∙◌, Option, None}
use Rattle.std.proofs.lemmas.List.{get_or-set_same, length-set}
use Rattle.bz_swap_acts.specs.declared.acted.Act.{Act}
use Rattle.bz_swap_acts.specs.declared.acted.Act.TheVariants as act
use Rattle.bz_content.specs.Content.{image_fault, content_in}
use Rattle.bz_swap_machine.specs.declared.done.Done.{Done}
use Rattle.bz_swap_machine.specs.declared.done.Done.TheVariants.{Busy}
use Rattle.bz_mark.specs.Log.{with_mark}
use Rattle.bz_mark.specs.WordsAfter.{words_after_marks}
use Rattle.bz_mark.specs.declared.marks.Mark.{Mark}
use Rattle.bz_mark.specs.declared.marks.Mark.TheVariants.{Evict}
use Rattle.bz_mark.specs.declared.power.Power.TheVariants as power
use Rattle.bz_sound.specs.Memory.Laws.{IsQuietAct}
use Rattle.bz_sound.specs.Memory.Moments.{image_after, IsAfterFence, map_at_start}
use Rattle.bz_sound.specs.Power.Calls.{MayFollow, IsAfterRecovering}
use Rattle.bz_sound.specs.Power.Growth.{QuietActsFollow, FencesFollow}
use Rattle.bz_sound.specs.Power.ImageLaws.{SameContentDecodes}
use Rattle.bz_sound.specs.Power.Sound.{IsSound}
use Rattle.bz_mark.specs.Times.{power_of}
use Rattle.bz_refinement.specs.Recovering as recovery
use Rattle.bz_recover.specs.Duties.{acts_left, asks_of, Hears, Tells}
use Rattle.bz_task.specs.Requests.{steps_in}
use Rattle.bz_refinement.specs.RecoveryLaws.{StaysRecovering, seen_of}
use Rattle.bz_task.specs.declared.todo.Seen.{Seen}
use Rattle.bz_refinement.specs.Reviving as reviving
use Rattle.bz_refinement.specs.Reviving.{ActsAreMarked, ActsIn, EvictionsAreMarked, TurnsMakeNoMark, EvictsIn}
use Rattle.bz_swap.specs.Steps.{StepsIn}
use Rattle.bz_swap.specs.SwapMemory.{Doing, Working, idle, memory_words, worker_of}
use Rattle.bz_swap.specs.Starts.{started}
use Rattle.bz_world.specs.Inside.Acted.{IsEvicted}
use Rattle.bz_world.specs.Inside.Kept.{IsTabled, IsDark, IsRecovering, IsStarted, IsKept}
use Rattle.bz_world.specs.Inside.Powering.{IsRawAct}
use Rattle.bz_world.specs.WorldView.{mark_of}
use Rattle.bz_world.specs.declared.parts.Parts.{Parts}
use Rattle.bz_world.proofs.Marking.{act-marked, act-found}
use Rattle.bz_world.proofs.Powered.{kept-started}
use Rattle.bz_world.proofs.Tabled.{tabled-beside, tabled-acted, tabled-evicted}

-- the laws that these proofs stand on
pub record Laws : Type 0 where
  pub quiet : QuietActsFollow
  pub flush : FencesFollow
  pub same : SameContentDecodes

-- worker 0 may make any act, and its mark is one of recovery
raw-follows : (p : Parts) (made : Act) → power_of p.at_start p.journal.past ≡ power.Recovering → MayFollow p.at_start (map_at_start p.config p.journal.start) p.journal.past (mark_of 0 made)
raw-follows p (act.Load a v) h = h
raw-follows p (act.Store a v) h = h
raw-follows p (act.Cas a old new found) h = h
raw-follows p (act.Ask line) h = h
raw-follows p act.Fence h = h

raw-after : (past : List Mark) (made : Act) → IsAfterRecovering (mark_of 0 made ∷ past)
raw-after past (act.Load a v) = refl
raw-after past (act.Store a v) = refl
raw-after past (act.Cas a old new found) = refl
raw-after past (act.Ask line) = refl
raw-after past act.Fence = refl

module _ (b : Laws) (recovers : ActsAreMarked) (old new : Parts) (made : Act) (done : Done) (told : Option ℕ) (k : IsStarted old) (is : old.power ≡ power.Recovering) (room : length old.journal.past + 3 ≤ old.config.marks) (a : IsRawAct old made done told new) where
  abbrev dark : IsDark old
  dark = k.dark

  abbrev log-power : power_of old.at_start old.journal.past ≡ power.Recovering
  log-power = k.dark.tabled.power ∙ is

  pub marked-raw : ActsIn old.config k.dark.values old.access new.access old.journal old.recovery made done told
  marked-raw = recovers old.config k.dark.values old.access new.access old.journal old.recovery made done told k.memory
      (subst (λ phase. StepsIn phase old.access 0 made done told new.access) (sym k.memory.recovering.phase) a.step)

  words : memory_words new.access ≡ words_after_marks old.journal.start (mark_of 0 made ∷ old.journal.past)
  words = act-marked 0 old.access new.access old.journal made done k.memory.words k.memory.past a.step.one

  was : image_after old.journal.start old.journal.past ≡ slice_index old.access.durable
  was = ap (λ z. slice_index z.durable) (sym k.memory.words)

  becomes : image_after old.journal.start (mark_of 0 made ∷ old.journal.past) ≡ slice_index new.access.durable
  becomes = ap (λ z. slice_index z.durable) (sym words)

  sound : IsSound old.config old.at_start (with_mark old.journal (mark_of 0 made))
  sound = by-act made refl
    where
      found-quietly : IsQuietAct (mark_of 0 made) → IsSound old.config old.at_start (with_mark old.journal (mark_of 0 made))
      found-quietly q = b.quiet old.config old.at_start old.journal (mark_of 0 made) k.dark.sound q (raw-follows old made log-power) (act-found 0 old.access new.access old.journal made k.memory.words a.step.one.act.found a.step.one.within)

      flushed-so : IsAfterFence (mark_of 0 made ∷ old.journal.past) → IsSound old.config old.at_start (with_mark old.journal (mark_of 0 made))
      flushed-so flushes =
          b.flush old.config old.at_start old.journal (mark_of 0 made) k.dark.sound flushes (raw-follows old made log-power)
          (b.same old.config old.at_start old.journal (mark_of 0 made) k.dark.sound flushes (subst (λ i. image_fault old.config i ≡ None) (sym becomes) marked-raw.same.well_formed)
          (λ key. ap (λ i. content_in old.config i key) becomes ∙ (marked-raw.same.content key ∙ ap (λ i. content_in old.config i key) (sym was))))

      by-act : (x : Act) → made ≡ x → IsSound old.config old.at_start (with_mark old.journal (mark_of 0 made))
      by-act (act.Load d v) e = found-quietly (subst (λ (z : Act). IsQuietAct (mark_of 0 z)) (sym e) tt)
      by-act (act.Store d v) e = found-quietly (subst (λ (z : Act). IsQuietAct (mark_of 0 z)) (sym e) tt)
      by-act (act.Cas d o n f) e = found-quietly (subst (λ (z : Act). IsQuietAct (mark_of 0 z)) (sym e) tt)
      by-act (act.Ask line) e = found-quietly (subst (λ (z : Act). IsQuietAct (mark_of 0 z)) (sym e) tt)
      by-act act.Fence e = flushed-so (subst (λ (z : Act). IsAfterFence (mark_of 0 z ∷ old.journal.past)) (sym e) tt)

  tabled : IsTabled (record old { access = new.access; journal = with_mark old.journal (mark_of 0 made) })
  tabled = tabled-acted old 0 made done new.access a.step.one (omega (arith, room)) k.dark.tabled

  -- what does not tell the turn
  dark-on : IsDark (record old { access = new.access; journal = with_mark old.journal (mark_of 0 made) })
  dark-on = record {
    tabled = tabled;
    sound = sound;
    leaves = (λ on. absurd (let says : power.On ≡ power.Recovering = sym on ∙ log-power in cc says), k.dark.leaves);
    none = k.dark.none;
    slots = k.dark.slots;
    values = k.dark.values;
  }

  -- the act is made, and the recovery is to be told
  pub made-on : done ≢ Busy → IsRecovering new recovery.Made
  unfolding dark-on
  made-on ends = subst (λ (p : Parts). IsRecovering p recovery.Made) (sym a.rest) (record { dark = dark-on; walks = k.walks; memory = (marked-raw.ends ends).marked })

  pub hears-on : done ≢ Busy → (seen : Seen) → seen ≡ seen_of done → Hears new.recovery seen
  hears-on ends seen e = subst (λ t. Hears t seen) (sym (ap (λ (p : Parts). p.recovery) a.rest)) (subst (Hears old.recovery) (sym e) (marked-raw.ends ends).recovers.hears)

  pub told-on : done ≢ Busy → (seen : Seen) → seen ≡ seen_of done → Tells new.recovery seen (recovery.words_in new.access)
  told-on ends seen e = subst (λ t. Tells t seen (recovery.words_in new.access)) (sym (ap (λ (p : Parts). p.recovery) a.rest)) (subst (λ z. Tells old.recovery z (recovery.words_in new.access)) (sym e) (marked-raw.ends ends).recovers.tells)

  -- or a flush goes on
  pub flush-on : done ≡ Busy → IsStarted new
  unfolding dark-on
  flush-on busy = subst IsStarted (sym a.rest) (record { dark = dark-on; walks = k.walks; memory = (marked-raw.goes_on busy).marked })

  pub after-on : IsAfterRecovering new.journal.past
  after-on = subst (λ (p : Parts). IsAfterRecovering p.journal.past) (sym a.rest) (raw-after old.journal.past made)

-- an eviction between two acts
module _ (b : Laws) (leave : EvictionsAreMarked) (old new : Parts) (a : ℕ) (told : Option ℕ) (k : IsStarted old) (is : old.power ≡ power.Recovering) (within : a < length old.access.cached) (room : length old.journal.past + 3 ≤ old.config.marks) (e : IsEvicted old a told new) where
  evicts : EvictsIn old.config k.dark.values old.access new.access old.journal recovery.Started old.recovery a told
  evicts = leave old.config k.dark.values old.access new.access old.journal recovery.Started old.recovery a told k.memory within e.eviction

  abbrev stays : StaysRecovering old.config k.dark.values old.access new.access recovery.Started old.recovery told
  stays = evicts.stays

  evict-sound : IsSound old.config old.at_start (with_mark old.journal (Evict a))
  evict-sound =
      let follows : power_of old.at_start old.journal.past ≢ power.Off = λ off. let says = k.dark.tabled.power in absurd (cc (off, says, is)) in
      let was : image_after old.journal.start old.journal.past ≡ slice_index old.access.durable = ap (λ z. slice_index z.durable) (sym k.memory.words) in
      let becomes : image_after old.journal.start (Evict a ∷ old.journal.past) ≡ slice_index new.access.durable = ap (λ z. slice_index z.durable) (sym evicts.marked.words) in
      b.flush old.config old.at_start old.journal (Evict a) k.dark.sound tt follows
      (b.same old.config old.at_start old.journal (Evict a) k.dark.sound tt (subst (λ i. image_fault old.config i ≡ None) (sym becomes) stays.same.well_formed)
      (λ key. ap (λ i. content_in old.config i key) becomes ∙ (stays.same.content key ∙ ap (λ i. content_in old.config i key) (sym was))))

  evict-tabled : IsTabled (record old { access = new.access; journal = with_mark old.journal (Evict a) })
  evict-tabled = tabled-evicted old a told new.access e.eviction (omega (arith, room)) k.dark.tabled

  pub evict-started : IsKept new
  evict-started = subst IsKept (sym e.rest) (kept-started (record old { access = new.access; journal = with_mark old.journal (Evict a) }) is (record {
    dark = record {
      tabled = evict-tabled;
      sound = evict-sound;
      leaves = (λ on. absurd (let says : power.On ≡ power.Recovering = sym on ∙ (k.dark.tabled.power ∙ is) in cc says), k.dark.leaves);
      none = k.dark.none;
      slots = k.dark.slots;
      values = k.dark.values;
    };
    walks = k.walks;
    memory = evicts.marked;
  }))

  pub evict-past : new.journal ≡ with_mark old.journal (Evict a)
  evict-past = ap (λ (p : Parts). p.journal) e.rest

-- a start of worker 0
module _ (turns : TurnsMakeNoMark) (p : Parts) (k : IsRecovering p recovery.Asked) (doing : Doing) (memory : recovery.IsRecovering p.config k.dark.values (started p.access 0 doing) recovery.Started p.recovery) where
  pub started-recovering : IsStarted (record p { access = started p.access 0 doing })
  started-recovering = record {
    dark = record {
      tabled = tabled-beside (record { workers = refl; owners = refl; crew = length-set p.access.workers 0 (record { doing = doing; flush_next = false }); steps = refl; rest = refl }) k.dark.tabled;
      sound = k.dark.sound;
      leaves = k.dark.leaves;
      none = k.dark.none;
      slots = k.dark.slots;
      values = k.dark.values;
    };
    walks = k.walks;
    memory = turns p.config k.dark.values p.access (started p.access 0 doing) p.journal recovery.Asked recovery.Started p.recovery p.recovery k.memory refl refl memory
        (let same : acts_left p.recovery (recovery.words_in (started p.access 0 doing)) ≡ acts_left p.recovery (recovery.words_in p.access) = refl in
        let some : 0 < length p.access.workers = omega (arith, k.memory.recovering.memory.workers) in
        let asks_first : (worker_of (started p.access 0 doing) 0).flush_next ≡ false = ap (λ (u : Working). u.flush_next) (get_or-set_same p.access.workers 0 (record { doing = doing; flush_next = false }) idle some) in
        let come : recovery.to_come recovery.Started (started p.access 0 doing) (asks_of p.recovery) ≡ steps_in (asks_of p.recovery) = rw asks_first refl in
        omega (arith, same, come));
  }
