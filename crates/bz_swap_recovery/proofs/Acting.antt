-- The acts of worker 0 in a recovery time are those that the sweep asked for, and leave what it knows; so do evictions.
use Rattle.std.proofs.Common.{◌≡◌, ◌≢◌, ℕ, zero, suc, ◌+◌, ◌^◌, ◌<◌, ◌==◌, true, false, length, slice_index, Option, Some, None, arith, refl, sym, ap, subst, ◌∙◌}
use Rattle.bz_swap_acts.specs.Rule.{after_act, is_fence_act, FoundRightly}
use Rattle.bz_swap_acts.specs.declared.acted.Act.{Act}
use Rattle.bz_swap_acts.specs.declared.acted.Act.TheVariants as act
use Rattle.bz_layout.specs.Addresses.{line_of}
use Rattle.bz_swap_machine.specs.declared.done.Done.{Done}
use Rattle.bz_swap_machine.specs.declared.done.Done.TheVariants as done
use Rattle.bz_pm.specs.Acts.{stored, evicted}
use Rattle.bz_pm.specs.State.{State}
use Rattle.bz_pm.specs.Words.{Words, IsMemory}
use Rattle.bz_swap.specs.Evictions.{EvictsIn}
use Rattle.bz_swap.specs.PlainFields.{WritesPlain}
use Rattle.bz_swap.specs.Steps.{IsAnswer, IsOneAct, IsRawStep, StepsIn, doing_after}
use Rattle.bz_swap.specs.SwapMemory.{SwapMemory, Doing, Idle, Swapping, Flushing, Working, memory_words, memory_state, worker_of, doing_of}
use Rattle.bz_swap.specs.declared.phase.Phase.{Phase}
use Rattle.bz_swap.specs.declared.phase.Phase.TheVariants.{Opened, Running, Recovering}
use Rattle.bz_swap.proofs.Proved.{plain_fields_stay, sizes_stay}
use Rattle.bz_swap_marks.proofs.Pasts.{IsPlainAct}
use Rattle.bz_sweep.proofs.Proved.{acts_are_these, acts_left_stay, sweeps_know}
use Rattle.bz_sweep.specs.Areas.{size_of}
use Rattle.bz_sweep.specs.Duties.{Asked as To_make, Made as To_tell, acts_left, asks_of, hears_in, tells_in, Knows}
use Rattle.bz_sweep.specs.Memory.{StoresWord, Flushes, Evicts, memory_of}
use Rattle.bz_sweep.specs.declared.area.Area.{Area}
use Rattle.bz_sweep.specs.declared.ask.Ask.{Ask}
use Rattle.bz_sweep.specs.declared.ask.Ask.TheVariants as ask
use Rattle.bz_sweep.specs.declared.sweep.Sweep.{Sweep}
use Rattle.bz_swap_recovery.specs.Recovering.{HasSizes, IsInRecovery, Turn, Asked, Started, Made, IsPhaseIn, IsBusyIn, IsSweeping, stage_of, doing_for, to_come, words_in}
use Rattle.bz_swap_recovery.specs.Laws.{answer_of, Recovers, StaysSweeping, ActsRecover, EvictionsLeaveSweeps}
use Rattle.bz_swap_recovery.proofs.Powering.{whole-lines, askable-then}
use Rattle.bz_swap_recovery.proofs.Asks.{plain-rightly, fence-rightly, ask-rightly, evict-rightly, fence-flushes}

idle-after : (doing : Doing) (d : Done) → d ≢ done.Busy → doing_after doing d ≡ Idle
idle-after doing done.Busy ends = absurd (ends refl)
idle-after doing (done.Read x) ends = refl
idle-after doing (done.Swapped won) ends = refl
idle-after doing done.Stored ends = refl
idle-after doing done.Flushed ends = refl

module _ (r : Area) (v : ℕ → ℕ) (old new : SwapMemory) (t : Sweep) (made : Act) (answer : Done) (told : Option ℕ) (sweeping : IsSweeping r v old Started t) (s : IsRawStep old 0 made answer told new) where
  lines : IsMemory (memory_words old)
  lines = whole-lines r old sweeping.memory.sizes

  sizes : HasSizes r old
  sizes = sweeping.memory.sizes

  -- what no act changes, where it writes plain words
  memory : WritesPlain made → IsInRecovery r new
  memory plain = record {
    sizes = record {
      area = sizes.area;
      swaps = s.one.others.swaps ∙ sizes.swaps;
      cached = s.one.others.size ∙ sizes.cached;
      durable = sym (sizes_stay.step old new 0 made answer s.one lines).same ∙ (s.one.others.size ∙ sizes.cached);
      workers = omega (arith, sizes.workers, s.one.others.count);
    };
    others = λ w some. ap (λ (u : Working). u.doing) (s.one.others.workers w (omega (arith, some))) ∙ sweeping.memory.others w some;
    fields = plain_fields_stay.recovery old new 0 made answer told lines s plain sweeping.memory.fields;
  }

  -- the recovery time goes on
  not-running : new.phase ≢ Running
  not-running e = let bad : Recovering ≡ Running = sym sweeping.phase ∙ (sym s.one.others.phase ∙ e) in absurd cc

  -- the words after an act
  after : (a : Act) → made ≡ a → memory_words new ≡ (after_act 0 (memory_state old) a).words
  after a is = ap (λ (z : State). z.words) (s.one.act.after ∙ ap (after_act 0 (memory_state old)) is)

  -- a worker that has answered does nothing
  rested : (d : Done) → answer ≡ d → d ≢ done.Busy → doing_of new 0 ≡ Idle
  rested d is ends = s.one.doing ∙ (ap (doing_after (doing_of old 0)) is ∙ idle-after (doing_of old 0) d ends)

  known : (w : Words) → memory_words new ≡ w → Knows t v To_tell (memory_of w) → Knows t v To_tell (words_in new)
  known w words k = subst (λ z. Knows t v To_tell (memory_of z)) (sym words) k

  loads : (a x : ℕ) → asks_of t ≡ Some (ask.Load a) → answer ≡ done.Read x → made ≡ act.Load a x → Recovers r v old new t answer told
  loads a x e is load = record {
    quiet = s.effect;
    hears = subst (λ q. hears_in q (answer_of answer)) (sym e) (subst (λ d. hears_in (Some (ask.Load a)) (answer_of d)) (sym is) fits);
    tells = subst (λ q. tells_in q (answer_of answer) (words_in new)) (sym e) (subst (λ d. tells_in (Some (ask.Load a)) (answer_of d) (words_in new)) (sym is) (ap (λ (z : Words). slice_index z.cached a) words ∙ sym found));
    sweeping = record {
      memory = memory (subst WritesPlain (sym load) tt);
      area = sweeping.area;
      ready = sweeping.ready;
      phase = not-running;
      busy = tt;
      doing = rested (done.Read x) is (λ b. cc);
      asks = plain-rightly old new made answer s.one (subst IsPlainAct (sym load) tt) (ap is_fence_act load) (rested (done.Read x) is (λ b. cc)) sweeping.asks;
      knows = known (memory_words old) words (sweeps_know.loaded t v (words_in old) a sweeping.ready e sweeping.knows);
    };
    left = ap (λ (z : Words). acts_left t (memory_of z)) words;
  }
    where
      words : memory_words new ≡ memory_words old
      words = after (act.Load a x) load

      found : x ≡ slice_index old.cached a
      found = subst (FoundRightly (memory_words old)) load s.one.act.found

      fits : x < 2 ^ 64
      fits = subst (λ n. n < 2 ^ 64) (sym found) (sweeps_know.words t v To_make (words_in old) a sweeping.ready sweeping.knows (sweeps_know.askable t v (words_in old) (ask.Load a) sweeping.ready sweeping.knows e))

  stores : (a x : ℕ) → asks_of t ≡ Some (ask.Store a x) → answer ≡ done.Stored → made ≡ act.Store a x → Recovers r v old new t answer told
  stores a x e is store = record {
    quiet = s.effect;
    hears = subst (λ q. hears_in q (answer_of answer)) (sym e) (subst (λ d. hears_in (Some (ask.Store a x)) (answer_of d)) (sym is) tt);
    tells = subst (λ q. tells_in q (answer_of answer) (words_in new)) (sym e) tt;
    sweeping = record {
      memory = memory (subst WritesPlain (sym store) may.1);
      area = sweeping.area;
      ready = sweeping.ready;
      phase = not-running;
      busy = tt;
      doing = rested done.Stored is (λ b. cc);
      asks = plain-rightly old new made answer s.one (subst IsPlainAct (sym store) tt) (ap is_fence_act store) (rested done.Stored is (λ b. cc)) sweeping.asks;
      knows = known (stored (memory_words old) a x) words (sweeps_know.stored t v (words_in old) (memory_of (stored (memory_words old) a x)) a x sweeping.ready e sweeping.knows changes);
    };
    left = ap (λ (z : Words). acts_left t (memory_of z)) words ∙ acts_left_stay.stored t (words_in old) (memory_of (stored (memory_words old) a x)) a x changes;
  }
    where
      may : (a < size_of r) × (x < 2 ^ 61)
      may = askable-then r v old t (ask.Store a x) sweeping e

      words : memory_words new ≡ stored (memory_words old) a x
      words = after (act.Store a x) store

      changes : StoresWord (words_in old) (memory_of (stored (memory_words old) a x)) a x
      changes = acts_are_these.store (memory_words old) a x lines (subst (λ n. a < n) (sym sizes.cached) may.0) (omega (arith, may.1))

  -- the fence of a flush
  flushes : (line : ℕ) → asks_of t ≡ Some (ask.Flush line) → answer ≡ done.Flushed → made ≡ act.Fence → Recovers r v old new t answer told
  flushes line e is fence = record {
    quiet = s.effect;
    hears = subst (λ q. hears_in q (answer_of answer)) (sym e) (subst (λ d. hears_in (Some (ask.Flush line)) (answer_of d)) (sym is) tt);
    tells = subst (λ q. tells_in q (answer_of answer) (words_in new)) (sym e) tt;
    sweeping = record {
      memory = memory (subst WritesPlain (sym fence) tt);
      area = sweeping.area;
      ready = sweeping.ready;
      phase = not-running;
      busy = tt;
      doing = rested done.Flushed is (λ b. cc);
      asks = fence-rightly old new answer (subst (λ z. IsOneAct old 0 z answer new) fence s.one) (rested done.Flushed is (λ b. cc)) sweeping.asks;
      knows = sweeps_know.flushed t v (words_in old) (words_in new) line sweeping.ready e sweeping.knows changes;
    };
    left = acts_left_stay.copied t v To_make (words_in old) (words_in new) (λ k. line_of k == line) sweeping.knows changes;
  }
    where
      changes : Flushes (words_in old) (words_in new) line
      changes = fence-flushes old new line answer (subst (λ z. IsOneAct old 0 z answer new) fence s.one)
          (sweeping.asks.flushes line (sweeping.doing ∙ ap doing_for e) (sym s.one.flush ∙ ap is_fence_act fence))

  -- by what was asked for
  by-asked : (q : Option Ask) (d : Done) → asks_of t ≡ q → answer ≡ d → d ≢ done.Busy → IsAnswer new (doing_for q) made d → Recovers r v old new t answer told
  by-asked (Some (ask.Load a)) (done.Read x) e is ends h = loads a x e is h
  by-asked (Some (ask.Load a)) done.Busy e is ends h = absurd h
  by-asked (Some (ask.Load a)) (done.Swapped won) e is ends h = absurd h
  by-asked (Some (ask.Load a)) done.Stored e is ends h = absurd h
  by-asked (Some (ask.Load a)) done.Flushed e is ends h = absurd h
  by-asked (Some (ask.Store a x)) done.Stored e is ends h = stores a x e is h
  by-asked (Some (ask.Store a x)) done.Busy e is ends h = absurd h
  by-asked (Some (ask.Store a x)) (done.Read y) e is ends h = absurd h
  by-asked (Some (ask.Store a x)) (done.Swapped won) e is ends h = absurd h
  by-asked (Some (ask.Store a x)) done.Flushed e is ends h = absurd h
  by-asked (Some (ask.Flush line)) done.Flushed e is ends h = flushes line e is h
  by-asked (Some (ask.Flush line)) done.Busy e is ends h = absurd (ends refl)
  by-asked (Some (ask.Flush line)) (done.Read y) e is ends h = absurd h
  by-asked (Some (ask.Flush line)) (done.Swapped won) e is ends h = absurd h
  by-asked (Some (ask.Flush line)) done.Stored e is ends h = absurd h
  by-asked (Some ask.Finish) d e is ends h = absurd h
  by-asked None d e is ends h = absurd h

  -- the ask of a flush
  asks : (line : ℕ) → asks_of t ≡ Some (ask.Flush line) → answer ≡ done.Busy → made ≡ act.Ask line → (to_come Started old (asks_of t) ≡ to_come Started new (asks_of t) + 1) × StaysSweeping r v old new Started t told
  asks line e is made-ask = (
    come,
    record {
      quiet = s.effect;
      sweeping = record {
        memory = memory (subst WritesPlain (sym made-ask) tt);
        area = sweeping.area;
        ready = sweeping.ready;
        phase = s.one.others.phase ∙ sweeping.phase;
        busy = λ rests. (let bad : Idle ≡ Flushing line = sym rests ∙ doing in cc);
        doing = doing ∙ ap doing_for (sym e);
        asks = ask-rightly old new line answer (subst (λ z. IsOneAct old 0 z answer new) made-ask s.one) doing sweeping.asks;
        knows = subst (λ z. Knows t v To_make (memory_of z)) (sym words) sweeping.knows;
      };
      left = ap (λ (z : Words). acts_left t (memory_of z)) words;
    },
  )
    where
      words : memory_words new ≡ memory_words old
      words = after (act.Ask line) made-ask

      doing : doing_of new 0 ≡ Flushing line
      doing = s.one.doing ∙ (ap (doing_after (doing_of old 0)) is ∙ (sweeping.doing ∙ ap doing_for e))

      come : to_come Started old (asks_of t) ≡ to_come Started new (asks_of t) + 1
      come =
          let before : (worker_of old 0).flush_next ≡ false = sym s.one.flush ∙ ap is_fence_act made-ask in
          let later : (worker_of new 0).flush_next ≡ true = s.one.fences line doing in
          rw (before, later, e) refl

  by-busy : (q : Option Ask) → asks_of t ≡ q → answer ≡ done.Busy → IsAnswer new (doing_for q) made done.Busy → (to_come Started old (asks_of t) ≡ to_come Started new (asks_of t) + 1) × StaysSweeping r v old new Started t told
  by-busy (Some (ask.Load a)) e is h = absurd h
  by-busy (Some (ask.Store a x)) e is h = absurd h
  by-busy (Some (ask.Flush line)) e is h = asks line e is h
  by-busy (Some ask.Finish) e is h = absurd h
  by-busy None e is h = absurd h

pub acts-recover : ActsRecover
acts-recover r v old new t made answer told sweeping s =
    let raw : IsRawStep old 0 made answer told new = subst (λ p. StepsIn p old 0 made answer told new) sweeping.phase s in
    let shown : IsAnswer new (doing_for (asks_of t)) made answer = subst (λ d. IsAnswer new d made answer) sweeping.doing raw.one.answer in
    record {
      ends = λ ends. by-asked r v old new t made answer told sweeping raw (asks_of t) answer refl refl ends shown;
      goes_on = λ busy. by-busy r v old new t made answer told sweeping raw (asks_of t) refl busy (subst (λ d. IsAnswer new (doing_for (asks_of t)) made d) busy shown);
    }

-- no eviction gives a swap its effect, as nobody makes one
idle-quiet : (old new : SwapMemory) (p : Phase) (told : Option ℕ) → p ≢ Running → ((w : ℕ) → doing_of old w ≡ Idle) → EvictsIn p old told new → told ≡ None
idle-quiet old new Opened None ne idle h = refl
idle-quiet old new Opened (Some k) ne idle h = let bad : Idle ≡ Swapping k = sym (idle h.worker) ∙ h.pending in absurd cc
idle-quiet old new Running told ne idle h = absurd (ne refl)
idle-quiet old new Recovering told ne idle h = h

all-idle : (r : Area) (m : SwapMemory) → IsInRecovery r m → doing_of m 0 ≡ Idle → (w : ℕ) → doing_of m w ≡ Idle
all-idle r m h first zero = first
all-idle r m h first (suc w) = h.others (suc w) (omega arith)

evicts-quietly : (r : Area) (v : ℕ → ℕ) (old new : SwapMemory) (turn : Turn) (t : Sweep) (told : Option ℕ) → IsSweeping r v old turn t → EvictsIn old.phase old told new → told ≡ None
evicts-quietly r v old new Asked t told sweeping h = idle-quiet old new old.phase told sweeping.phase (all-idle r old sweeping.memory sweeping.doing) h
evicts-quietly r v old new Started t told sweeping h = subst (λ p. EvictsIn p old told new) sweeping.phase h
evicts-quietly r v old new Made t told sweeping h = idle-quiet old new old.phase told sweeping.phase (all-idle r old sweeping.memory sweeping.doing) h

-- evictions
pub evictions-leave : EvictionsLeaveSweeps
evictions-leave r v old new turn t a told sweeping within h = record {
  quiet = evicts-quietly r v old new turn t told sweeping h.effect;
  sweeping = record {
    memory = record {
      sizes = record {
        area = sweeping.memory.sizes.area;
        swaps = ap (λ (z : SwapMemory). z.swaps) h.is ∙ sweeping.memory.sizes.swaps;
        cached = cached;
        durable = sym (sizes_stay.eviction old new a told h lines).same ∙ cached;
        workers = omega (arith, sweeping.memory.sizes.workers, ap (λ (z : SwapMemory). length z.workers) h.is);
      };
      others = λ w some. ap (λ z. doing_of z w) h.is ∙ sweeping.memory.others w some;
      fields = plain_fields_stay.eviction old new a told h sweeping.memory.fields;
    };
    area = sweeping.area;
    ready = sweeping.ready;
    phase = subst (IsPhaseIn turn) (sym (ap (λ (z : SwapMemory). z.phase) h.is)) sweeping.phase;
    doing = ap (λ z. doing_of z 0) h.is ∙ sweeping.doing;
    busy = subst (IsBusyIn turn) (sym (ap (λ z. doing_of z 0) h.is)) sweeping.busy;
    asks = evict-rightly old new a told h sweeping.asks;
    knows = subst (λ z. Knows t v (stage_of turn) (memory_of z)) (sym words) (sweeps_know.stable t v (stage_of turn) (words_in old) (memory_of (evicted (memory_words old) a)) (λ k. k == a) sweeping.ready sweeping.knows evicts);
  };
  left = ap (λ (z : Words). acts_left t (memory_of z)) words ∙ acts_left_stay.copied t v (stage_of turn) (words_in old) (memory_of (evicted (memory_words old) a)) (λ k. k == a) sweeping.knows evicts;
}
  where
    lines : IsMemory (memory_words old)
    lines = whole-lines r old sweeping.memory.sizes

    words : memory_words new ≡ evicted (memory_words old) a
    words = ap memory_words h.is

    cached : length new.cached ≡ size_of r
    cached = ap (λ (z : SwapMemory). length z.cached) h.is ∙ sweeping.memory.sizes.cached

    evicts : Evicts (words_in old) (memory_of (evicted (memory_words old) a)) a
    evicts = acts_are_these.evict (memory_words old) a lines within
