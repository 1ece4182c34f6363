-- The acts of worker 0 in a recovery time are those that were asked for, and leave what the durable words hold; so do evictions.
use Rattle.std.proofs.Common.{◌≡◌, ◌≢◌, ℕ, zero, suc, ◌+◌, ◌*◌, ◌^◌, ◌<◌, ◌==◌, true, false, length, slice_index, Option, Some, None, arith, refl, sym, ap, subst, ◌∙◌}
use Rattle.bz_swap_acts.specs.Rule.{after_act, is_fence_act, FoundRightly}
use Rattle.bz_swap_acts.specs.declared.acted.Act.{Act}
use Rattle.bz_swap_acts.specs.declared.acted.Act.TheVariants as act
use Rattle.bz_content.specs.Content.{image_fault}
use Rattle.bz_layout.specs.Addresses.{line_of, words_of as size_of}
use Rattle.bz_layout.specs.declared.config.Config.{Config}
use Rattle.bz_layout.specs.declared.sizes.TheConstants.{LINE_WORDS}
use Rattle.bz_swap_machine.specs.declared.done.Done.{Done}
use Rattle.bz_swap_machine.specs.declared.done.Done.TheVariants as done
use Rattle.bz_pm.specs.Acts.{stored, evicted}
use Rattle.bz_pm.specs.State.{State}
use Rattle.bz_pm.specs.Words.{Words, IsMemory}
use Rattle.bz_recover.specs.Contents.{ResolvesSome, SaysTheSame}
use Rattle.bz_recover.specs.Duties.{config_of, asks_of, acts_left, Knows, hears_in, tells_in}
use Rattle.bz_recover.specs.FromSweep.Memory.{StoresWord, Flushes, Evicts, memory_of}
use Rattle.bz_recover.specs.declared.recover.Recover.{Recover}
use Rattle.bz_recover.proofs.Proved.{acts_are_these, acts_left_stay, recoveries_know, resolving_keeps_the_content}
use Rattle.bz_swap.specs.Evictions.{EvictsIn}
use Rattle.bz_swap.specs.PlainFields.{WritesPlain}
use Rattle.bz_swap.specs.Steps.{IsAnswer, IsOneAct, IsRawStep, StepsIn, doing_after}
use Rattle.bz_swap.specs.SwapMemory.{SwapMemory, Doing, Idle, Swapping, Flushing, Working, memory_words, memory_state, worker_of, doing_of}
use Rattle.bz_swap.specs.declared.phase.Phase.{Phase}
use Rattle.bz_swap.specs.declared.phase.Phase.TheVariants.{Opened, Running, Recovering}
use Rattle.bz_swap.proofs.Proved.{plain_fields_stay, sizes_stay}
use Rattle.bz_task.specs.Scene.{Waiting, Took}
use Rattle.bz_task.specs.declared.todo.Todo.{Todo}
use Rattle.bz_task.specs.declared.todo.Todo.TheVariants as todo
use Rattle.bz_refinement.specs.Recovering.{IsInRecovery, Turn, Asked, Started, Made, IsPhaseIn, IsBusyIn, IsRecovering, stage_of, doing_for, to_come, words_in}
use Rattle.bz_refinement.specs.RecoveryLaws.{IsAsked, seen_of, Recovers, StaysRecovering, ActsRecover, EvictionsLeaveRecoveries}
use Rattle.bz_refinement.proofs.Powering.{whole-lines, askable-then}
use Rattle.bz_refinement.proofs.RecoveryAsks.{plain-rightly, fence-rightly, ask-rightly, evict-rightly, fence-flushes}
use Rattle.bz_swap_marks.proofs.Pasts.{IsPlainAct}

-- an image holds what it holds
holds-itself : (c : Config) (x : ℕ → ℕ) → image_fault c x ≡ None → SaysTheSame c x x
holds-itself c x form = record { well_formed = form; inside = λ k. refl; content = λ key. refl }

-- where words became what they stand for
resolved : (c : Config) (v : ℕ → ℕ) (old new : SwapMemory) (turn : Turn) (t : Recover) (w : Words) → IsRecovering c v old turn t → memory_words new ≡ w → ResolvesSome (config_of t) v (slice_index old.durable) (slice_index w.durable)
    → SaysTheSame c (slice_index old.durable) (slice_index new.durable)
resolved c v old new turn t w r words h =
    subst (λ (z : Words). SaysTheSame c (slice_index old.durable) (slice_index z.durable)) (sym words)
    (resolving_keeps_the_content c v (slice_index old.durable) (slice_index w.durable) r.memory.form (subst (λ d. ResolvesSome d v (slice_index old.durable) (slice_index w.durable)) r.config h))

idle-after : (doing : Doing) (d : Done) → d ≢ done.Busy → doing_after doing d ≡ Idle
idle-after doing done.Busy ends = absurd (ends refl)
idle-after doing (done.Read x) ends = refl
idle-after doing (done.Swapped won) ends = refl
idle-after doing done.Stored ends = refl
idle-after doing done.Flushed ends = refl

module _ (c : Config) (v : ℕ → ℕ) (old new : SwapMemory) (t : Recover) (made : Act) (answer : Done) (told : Option ℕ) (r : IsRecovering c v old Started t) (s : IsRawStep old 0 made answer told new) where
  lines : IsMemory (memory_words old)
  lines = whole-lines c old r.memory.config r.memory.cached r.memory.durable

  -- what no act changes, where it writes plain words and leaves what the durable words hold
  memory : WritesPlain made → SaysTheSame c (slice_index old.durable) (slice_index new.durable) → IsInRecovery c new
  memory plain same = record {
    config = r.memory.config;
    swaps = s.one.others.swaps ∙ r.memory.swaps;
    cached = s.one.others.size ∙ r.memory.cached;
    durable = sym (sizes_stay.step old new 0 made answer s.one lines).same ∙ (s.one.others.size ∙ r.memory.cached);
    workers = s.one.others.count ∙ r.memory.workers;
    others = λ w some. ap (λ (u : Working). u.doing) (s.one.others.workers w (omega (arith, some))) ∙ r.memory.others w some;
    fields = plain_fields_stay.recovery old new 0 made answer told lines s plain r.memory.fields;
    form = same.well_formed;
  }

  -- the recovery time goes on
  not-running : new.phase ≢ Running
  not-running e = let bad : Recovering ≡ Running = sym r.phase ∙ (sym s.one.others.phase ∙ e) in absurd cc

  -- the words after an act
  after : (a : Act) → made ≡ a → memory_words new ≡ (after_act 0 (memory_state old) a).words
  after a is = ap (λ (z : State). z.words) (s.one.act.after ∙ ap (after_act 0 (memory_state old)) is)

  -- a worker that has answered does nothing
  rested : (d : Done) → answer ≡ d → d ≢ done.Busy → doing_of new 0 ≡ Idle
  rested d is ends = s.one.doing ∙ (ap (doing_after (doing_of old 0)) is ∙ idle-after (doing_of old 0) d ends)

  unchanged : (w : Words) → memory_words new ≡ w → w.durable ≡ old.durable → SaysTheSame c (slice_index old.durable) (slice_index new.durable)
  unchanged w words same = subst (λ d. SaysTheSame c (slice_index old.durable) (slice_index d)) (sym (ap (λ (z : Words). z.durable) words ∙ same)) (holds-itself c (slice_index old.durable) r.memory.form)

  known : (w : Words) → memory_words new ≡ w → Knows t v Took (memory_of w) → Knows t v Took (words_in new)
  known w words k = subst (λ z. Knows t v Took (memory_of z)) (sym words) k

  loads : (a x : ℕ) → asks_of t ≡ Some (todo.Load a) → answer ≡ done.Read x → made ≡ act.Load a x → Recovers c v old new t made answer told
  loads a x e is load = record {
    asked = subst (λ q. IsAsked q made) (sym e) (x, load);
    quiet = s.effect;
    hears = subst (λ q. hears_in q (seen_of answer)) (sym e) (subst (λ d. hears_in (Some (todo.Load a)) (seen_of d)) (sym is) fits);
    tells = subst (λ q. tells_in q (seen_of answer) (words_in new)) (sym e) (subst (λ d. tells_in (Some (todo.Load a)) (seen_of d) (words_in new)) (sym is) (ap (λ (z : Words). slice_index z.cached a) words ∙ sym found));
    recovering = record {
      memory = memory (subst WritesPlain (sym load) tt) same;
      config = r.config;
      ready = r.ready;
      phase = not-running;
      busy = tt;
      doing = rested (done.Read x) is (λ b. cc);
      asks = plain-rightly old new made answer s.one (subst IsPlainAct (sym load) tt) (ap is_fence_act load) (rested (done.Read x) is (λ b. cc)) r.asks;
      knows = known (memory_words old) words (recoveries_know.loaded t v (words_in old) a r.ready e r.knows);
    };
    left = ap (λ (z : Words). acts_left t (memory_of z)) words;
    same = same;
  }
    where
      words : memory_words new ≡ memory_words old
      words = after (act.Load a x) load

      found : x ≡ slice_index old.cached a
      found = subst (FoundRightly (memory_words old)) load s.one.act.found

      fits : x < 2 ^ 64
      fits = subst (λ n. n < 2 ^ 64) (sym found) (recoveries_know.words t v Waiting (words_in old) a r.ready r.knows (recoveries_know.askable t v (words_in old) (todo.Load a) r.ready r.knows e))

      same : SaysTheSame c (slice_index old.durable) (slice_index new.durable)
      same = unchanged (memory_words old) words refl

  stores : (a x : ℕ) → asks_of t ≡ Some (todo.Store a x) → answer ≡ done.Stored → made ≡ act.Store a x → Recovers c v old new t made answer told
  stores a x e is store = record {
    asked = subst (λ q. IsAsked q made) (sym e) store;
    quiet = s.effect;
    hears = subst (λ q. hears_in q (seen_of answer)) (sym e) (subst (λ d. hears_in (Some (todo.Store a x)) (seen_of d)) (sym is) tt);
    tells = subst (λ q. tells_in q (seen_of answer) (words_in new)) (sym e) tt;
    recovering = record {
      memory = memory (subst WritesPlain (sym store) may.1) same;
      config = r.config;
      ready = r.ready;
      phase = not-running;
      busy = tt;
      doing = rested done.Stored is (λ b. cc);
      asks = plain-rightly old new made answer s.one (subst IsPlainAct (sym store) tt) (ap is_fence_act store) (rested done.Stored is (λ b. cc)) r.asks;
      knows = known (stored (memory_words old) a x) words (recoveries_know.stored t v (words_in old) (memory_of (stored (memory_words old) a x)) a x r.ready e r.knows changes);
    };
    left = ap (λ (z : Words). acts_left t (memory_of z)) words ∙ acts_left_stay.stored t (words_in old) (memory_of (stored (memory_words old) a x)) a x changes;
    same = same;
  }
    where
      may : (a < size_of c) × (x < 2 ^ 61)
      may = askable-then c v old t (todo.Store a x) r e

      words : memory_words new ≡ stored (memory_words old) a x
      words = after (act.Store a x) store

      changes : StoresWord (words_in old) (memory_of (stored (memory_words old) a x)) a x
      changes = acts_are_these.store (memory_words old) a x lines (subst (λ n. a < n) (sym r.memory.cached) may.0) (omega (arith, may.1))

      same : SaysTheSame c (slice_index old.durable) (slice_index new.durable)
      same = unchanged (stored (memory_words old) a x) words refl

  -- the fence of a flush
  flushes : (line : ℕ) → asks_of t ≡ Some (todo.Flush line) → answer ≡ done.Flushed → made ≡ act.Fence → Recovers c v old new t made answer told
  flushes line e is fence = record {
    asked = subst (λ q. IsAsked q made) (sym e) fence;
    quiet = s.effect;
    hears = subst (λ q. hears_in q (seen_of answer)) (sym e) (subst (λ d. hears_in (Some (todo.Flush line)) (seen_of d)) (sym is) tt);
    tells = subst (λ q. tells_in q (seen_of answer) (words_in new)) (sym e) tt;
    recovering = record {
      memory = memory (subst WritesPlain (sym fence) tt) same;
      config = r.config;
      ready = r.ready;
      phase = not-running;
      busy = tt;
      doing = rested done.Flushed is (λ b. cc);
      asks = fence-rightly old new answer (subst (λ z. IsOneAct old 0 z answer new) fence s.one) (rested done.Flushed is (λ b. cc)) r.asks;
      knows = recoveries_know.flushed t v (words_in old) (words_in new) line r.ready e r.knows changes;
    };
    left = acts_left_stay.copied t v Waiting (words_in old) (words_in new) (λ k. line_of k == line) r.knows changes;
    same = same;
  }
    where
      changes : Flushes (words_in old) (words_in new) line
      changes = fence-flushes old new line answer (subst (λ z. IsOneAct old 0 z answer new) fence s.one)
          (r.asks.flushes line (r.doing ∙ ap doing_for e) (sym s.one.flush ∙ ap is_fence_act fence))

      same : SaysTheSame c (slice_index old.durable) (slice_index new.durable)
      same = resolved c v old new Started t (memory_words new) r refl (recoveries_know.resolves t v Waiting (words_in old) (words_in new) (λ k. line_of k == line) r.ready r.knows changes)

  -- by what was asked for
  by-asked : (q : Option Todo) (d : Done) → asks_of t ≡ q → answer ≡ d → d ≢ done.Busy → IsAnswer new (doing_for q) made d → Recovers c v old new t made answer told
  by-asked (Some (todo.Load a)) (done.Read x) e is ends h = loads a x e is h
  by-asked (Some (todo.Load a)) done.Busy e is ends h = absurd h
  by-asked (Some (todo.Load a)) (done.Swapped won) e is ends h = absurd h
  by-asked (Some (todo.Load a)) done.Stored e is ends h = absurd h
  by-asked (Some (todo.Load a)) done.Flushed e is ends h = absurd h
  by-asked (Some (todo.Store a x)) done.Stored e is ends h = stores a x e is h
  by-asked (Some (todo.Store a x)) done.Busy e is ends h = absurd h
  by-asked (Some (todo.Store a x)) (done.Read y) e is ends h = absurd h
  by-asked (Some (todo.Store a x)) (done.Swapped won) e is ends h = absurd h
  by-asked (Some (todo.Store a x)) done.Flushed e is ends h = absurd h
  by-asked (Some (todo.Flush line)) done.Flushed e is ends h = flushes line e is h
  by-asked (Some (todo.Flush line)) done.Busy e is ends h = absurd (ends refl)
  by-asked (Some (todo.Flush line)) (done.Read y) e is ends h = absurd h
  by-asked (Some (todo.Flush line)) (done.Swapped won) e is ends h = absurd h
  by-asked (Some (todo.Flush line)) done.Stored e is ends h = absurd h
  by-asked (Some (todo.Read a)) d e is ends h = absurd h
  by-asked (Some (todo.Swap entries)) d e is ends h = absurd h
  by-asked (Some todo.Finish) d e is ends h = absurd h
  by-asked None d e is ends h = absurd h

  -- the ask of a flush
  asks : (line : ℕ) → asks_of t ≡ Some (todo.Flush line) → answer ≡ done.Busy → made ≡ act.Ask line → (to_come Started old (asks_of t) ≡ to_come Started new (asks_of t) + 1) × StaysRecovering c v old new Started t told
  asks line e is ask = (
    come,
    record {
      quiet = s.effect;
      recovering = record {
        memory = memory (subst WritesPlain (sym ask) tt) same;
        config = r.config;
        ready = r.ready;
        phase = s.one.others.phase ∙ r.phase;
        busy = λ rests. (let bad : Idle ≡ Flushing line = sym rests ∙ doing in cc);
        doing = doing ∙ ap doing_for (sym e);
        asks = ask-rightly old new line answer (subst (λ z. IsOneAct old 0 z answer new) ask s.one) doing r.asks;
        knows = subst (λ z. Knows t v Waiting (memory_of z)) (sym words) r.knows;
      };
      left = ap (λ (z : Words). acts_left t (memory_of z)) words;
      same = same;
    },
  )
    where
      words : memory_words new ≡ memory_words old
      words = after (act.Ask line) ask

      same : SaysTheSame c (slice_index old.durable) (slice_index new.durable)
      same = unchanged (memory_words old) words refl

      doing : doing_of new 0 ≡ Flushing line
      doing = s.one.doing ∙ (ap (doing_after (doing_of old 0)) is ∙ (r.doing ∙ ap doing_for e))

      come : to_come Started old (asks_of t) ≡ to_come Started new (asks_of t) + 1
      come =
          let before : (worker_of old 0).flush_next ≡ false = sym s.one.flush ∙ ap is_fence_act ask in
          let later : (worker_of new 0).flush_next ≡ true = s.one.fences line doing in
          rw (before, later, e) refl

  by-busy : (q : Option Todo) → asks_of t ≡ q → answer ≡ done.Busy → IsAnswer new (doing_for q) made done.Busy → (to_come Started old (asks_of t) ≡ to_come Started new (asks_of t) + 1) × StaysRecovering c v old new Started t told
  by-busy (Some (todo.Load a)) e is h = absurd h
  by-busy (Some (todo.Store a x)) e is h = absurd h
  by-busy (Some (todo.Flush line)) e is h = asks line e is h
  by-busy (Some (todo.Read a)) e is h = absurd h
  by-busy (Some (todo.Swap entries)) e is h = absurd h
  by-busy (Some todo.Finish) e is h = absurd h
  by-busy None e is h = absurd h

pub acts-recover : ActsRecover
acts-recover c v old new t made answer told r s =
    let raw : IsRawStep old 0 made answer told new = subst (λ p. StepsIn p old 0 made answer told new) r.phase s in
    let shown : IsAnswer new (doing_for (asks_of t)) made answer = subst (λ d. IsAnswer new d made answer) r.doing raw.one.answer in
    record {
      ends = λ ends. by-asked c v old new t made answer told r raw (asks_of t) answer refl refl ends shown;
      goes_on = λ busy. by-busy c v old new t made answer told r raw (asks_of t) refl busy (subst (λ d. IsAnswer new (doing_for (asks_of t)) made d) busy shown);
    }

-- no eviction gives a swap its effect, as nobody makes one
idle-quiet : (old new : SwapMemory) (p : Phase) (told : Option ℕ) → p ≢ Running → ((w : ℕ) → doing_of old w ≡ Idle) → EvictsIn p old told new → told ≡ None
idle-quiet old new Opened None ne idle h = refl
idle-quiet old new Opened (Some k) ne idle h = let bad : Idle ≡ Swapping k = sym (idle h.worker) ∙ h.pending in absurd cc
idle-quiet old new Running told ne idle h = absurd (ne refl)
idle-quiet old new Recovering told ne idle h = h

all-idle : (c : Config) (m : SwapMemory) → IsInRecovery c m → doing_of m 0 ≡ Idle → (w : ℕ) → doing_of m w ≡ Idle
all-idle c m h first zero = first
all-idle c m h first (suc w) = h.others (suc w) (omega arith)

evicts-quietly : (c : Config) (v : ℕ → ℕ) (old new : SwapMemory) (turn : Turn) (t : Recover) (told : Option ℕ) → IsRecovering c v old turn t → EvictsIn old.phase old told new → told ≡ None
evicts-quietly c v old new Asked t told r h = idle-quiet old new old.phase told r.phase (all-idle c old r.memory r.doing) h
evicts-quietly c v old new Started t told r h = subst (λ p. EvictsIn p old told new) r.phase h
evicts-quietly c v old new Made t told r h = idle-quiet old new old.phase told r.phase (all-idle c old r.memory r.doing) h

-- evictions
pub evictions-leave : EvictionsLeaveRecoveries
evictions-leave c v old new turn t a told r within h = record {
  quiet = evicts-quietly c v old new turn t told r h.effect;
  recovering = record {
    memory = record {
      config = r.memory.config;
      swaps = ap (λ (z : SwapMemory). z.swaps) h.is ∙ r.memory.swaps;
      cached = cached;
      durable = sym (sizes_stay.eviction old new a told h lines).same ∙ cached;
      workers = ap (λ (z : SwapMemory). length z.workers) h.is ∙ r.memory.workers;
      others = λ w some. ap (λ z. doing_of z w) h.is ∙ r.memory.others w some;
      fields = plain_fields_stay.eviction old new a told h r.memory.fields;
      form = same.well_formed;
    };
    config = r.config;
    ready = r.ready;
    phase = subst (IsPhaseIn turn) (sym (ap (λ (z : SwapMemory). z.phase) h.is)) r.phase;
    doing = ap (λ z. doing_of z 0) h.is ∙ r.doing;
    busy = subst (IsBusyIn turn) (sym (ap (λ z. doing_of z 0) h.is)) r.busy;
    asks = evict-rightly old new a told h r.asks;
    knows = subst (λ z. Knows t v (stage_of turn) (memory_of z)) (sym words) (recoveries_know.stable t v (stage_of turn) (words_in old) (memory_of (evicted (memory_words old) a)) (λ k. k == a) r.ready r.knows evicts);
  };
  left = ap (λ (z : Words). acts_left t (memory_of z)) words ∙ acts_left_stay.copied t v (stage_of turn) (words_in old) (memory_of (evicted (memory_words old) a)) (λ k. k == a) r.knows evicts;
  same = same;
}
  where
    lines : IsMemory (memory_words old)
    lines = whole-lines c old r.memory.config r.memory.cached r.memory.durable

    words : memory_words new ≡ evicted (memory_words old) a
    words = ap memory_words h.is

    cached : length new.cached ≡ size_of c
    cached = ap (λ (z : SwapMemory). length z.cached) h.is ∙ r.memory.cached

    evicts : Evicts (words_in old) (memory_of (evicted (memory_words old) a)) a
    evicts = acts_are_these.evict (memory_words old) a lines within

    same : SaysTheSame c (slice_index old.durable) (slice_index new.durable)
    same = resolved c v old new turn t (evicted (memory_words old) a) r words (recoveries_know.resolves t v (stage_of turn) (words_in old) (memory_of (evicted (memory_words old) a)) (λ k. k == a) r.ready r.knows evicts)
