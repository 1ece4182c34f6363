-- Steps and evictions, told by what they do to the words.
use Rattle.std.proofs.Common.{◌≡◌, ◌≢◌, ℕ, ◌⊎◌, false, List, length, slice_index, slice_set, arith, refl, sym, ap, subst, ◌∙◌, inl, inr, Option, Some, None}
use Rattle.std.proofs.lemmas.Bool.{cases_eq}
use Rattle.std.proofs.lemmas.List.{get_or-set_same, get_or-set_other, length-set}
use Rattle.bz_layout.specs.declared.config.Config.{Config}
use Rattle.bz_pm.specs.After.{after_store}
use Rattle.bz_pm.specs.State.{State}
use Rattle.bz_swap_cells.proofs.Pasts.{past_of}
use Rattle.bz_swap_acts.specs.Rule.{after_act, is_fence_act}
use Rattle.bz_swap_acts.specs.declared.acted.Act.{Act}
use Rattle.bz_swap_acts.specs.declared.acted.Act.TheVariants.{Store, Ask, Fence}
use Rattle.bz_swap_cells.specs.Store.{IsOutside}
use Rattle.bz_swap_machine.specs.declared.done.Done.{Done}
use Rattle.bz_swap_machine.specs.declared.done.Done.TheVariants.{Busy, Read, Swapped, Stored, Flushed}
use Rattle.bz_swap.specs.Effects.{NoneTakesEffect, TakesEffect}
use Rattle.bz_swap.specs.Evictions.{IsEviction, EvictsIn}
use Rattle.bz_swap.specs.Held.{Holds, IsHeld}
use Rattle.bz_swap.specs.Steps.{IsOneAct, IsStep, IsAnswer}
use Rattle.bz_swap.specs.SwapMemory.{SwapMemory, Doing, Idle, Reading, Swapping, Loading, Storing, Flushing, doing_of, is_named, memory_state}
use Rattle.bz_swap.specs.Writes.{StoresPrivate, StoresOwn}
use Rattle.bz_swap.specs.declared.phase.Phase.{Phase}
use Rattle.bz_swap.specs.declared.phase.Phase.TheVariants.{Opened, Running, Recovering}
use Rattle.bz_swap.proofs.Proved.{effects_stay_inside, plain_fields_stay, settled_words_stay}
use Rattle.bz_task.specs.Instant.{Instant}
use Rattle.bz_sight.specs.Acts.{QuietStepsPass, StepsLeaveCaches, StoringStepsStore, FlushingStepsFlush, EffectStepsTakePlace, EvictionsAreSeen}
use Rattle.bz_sight.specs.Passing.{SameRest}
use Rattle.bz_sight.specs.Sight.{IsSeen, IsHidden}
use Rattle.bz_sight.proofs.Awaiting.{flushing-answer, step-awaits, eviction-awaits}
use Rattle.bz_sight.proofs.Passings.{held}

-- what no step changes
same-rest : (c : Config) (x : Instant) (old new : SwapMemory) (w : ℕ) (made : Act) (done : Done) (told : Option ℕ) → IsSeen c old x → IsStep old w made done told new → Holds new → SameRest old new
same-rest c x old new w made done told seen step holds =
    let before : IsHeld old = held old seen.phase seen.holds in
    let after : IsHeld new = held new (λ e. seen.phase (sym step.one.others.phase ∙ e)) holds in
    record {
      swaps = step.one.others.swaps;
      phase = step.one.others.phase;
      begun = step.one.others.begun;
      size = omega (arith, before.memory.same, after.memory.same, step.one.others.size);
    }

-- what a worker is doing is a private store, or is none
cases-storing : (d : Doing) → ((a : ℕ) × ((v : ℕ) × (d ≡ Storing a v))) ⊎ ((a v : ℕ) → d ≢ Storing a v)
cases-storing Idle = inr (λ a v e. cc)
cases-storing (Reading b) = inr (λ a v e. cc)
cases-storing (Swapping s) = inr (λ a v e. cc)
cases-storing (Loading b) = inr (λ a v e. cc)
cases-storing (Storing b u) = inl (b, (u, refl))
cases-storing (Flushing l) = inr (λ a v e. cc)

storing-answer : (m : SwapMemory) (a v : ℕ) (made : Act) (done : Done) → IsAnswer m (Storing a v) made done → (made ≡ Store a v) × (done ≡ Stored)
storing-answer m a v made Stored h = (h, refl)
storing-answer m a v made Busy h = absurd h
storing-answer m a v made (Read u) h = absurd h
storing-answer m a v made (Swapped t) h = absurd h
storing-answer m a v made Flushed h = absurd h

no-effect : (done : Done) (told : Option ℕ) → (done ≡ Busy) ⊎ (told ≡ None) → done ≢ Busy → told ≡ None
no-effect done told (inl e) ne = absurd (ne e)
no-effect done told (inr e) ne = e

set-other : (words : List ℕ) (a v b : ℕ) → b ≢ a → slice_index (slice_set words a v) b ≡ slice_index words b
set-other words a v b there = get_or-set_other words a b v 0 there

pub leave-caches : StepsLeaveCaches
leave-caches old new w made done told step none = λ a o private. step.untouched a o private (λ v. none a v)

-- a private store changes the one word
pub storing : StoringStepsStore
storing c x old new w made done told a v seen step doing within =
    let told-so : (made ≡ Store a v) × (done ≡ Stored) = storing-answer new a v made done (subst (λ d. IsAnswer new d made done) doing step.one.answer) in
    let before : IsHeld old = held old seen.phase seen.holds in
    let after : memory_state new ≡ after_store (memory_state old) a v = step.one.act.after ∙ ap (after_act w (memory_state old)) told-so.0 in
    record {
      act = told-so.0;
      answer = told-so.1;
      quiet = no-effect done told step.later (λ e. absurd (let f : Stored ≡ Busy = sym told-so.1 ∙ e in cc));
      stores = record {
        outside = (private told-so.0 (step.writes.stores a v told-so.0)).0;
        private = (private told-so.0 (step.writes.stores a v told-so.0)).1;
        cached = ap (λ (n : State). slice_index n.words.cached a) after ∙ get_or-set_same old.cached a v 0 within;
        others = λ b ne. ap (λ (n : State). slice_index n.words.cached b) after ∙ set-other old.cached a v b ne;
        durable = λ b. ap (λ (n : State). slice_index n.words.durable b) after;
        past = ap (λ (n : State). past_of n) after;
      };
    }
  where
    private : made ≡ Store a v → StoresPrivate old w a v ⊎ StoresOwn old w a v → IsOutside old.swaps a × (is_named old a ≡ false)
    private e (inl p) = (p.outside, p.private)
    private e (inr p) = absurd (let f : Storing a v ≡ Swapping p.swap = sym doing ∙ p.doing in cc)

pub flushing : FlushingStepsFlush
flushing c x old new w made done told line seen step doing within = elim (flushing-answer new line (doing_of old w) made done doing step.one.answer) [
  | inl ask ↦ record { quiet = asked told refl ask.1; ends = λ busy. absurd (busy ask.0) }
  | inr fence ↦ record {
    quiet = no-effect done told step.later (λ e. absurd (let f : Flushed ≡ Busy = sym fence.0 ∙ e in cc));
    ends = λ busy. record {
      answer = fence.0;
      settles = λ a is awaits. settled_words_stay.fenced old new w done a (subst (λ act. IsOneAct old w act done new) fence.1 step.one)
          (awaits (record { doing = doing ∙ ap Flushing (sym is); fence = sym step.one.flush ∙ ap is_fence_act fence.1 }));
    };
  }
]
  where
    -- an ask makes no effect
    asked : (t : Option ℕ) → told ≡ t → made ≡ Ask line → told ≡ None
    asked None is made = is
    asked (Some s) is made = absurd (let f : Ask line ≡ Fence = sym made ∙ (step.inside s is).0 in cc)

pub quiet-step : QuietStepsPass
quiet-step c x old new w made done seen step holds hidden =
    let before : IsHeld old = held old seen.phase seen.holds in
    record {
      same = same-rest c x old new w made done None seen step holds;
      holds = holds;
      fields = plain_fields_stay.step old new w made done None before.memory step seen.fields;
      quiet = step.effect;
      settled = λ a cached settled. settled_words_stay.step old new w made done None a step cached settled;
      awaits = step-awaits old new w made done None step;
      cached = λ a o private. elim (cases-storing (doing_of old w)) [
        | inl s ↦ elim (cases_eq a s.0) [
          | inl e ↦ inr (subst (λ b. IsHidden c x b) (sym e) (hidden s.0 s.1.0 s.1.1))
          | inr ne ↦ inl (step.untouched a o private (λ v f. ne (same-address (sym f ∙ s.1.1))))
        ]
        | inr none ↦ inl (step.untouched a o private (λ v. none a v))
      ];
    }
  where
    same-address : {a b v u : ℕ} → Storing a v ≡ Storing b u → a ≡ b
    same-address e = cc

pub effect-step : EffectStepsTakePlace
effect-step c x old new w made done s seen step holds =
    let before : IsHeld old = held old seen.phase seen.holds in
    record {
      same = same-rest c x old new w made done (Some s) seen step holds;
      holds = holds;
      fields = plain_fields_stay.step old new w made done (Some s) before.memory step seen.fields;
      effect = step.effect;
      durable = (effects_stay_inside.step old new w made done s before.memory step).outside;
      cached = λ a o private. step.untouched a o private (λ v f. not-storing a v f);
      settled = λ a cached settled. settled_words_stay.step old new w made done (Some s) a step cached settled;
      awaits = step-awaits old new w made done (Some s) step;
    }
  where
    not-storing : (a v : ℕ) → doing_of old w ≡ Storing a v → ⊥
    not-storing a v f =
        let told-so : (made ≡ Store a v) × (done ≡ Stored) = storing-answer new a v made done (subst (λ d. IsAnswer new d made done) f step.one.answer) in
        let none : Some s ≡ None = no-effect done (Some s) step.later (λ e. absurd (let g : Stored ≡ Busy = sym told-so.1 ∙ e in cc)) in cc

-- evictions
module _ (old new : SwapMemory) (a : ℕ) (told : Option ℕ) (e : IsEviction old a told new) where
  cached-same : new.cached ≡ old.cached
  cached-same = ap (λ m. m.cached) e.is

  durable-set : new.durable ≡ slice_set old.durable a (slice_index old.cached a)
  durable-set = ap (λ m. m.durable) e.is

  evict-same : SameRest old new
  evict-same = record {
    swaps = ap (λ m. m.swaps) e.is;
    phase = ap (λ m. m.phase) e.is;
    begun = ap (λ m. m.begun) e.is;
    size = ap length durable-set ∙ length-set old.durable a (slice_index old.cached a);
  }

evict-quiet : (old new : SwapMemory) → old.phase ≢ Recovering → EvictsIn old.phase old None new → NoneTakesEffect old new
evict-quiet old new ne h = go old.phase ne h
  where
    go : (p : Phase) → p ≢ Recovering → EvictsIn p old None new → NoneTakesEffect old new
    go Opened n i = i
    go Running n i = i
    go Recovering n i = absurd (n refl)

evict-effect : (old new : SwapMemory) (s : ℕ) → old.phase ≢ Recovering → EvictsIn old.phase old (Some s) new → TakesEffect old new s
evict-effect old new s ne h = go old.phase ne h
  where
    go : (p : Phase) → p ≢ Recovering → EvictsIn p old (Some s) new → TakesEffect old new s
    go Opened n i = i
    go Running n i = i
    go Recovering n i = absurd (n refl)

pub evictions : EvictionsAreSeen
evictions = record {
  quiet = λ c x old new a seen e holds. record {
    same = evict-same old new a None e;
    holds = holds;
    fields = plain_fields_stay.eviction old new a None e seen.fields;
    quiet = evict-quiet old new seen.phase e.effect;
    settled = λ b cached settled. settled_words_stay.eviction old new a None b e settled;
    awaits = λ v b cached. eviction-awaits old new a None e v b;
    cached = λ b o private. inl (ap (λ ws. slice_index ws b) (cached-same old new a None e));
  };
  leaves = λ old new a told e. λ b o private. ap (λ ws. slice_index ws b) (cached-same old new a told e);
  effect = λ c x old new a s seen e holds. record {
    same = evict-same old new a (Some s) e;
    holds = holds;
    fields = plain_fields_stay.eviction old new a (Some s) e seen.fields;
    effect = evict-effect old new s seen.phase e.effect;
    durable = (effects_stay_inside.eviction old new a s e).outside;
    cached = λ b o private. ap (λ ws. slice_index ws b) (cached-same old new a (Some s) e);
    settled = λ b cached settled. settled_words_stay.eviction old new a (Some s) b e settled;
    awaits = λ v b cached. eviction-awaits old new a (Some s) e v b;
  };
}
