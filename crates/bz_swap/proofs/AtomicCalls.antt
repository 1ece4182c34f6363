-- The calls of `Access` are the events of the atomic swap memory.
use Rattle.std.specs.Prelude.{◌≡◌, ◌≢◌, ◌⊎◌, ◌==◌, ℕ, ◌<◌, true, false, Option, None, Some, length, slice_index}
use Rattle.std.proofs.Common.{arith, refl, ap, sym, subst, ◌∙◌, inl, inr}
use Rattle.std.proofs.lemmas.Grind.{common_steps}
use Rattle.std.proofs.lemmas.List.{get_or-set_same}
use Rattle.bz_swap_cells.specs.FromPm.State.{State}
use Rattle.bz_swap_acts.specs.Rule.{IsWithin, after_act}
use Rattle.bz_swap_acts.specs.declared.acted.Act.{Act}
use Rattle.bz_swap_machine.specs.declared.done.Done.{Done}
use Rattle.bz_swap_machine.specs.declared.done.Done.TheVariants.{Busy, Stored}
use Rattle.bz_swap.specs.Atomic.{Event, Quiet, Effect, PrivateStore, changes, Happens, told_event, event_of, IsAtomicStep}
use Rattle.bz_swap.specs.AtomicCalls.{AccessIsAtomic}
use Rattle.bz_swap.specs.Effects.{EffectIs}
use Rattle.bz_swap.specs.Evictions.{IsEviction, EvictsIn}
use Rattle.bz_swap.specs.Held.{IsHeld}
use Rattle.bz_swap.specs.Steps.{IsOneAct, IsStep, IsAnswer}
use Rattle.bz_swap.specs.SwapMemory.{SwapMemory, Doing, Idle, Reading, Swapping, Loading, Storing, Flushing, memory_state, doing_of}
use Rattle.bz_swap.specs.Writes.{StoresPrivate, StoresOwn}
use Rattle.bz_swap.specs.declared.phase.Phase.{Phase}
use Rattle.bz_swap.specs.declared.phase.Phase.TheVariants.{Opened, Running, Recovering}
use Rattle.bz_swap.proofs.AtomicAnswers.{notes, answers}
use Rattle.bz_swap.proofs.AtomicStarts.{start-values, swap-values, cut-value, renewal-values}
use Rattle.bz_swap.proofs.AtomicSteps.{IsLeft, IsFrame, others-kept, left-kept, same-named, quiet-happens, effect-happens, durable-act, durable-evicted}
use Rattle.bz_swap.proofs.AtomicValues.{value-private}
use Rattle.bz_swap.proofs.SettledKept.{settled_words_stay}

-- what a step leaves as it was
step-frame : (old new : SwapMemory) (w : ℕ) (made : Act) (done : Done) (told : Option ℕ) (event : Event) → old.phase ≢ Recovering → IsHeld old → IsHeld new → IsStep old w made done told new
    → ((a v : ℕ) → changes old event a ≡ false → doing_of old w ≢ Storing a v) → IsFrame old new event
step-frame old new w made done told event working held holds step stores = record {
  working = working;
  works = λ is. working (sym step.one.others.phase ∙ is);
  held = held;
  holds = holds;
  swaps = step.one.others.swaps;
  begun = step.one.others.begun;
  cached = λ a out private other. step.untouched a out private (λ v. stores a v other);
  durable = λ a. durable-act old new w made a step.one.may step.one.act.after;
}

-- a private store
stored-at : (old new : SwapMemory) (w a v : ℕ) (made : Act) (done : Done) → IsStep old w made done None new → doing_of old w ≡ Storing a v → IsAnswer new (Storing a v) made done → StoresPrivate old w a v × (slice_index new.cached a ≡ v)
stored-at old new w a v made Stored step doing is = (by_store (step.writes.stores a v is), written)
  where
    by_store : StoresPrivate old w a v ⊎ StoresOwn old w a v → StoresPrivate old w a v
    by_store (inl private) = private
    by_store (inr own) = (let both : Swapping own.swap ≡ Storing a v = sym own.doing ∙ doing in absurd cc)

    within : a < length old.cached
    within = subst (IsWithin (length old.cached)) is step.one.within

    written : slice_index new.cached a ≡ v
    written = ap (λ (m : State). slice_index m.words.cached a) (step.one.act.after ∙ ap (after_act w (memory_state old)) is) ∙ get_or-set_same old.cached a v 0 within
stored-at old new w a v made done step doing is = absurd is

store-happens : (old new : SwapMemory) (w a v : ℕ) (made : Act) (done : Done) → old.phase ≢ Recovering → IsHeld old → IsHeld new → IsStep old w made done None new → doing_of old w ≡ Storing a v → Happens old (PrivateStore a v) new
store-happens old new w a v made done working held holds step doing =
    let stored = stored-at old new w a v made done step doing (subst (λ d. IsAnswer new d made done) doing step.one.answer) in
    let f = step-frame old new w made done None (PrivateStore a v) working held holds step elsewhere in
    record {
      changed = (stored.0.private, value-private new a f.works (same-named old new (PrivateStore a v) a false f stored.0.private) ∙ stored.1);
      others = others-kept old new (PrivateStore a v) f (λ b named other. step.effect.values b named);
      effects = step.effect.swaps;
      left = left-kept old new (PrivateStore a v) f;
    }
  where
    elsewhere : (b x : ℕ) → (a == b) ≡ false → doing_of old w ≢ Storing b x
    elsewhere b x other is =
        let both : Storing a v ≡ Storing b x = sym doing ∙ is in
        let same : a ≡ b = cc in
        let test : (a == b) ≡ true = grind (arith, common_steps, same) in
        absurd cc

-- what a store answers, an act that tells an effect does not
not-stored : (m : SwapMemory) (a v : ℕ) (made : Act) (done : Done) (told : Option ℕ) (s : ℕ) → IsAnswer m (Storing a v) made done → (done ≡ Busy) ⊎ (told ≡ None) → told ≡ Some s → ⊥
not-stored m a v made done told s answer (inl busy) is = subst (λ d. IsAnswer m (Storing a v) made d) busy answer
not-stored m a v made done told s answer (inr none) is = (let both : ◌≡◌ {A = Option ℕ} (Some s) None = sym is ∙ none in absurd cc)

step-happens : (old new : SwapMemory) (w : ℕ) (made : Act) (done : Done) (told : Option ℕ) (doing : Doing) → doing_of old w ≡ doing → old.phase ≢ Recovering → IsHeld old → IsHeld new → IsStep old w made done told new
    → Happens old (told_event told (event_of doing)) new
step-happens old new w made done (Some s) doing is working held holds step = effect-happens old new s (step-frame old new w made done (Some s) (Effect s) working held holds step none) step.effect
  where
    none : (a v : ℕ) → changes old (Effect s) a ≡ false → doing_of old w ≢ Storing a v
    none a v other storing = not-stored new a v made done (Some s) s (subst (λ d. IsAnswer new d made done) storing step.one.answer) step.later refl
step-happens old new w made done None (Storing a v) is working held holds step = store-happens old new w a v made done working held holds step is
step-happens old new w made done None Idle is working held holds step = quiet-happens old new (step-frame old new w made done None Quiet working held holds step (λ a v other storing. (let both : Idle ≡ Storing a v = sym is ∙ storing in absurd cc))) step.effect
step-happens old new w made done None (Reading b) is working held holds step = quiet-happens old new (step-frame old new w made done None Quiet working held holds step (λ a v other storing. (let both : Reading b ≡ Storing a v = sym is ∙ storing in absurd cc))) step.effect
step-happens old new w made done None (Swapping s) is working held holds step = quiet-happens old new (step-frame old new w made done None Quiet working held holds step (λ a v other storing. (let both : Swapping s ≡ Storing a v = sym is ∙ storing in absurd cc))) step.effect
step-happens old new w made done None (Loading b) is working held holds step = quiet-happens old new (step-frame old new w made done None Quiet working held holds step (λ a v other storing. (let both : Loading b ≡ Storing a v = sym is ∙ storing in absurd cc))) step.effect
step-happens old new w made done None (Flushing line) is working held holds step = quiet-happens old new (step-frame old new w made done None Quiet working held holds step (λ a v other storing. (let both : Flushing line ≡ Storing a v = sym is ∙ storing in absurd cc))) step.effect

step-atomic : (old new : SwapMemory) (w : ℕ) (made : Act) (done : Done) (told : Option ℕ) → old.phase ≢ Recovering → IsHeld old → IsHeld new → IsStep old w made done told new → IsAtomicStep old w (doing_of old w) done told new
step-atomic old new w made done told working held holds step = record {
  happens = step-happens old new w made done told (doing_of old w) refl working held holds step;
  notes = notes old new step.misses;
  answer = answers old new w made (doing_of old w) done (λ is. working (sym step.one.others.phase ∙ is)) held holds step.one.act
      (λ l is a here. settled_words_stay.asked old new w l done a (subst (λ z. IsOneAct old w z done new) is step.one) here)
      (λ is a awaited. settled_words_stay.fenced old new w done a (subst (λ z. IsOneAct old w z done new) is step.one) awaited) step.one.answer;
}

-- an eviction
eviction-frame : (old new : SwapMemory) (e : ℕ) (told : Option ℕ) (event : Event) → old.phase ≢ Recovering → IsHeld old → IsHeld new → IsEviction old e told new → IsFrame old new event
eviction-frame old new e told event working held holds h = record {
  working = working;
  works = λ is. working (ap (λ (m : SwapMemory). m.phase) (sym h.is) ∙ is);
  held = held;
  holds = holds;
  swaps = ap (λ (m : SwapMemory). m.swaps) h.is;
  begun = ap (λ (m : SwapMemory). m.begun) h.is;
  cached = λ a out private other. ap (λ (m : SwapMemory). slice_index m.cached a) h.is;
  durable = λ a. subst (λ (m : SwapMemory). IsLeft old m a) (sym h.is) (elim (durable-evicted old e a) [
    | inl same ↦ inl same
    | inr saved ↦ inr (inl saved)
  ]);
}

tells : (phase : Phase) (old new : SwapMemory) (told : Option ℕ) → phase ≢ Recovering → EvictsIn phase old told new → EffectIs old new told
tells Opened old new told not effect = effect
tells Running old new told not effect = effect
tells Recovering old new told not effect = absurd (not refl)

eviction-happens : (old new : SwapMemory) (e : ℕ) (told : Option ℕ) → old.phase ≢ Recovering → IsHeld old → IsHeld new → IsEviction old e told new → Happens old (told_event told Quiet) new
eviction-happens old new e None working held holds h = quiet-happens old new (eviction-frame old new e None Quiet working held holds h) (tells old.phase old new None working h.effect)
eviction-happens old new e (Some s) working held holds h = effect-happens old new s (eviction-frame old new e (Some s) (Effect s) working held holds h) (tells old.phase old new (Some s) working h.effect)

pub access_is_atomic : AccessIsAtomic
access_is_atomic = record { step = step-atomic; recovery = λ old new w made done told step. record { rule = step.one.act; effect = step.effect; notes = step.missed }; eviction = eviction-happens; start = start-values; swap = swap-values; cut = cut-value; renewal = renewal-values }
