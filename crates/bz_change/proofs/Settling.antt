-- A settled memory stays so, and quiet acts and starts leave its values.
use Rattle.std.proofs.Common.{◌≡◌, ◌≢◌, ◌<◌, inl, inr, ℕ, zero, suc, Bool, true, false, List, [], ◌∷◌, slice_index, refl, sym, ap, ◌∙◌, subst, arith, None}
use Rattle.std.specs.Prelude.{◌&&◌, ◌++◌, if◌then◌else◌}
use Rattle.std.proofs.lemmas.Bool.{cases_Bool, eqb-true}
use Rattle.bz_word.specs.declared.entry.Entry.{Entry}
use Rattle.bz_swap_cells.specs.Store.{IsOutside, is_outside}
use Rattle.bz_swap_cells.proofs.Places.{told-outside}
use Rattle.bz_swap.specs.declared.phase.Phase.{Phase}
use Rattle.bz_swap.specs.declared.phase.Phase.TheVariants.{Opened, Running, Recovering}
use Rattle.bz_swap.specs.Atomic.{value_in, value_of, Event, Quiet, changes, Happens, event_of}
use Rattle.bz_swap.specs.Held.{IsHeld}
use Rattle.bz_swap.specs.Starts.{started}
use Rattle.bz_swap.specs.SwapMemory.{SwapMemory, Doing, Idle, Reading, Swapping, Loading, Storing, Flushing, value_at, is_named, is_settled_at, is_among, is_target, doing_of}
use Rattle.bz_swap.proofs.Listed.{among-more}
use Rattle.bz_swap.proofs.Proved.{access_is_atomic, settled_words_stay}
use Rattle.bz_change.specs.Laws.{IsCalm, QuietActsLeave, StartsLeave}
use Rattle.bz_change.specs.Values.{IsSettled, SameValues, StoresNothing}

-- a word of a descriptor stands for no value
pub inside-none : (m : SwapMemory) (a : ℕ) → is_outside m.swaps a ≡ false → value_at m a ≡ 0
inside-none m a inside = rw inside refl

-- the values are the same where those outside the descriptors are
pub everywhere : (old new : SwapMemory) → new.swaps ≡ old.swaps → ((a : ℕ) → IsOutside old.swaps a → value_at new a ≡ value_at old a) → SameValues old new
everywhere old new swaps outside a = elim (cases_Bool (is_outside old.swaps a)) [
  | inl there ↦ outside a (told-outside old.swaps a there)
  | inr within ↦ inside-none new a (ap (λ (k : ℕ). is_outside k a) swaps ∙ within) ∙ sym (inside-none old a within)
]

-- the value of a named address is what the durable words stand for
pub named-value : (phase : Phase) (m : SwapMemory) (a : ℕ) → is_named m a ≡ true → value_in phase m a ≡ value_at m a
named-value Opened m a named = rw named refl
named-value Running m a named = rw named refl
named-value Recovering m a named = refl

-- that of a private one is the word in the caches
pub private-value : (phase : Phase) (m : SwapMemory) (a : ℕ) → phase ≢ Recovering → is_named m a ≡ false → value_in phase m a ≡ slice_index m.cached a
private-value Opened m a calm none = rw none refl
private-value Running m a calm none = rw none refl
private-value Recovering m a calm none = absurd (calm refl)

and-left : (x y : Bool) → (x && y) ≡ true → x ≡ true
and-left true y both = refl
and-left false y both = absurd (cc)

-- a settled word is the same in the caches and in the memory itself
settled-same : (m : SwapMemory) (a : ℕ) → is_settled_at m a ≡ true → slice_index m.cached a ≡ slice_index m.durable a
settled-same m a settled = eqb-true _ _ (and-left _ _ settled)

-- so readers see of every address what the durable words stand for
pub shown-value : (m : SwapMemory) (a : ℕ) → IsCalm m → IsOutside m.swaps a → value_of m a ≡ value_at m a
shown-value m a calm outside = elim (cases_Bool (is_named m a)) [
  | inl named ↦ named-value m.phase m a named
  | inr none ↦ private-value m.phase m a calm.phase none ∙ settled-same m a (calm.settled a outside none) ∙ sym (calm.held.private a outside none).1
]

-- an event that changes named addresses alone leaves every private word settled
pub settled-still : (old new : SwapMemory) (event : Event) → IsCalm old → new.phase ≡ old.phase → new.swaps ≡ old.swaps → new.begun ≡ old.begun → Happens old event new
    → ((a : ℕ) → is_named old a ≡ false → changes old event a ≡ false)
    → ((a : ℕ) → slice_index new.cached a ≡ slice_index old.cached a → is_settled_at old a ≡ true → is_settled_at new a ≡ true) → IsSettled new
settled-still old new event calm phase swaps begun h same stays a outside none =
    let before : is_named old a ≡ false = ap (λ (all : List (List Entry)). is_among all a) (sym begun) ∙ none in
    let there : IsOutside old.swaps a = subst (λ (k : ℕ). IsOutside k a) swaps outside in
    let word : slice_index new.cached a ≡ slice_index old.cached a =
    sym (private-value new.phase new a (λ is. calm.phase (sym phase ∙ is)) none) ∙ h.others a there (same a before) ∙ private-value old.phase old a calm.phase before in
    stays a word (calm.settled a there before)

-- after a quiet act
quiet-calm : (old new : SwapMemory) → IsCalm old → IsHeld new → new.phase ≡ old.phase → new.swaps ≡ old.swaps → new.begun ≡ old.begun → Happens old Quiet new
    → ((a : ℕ) → slice_index new.cached a ≡ slice_index old.cached a → is_settled_at old a ≡ true → is_settled_at new a ≡ true) → IsCalm new × SameValues old new
quiet-calm old new calm held phase swaps begun h stays =
    let after : IsCalm new = record { phase = λ is. calm.phase (sym phase ∙ is); held = held; settled = settled-still old new Quiet calm phase swaps begun h (λ a none. refl) stays } in (
      after,
      everywhere old new swaps (λ a outside. sym (shown-value new a after (subst (λ (k : ℕ). IsOutside k a) (sym swaps) outside)) ∙ h.others a outside refl ∙ shown-value old a calm outside),
    )

-- what is no private store is no event by itself
pub no-store : (old : SwapMemory) (w : ℕ) → StoresNothing old w → event_of (doing_of old w) ≡ Quiet
no-store old w none = by (doing_of old w) none
  where
    by : (doing : Doing) → ((a v : ℕ) → doing ≢ Storing a v) → event_of doing ≡ Quiet
    by Idle none = refl
    by (Reading a) none = refl
    by (Swapping s) none = refl
    by (Loading a) none = refl
    by (Storing a v) none = absurd (none a v refl)
    by (Flushing line) none = refl

pub quiet_acts_leave : QuietActsLeave
quiet_acts_leave = record {
  step = λ old new w made done calm none held step.
      let atomic = access_is_atomic.step old new w made done None calm.phase calm.held held step in
      quiet-calm old new calm held step.one.others.phase step.one.others.swaps step.one.others.begun (subst (λ (event : Event). Happens old event new) (no-store old w none) atomic.happens)
      (λ a. settled_words_stay.step old new w made done None a step);
  eviction = λ old new a calm held eviction.
      quiet-calm old new calm held (ap (λ (m : SwapMemory). m.phase) eviction.is) (ap (λ (m : SwapMemory). m.swaps) eviction.is) (ap (λ (m : SwapMemory). m.begun) eviction.is)
      (access_is_atomic.eviction old new a None calm.phase calm.held held eviction) (λ b word. settled_words_stay.eviction old new a None b eviction);
}

running-values : (phase : Phase) (m : SwapMemory) (a : ℕ) → phase ≢ Recovering → value_in Running m a ≡ value_in phase m a
running-values Opened m a calm = refl
running-values Running m a calm = refl
running-values Recovering m a calm = absurd (calm refl)

phase-after : (m : SwapMemory) (w : ℕ) (doing : Doing) → 0 < w → (started m w doing).phase ≡ Running
phase-after m zero doing some = absurd (omega arith)
phase-after m (suc w) doing some = refl

-- a word that no swap has named with one more was not named before
if-else : (test named : Bool) → (if test then true else named) ≡ false → named ≡ false
if-else true named is = absurd (cc)
if-else false named is = is

unnamed-before : (begun : List (List Entry)) (entries : List Entry) (a : ℕ) → is_among (begun ++ entries ∷ []) a ≡ false → is_among begun a ≡ false
unnamed-before begun entries a none = if-else (is_target entries a) (is_among begun a) (sym (among-more begun entries a) ∙ none)

pub starts_leave : StartsLeave
starts_leave = record {
  start = λ m w doing some calm held. record {
    phase = λ is. (let same : Running ≡ Recovering = sym (phase-after m w doing some) ∙ is in absurd (cc));
    held = held;
    settled = calm.settled;
  };
  swap = λ m w entries calm may held. record {
    phase = λ is. (let same : Running ≡ Recovering = sym (phase-after m w (Swapping m.taken) may.work.some) ∙ is in absurd (cc));
    held = held;
    settled = λ a outside none. calm.settled a outside (unnamed-before m.begun entries a none);
  };
}
