-- Starts, power cuts and renewals keep the values of the atomic swap memory.
use Rattle.std.specs.Prelude.{◌≡◌, ◌≢◌, if◌then◌else◌, ◌==◌, ℕ, zero, suc, ◌<◌, Bool, true, false, List, [], ◌∷◌, All, slice_index}
use Rattle.std.proofs.Common.{arith, refl, ap, sym, ◌∙◌, inl, inr}
use Rattle.std.proofs.lemmas.Bool.{cases_eq}
use Rattle.std.proofs.lemmas.Grind.{common_steps}
use Rattle.bz_word.specs.declared.entry.Entry.{Entry}
use Rattle.bz_swap.specs.Atomic.{value_in, value_of}
use Rattle.bz_swap.specs.AtomicCalls.{KeepsValues}
use Rattle.bz_swap.specs.Held.{IsHeld}
use Rattle.bz_swap.specs.Power.{MayRenew, after_cut, renewed}
use Rattle.bz_swap.specs.Starts.{IsEntry, MaySwap, started, swapping}
use Rattle.bz_swap.specs.SwapMemory.{SwapMemory, Doing, is_target, is_named}
use Rattle.bz_swap.specs.declared.phase.Phase.TheVariants.{Recovering}
use Rattle.bz_swap.proofs.AtomicValues.{value-working, value-named, value-private, plain-value}
use Rattle.bz_swap.proofs.Listed.{among-more}
use Rattle.bz_swap.proofs.SettledWords.{settled-same}

pub start-values : (m : SwapMemory) (w : ℕ) (doing : Doing) → m.phase ≢ Recovering → 0 < w → KeepsValues m (started m w doing)
start-values m zero doing works some a out = absurd (omega (arith, some))
start-values m (suc w) doing works some a out = sym (value-working m a works)

-- the entry of a target
target-entry : (m : SwapMemory) (entries : List Entry) (a : ℕ) → All (IsEntry m) entries → is_target entries a ≡ true → is_named m a ≡ false → slice_index m.cached a ≡ slice_index m.durable a
target-entry m [] a each is private = absurd cc
target-entry m (e ∷ entries) a each is private = elim (cases_eq e.target a) [
  | inl here ↦ rw here at (settled-same m e.target ((each 0 e (omega arith)).settled (rw here private)))
  | inr other ↦ (let test : (e.target == a) ≡ false = grind (arith, common_steps, other) in
      target-entry m entries a (λ k d below. each (suc k) d (omega (arith, below))) (rw test at is) private)
]

swap-named : (m : SwapMemory) (w : ℕ) (entries : List Entry) (a : ℕ) → is_named (swapping m w entries) a ≡ (if is_target entries a then true else is_named m a)
swap-named m w entries a = among-more m.begun entries a

pub swap-values : (m : SwapMemory) (w : ℕ) (entries : List Entry) → IsHeld m → MaySwap m w entries → KeepsValues m (swapping m w entries)
swap-values m zero entries held may a out = absurd (omega (arith, may.work.some))
swap-values m (suc w) entries held may a out = by_name (is_named m a) (is_target entries a) refl refl
  where
    by_name : (b t : Bool) → is_named m a ≡ b → is_target entries a ≡ t → value_of (swapping m (suc w) entries) a ≡ value_of m a
    by_name true t named target = (let now : is_named (swapping m (suc w) entries) a ≡ true = swap-named m (suc w) entries a ∙ rw named (either t target) in
        value-named (swapping m (suc w) entries) a now ∙ sym (value-named m a named))
      where
        either : (x : Bool) → is_target entries a ≡ x → (if is_target entries a then true else true) ≡ true
        either true is = rw is refl
        either false is = rw is refl
    by_name false true private target = (let now : is_named (swapping m (suc w) entries) a ≡ true = swap-named m (suc w) entries a ∙ rw target refl in
        value-named (swapping m (suc w) entries) a now ∙ (held.private a out private).1 ∙ sym (target-entry m entries a may.each target private) ∙ sym (value-private m a may.work.phase private))
    by_name false false private target = (let now : is_named (swapping m (suc w) entries) a ≡ false = swap-named m (suc w) entries a ∙ rw (target, private) refl in
        value-private (swapping m (suc w) entries) a (λ is. absurd cc) now ∙ sym (value-private m a may.work.phase private))

pub cut-value : (m : SwapMemory) (a : ℕ) → is_named m a ≡ true → value_of (after_cut m) a ≡ value_of m a
cut-value m a named = sym (value-named m a named)

pub renewal-values : (m : SwapMemory) → MayRenew m → m.phase ≡ Recovering → KeepsValues m (renewed m)
renewal-values m may phase a out = may.same a out ∙ sym (plain-value m a out (may.durable.plain a out)) ∙ ap (λ x. value_in x m a) (sym phase)
