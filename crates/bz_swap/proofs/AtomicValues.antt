-- The values of the atomic swap memory: of named words what the durable words stand for, of private ones the cached word.
use Rattle.std.specs.Prelude.{◌≡◌, ◌≢◌, ◌||◌, ◌==◌, if◌then◌else◌, ℕ, zero, suc, ◌^◌, ◌<◌, Bool, true, false, List, [], ◌∷◌, length, get_or, slice_index}
use Rattle.std.proofs.Common.{arith, refl, ap, ◌∙◌}
use Rattle.std.proofs.lemmas.Grind.{common_steps}
use Rattle.bz_word.proofs.Lemmas.KindWords.{kind-word}
use Rattle.bz_word.specs.declared.entry.Entry.{Entry}
use Rattle.bz_word.specs.declared.kind.WordKind.TheVariants.{Value}
use Rattle.bz_swap_cells.specs.Store.{IsOutside, kind_at, status_at}
use Rattle.bz_swap_machine.specs.Machine.{resolve as resolved}
use Rattle.bz_swap.specs.Atomic.{value_in, value_of}
use Rattle.bz_swap.specs.Resolve.{entries_at}
use Rattle.bz_swap.specs.SwapMemory.{SwapMemory, value_at, entries_of, is_target, is_among, is_named}
use Rattle.bz_swap.specs.declared.phase.Phase.{Phase}
use Rattle.bz_swap.specs.declared.phase.Phase.TheVariants.{Opened, Running, Recovering}
use Rattle.bz_swap.proofs.HeldWords.{outside_told}

-- outside a recovery time
value-in : (phase : Phase) (m : SwapMemory) (a : ℕ) → phase ≢ Recovering → value_in phase m a ≡ (if is_named m a then value_at m a else slice_index m.cached a)
value-in Opened m a not = refl
value-in Running m a not = refl
value-in Recovering m a not = absurd (not refl)

pub value-working : (m : SwapMemory) (a : ℕ) → m.phase ≢ Recovering → value_of m a ≡ (if is_named m a then value_at m a else slice_index m.cached a)
value-working m a not = value-in m.phase m a not

-- of a named word
named-in : (phase : Phase) (m : SwapMemory) (a : ℕ) → is_named m a ≡ true → value_in phase m a ≡ value_at m a
named-in Opened m a named = rw named refl
named-in Running m a named = rw named refl
named-in Recovering m a named = refl

pub value-named : (m : SwapMemory) (a : ℕ) → is_named m a ≡ true → value_of m a ≡ value_at m a
value-named m a named = named-in m.phase m a named

-- of a private one
pub value-private : (m : SwapMemory) (a : ℕ) → m.phase ≢ Recovering → is_named m a ≡ false → value_of m a ≡ slice_index m.cached a
value-private m a not private = value-working m a not ∙ rw private refl

-- the targets of a swap are named
among-target : (begun : List (List Entry)) (s a : ℕ) → is_target (get_or begun s []) a ≡ true → is_among begun a ≡ true
among-target [] s a is = absurd cc
among-target (entries ∷ begun) zero a is = rw is refl
among-target (entries ∷ begun) (suc s) a is = or-right (is_target entries a) (is_among begun a) (among-target begun s a is)
  where
    or-right : (x y : Bool) → y ≡ true → (x || y) ≡ true
    or-right true y is = refl
    or-right false y is = is

pub target-named : (m : SwapMemory) (s a : ℕ) → is_target (entries_of m s) a ≡ true → is_named m a ≡ true
target-named m s a is = among-target m.begun s a is

-- the target of each entry is one
each-target : (entries : List Entry) (k : ℕ) (d : Entry) → k < length entries → is_target entries (get_or entries k d).target ≡ true
each-target [] k d below = absurd (omega (arith, below))
each-target (e ∷ entries) zero d below = (let same : (e.target == e.target) ≡ true = grind (arith, common_steps) in rw same refl)
each-target (e ∷ entries) (suc k) d below = or-right (e.target == (get_or entries k d).target) _ (each-target entries k d (omega (arith, below)))
  where
    or-right : (x y : Bool) → y ≡ true → (x || y) ≡ true
    or-right true y is = refl
    or-right false y is = is

pub entry-named : (m : SwapMemory) (s k : ℕ) (d : Entry) → k < length (entries_of m s) → is_named m (get_or (entries_of m s) k d).target ≡ true
entry-named m s k d below = target-named m s _ (each-target (entries_of m s) k d below)

-- a plain word is its value
pub plain-value : (m : SwapMemory) (a : ℕ) → IsOutside m.swaps a → slice_index m.durable a < 2 ^ 61 → value_at m a ≡ slice_index m.durable a
plain-value m a out plain =
    let told = outside_told m.swaps a out in
    let is : kind_at m.swaps m.durable a ≡ Value (slice_index m.durable a) = rw told (kind-word (Value (slice_index m.durable a)) plain) in
    ap (resolved (entries_at m.swaps m.durable) (status_at m.swaps m.durable) a) is
