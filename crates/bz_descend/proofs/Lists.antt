-- A list of which one item is set.
use Rattle.std.proofs.Common.{◌≡◌, ◌≢◌, ℕ, zero, suc, ◌<◌, List, [], ◌∷◌, length, set, arith, refl, ap}
use Rattle.std.specs.Prelude.{Some, slice_get}

pub set-here : {A : Type 0} (xs : List A) (i : ℕ) (x : A) → i < length xs → slice_get (set xs i x) i ≡ Some x
set-here [] i x l = absurd (omega (arith, l))
set-here (y ∷ ys) zero x l = refl
set-here (y ∷ ys) (suc i) x l = set-here ys i x (omega (arith, l))

pub set-other : {A : Type 0} (xs : List A) (i j : ℕ) (x : A) → j ≢ i → slice_get (set xs i x) j ≡ slice_get xs j
set-other [] i j x ne = refl
set-other (y ∷ ys) zero zero x ne = absurd (ne refl)
set-other (y ∷ ys) zero (suc j) x ne = refl
set-other (y ∷ ys) (suc i) zero x ne = refl
set-other (y ∷ ys) (suc i) (suc j) x ne = set-other ys i j x (λ e. ne (ap suc e))
