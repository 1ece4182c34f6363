-- Sums below a number that are compared term by term.
use Rattle.std.proofs.Common.{◌≡◌, ◌≢◌, ℕ, zero, suc, ◌+◌, ◌<◌, ◌≤◌, arith, refl, subst, inl, inr}
use Rattle.std.proofs.lemmas.Bool.{cases_eq}
use Rattle.bz_swap_machine.specs.Allowed.{sum_below}

pub sum-same : (f g : ℕ → ℕ) (n : ℕ) → ((v : ℕ) → f v ≡ g v) → sum_below f n ≡ sum_below g n
sum-same f g zero same = refl
sum-same f g (suc n) same = omega (arith, sum-same f g n same, same n)

pub sum-le : (f g : ℕ → ℕ) (n : ℕ) → ((v : ℕ) → f v ≤ g v) → sum_below f n ≤ sum_below g n
sum-le f g zero le = omega arith
sum-le f g (suc n) le = omega (arith, sum-le f g n le, le n)

-- one of them is less by one
pub sum-drop : (f g : ℕ → ℕ) (n h : ℕ) → ((v : ℕ) → f v ≤ g v) → h < n → f h + 1 ≤ g h → sum_below f n + 1 ≤ sum_below g n
sum-drop f g zero h le below drops = absurd (omega (arith, below))
sum-drop f g (suc n) h le below drops = elim (cases_eq h n) [
  | inl here ↦ (let last : f n + 1 ≤ g n = subst (λ u. f u + 1 ≤ g u) here drops in omega (arith, last, sum-le f g n le))
  | inr apart ↦ omega (arith, sum-drop f g n h le (omega (arith, below, apart)) drops, le n)
]

-- all are no more below a number; or one of them is more by one at most
sum-under : (f g : ℕ → ℕ) (n : ℕ) → ((v : ℕ) → v < n → f v ≤ g v) → sum_below f n ≤ sum_below g n
sum-under f g zero le = omega arith
sum-under f g (suc n) le = omega (arith, sum-under f g n (λ v under. le v (omega (arith, under))), le n (omega arith))

pub sum-rise : (f g : ℕ → ℕ) (n h : ℕ) → ((v : ℕ) → v ≢ h → f v ≤ g v) → f h ≤ g h + 1 → sum_below f n ≤ sum_below g n + 1
sum-rise f g zero h le rises = omega arith
sum-rise f g (suc n) h le rises = elim (cases_eq n h) [
  | inl here ↦ (let last : f n ≤ g n + 1 = rw here rises in omega (arith, last, sum-under f g n (λ v under. le v (λ same. absurd (omega (arith, same, here, under))))))
  | inr apart ↦ omega (arith, sum-rise f g n h le rises, le n apart)
]

pub sum-ones : (n : ℕ) → sum_below (λ v. 1) n ≡ n
sum-ones zero = refl
sum-ones (suc n) = omega (arith, sum-ones n)
