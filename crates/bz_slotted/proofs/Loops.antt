-- Tests that a loop has made so far.
use Rattle.std.proofs.Common.{◌≡◌, ℕ, zero, suc, ◌+◌, ◌<◌, ◌&&◌, Bool, true, false, arith, refl, ap, ◌∙◌, inl, inr}
use Rattle.std.proofs.lemmas.Bool.{cases_eq}
use Rattle.bz_slotted.specs.Tests.{every}

pub every-none : (p : ℕ → Bool) → every 0 p ≡ true
unfolding every
every-none p = refl

pub every-more : (p : ℕ → Bool) (n : ℕ) → every n p ≡ true → p n ≡ true → every (n + 1) p ≡ true
unfolding every
every-more p n h t = ap (λ k. every k p) (one n) ∙ rw (t, h) refl
  where
    one : (k : ℕ) → k + 1 ≡ suc k
    one k = omega arith

and-false : (b : Bool) → b && false ≡ false
and-false true = refl
and-false false = refl

-- one that fails is enough
pub every-fails : (p : ℕ → Bool) (n j : ℕ) → j < n → p j ≡ false → every n p ≡ false
unfolding every
every-fails p zero j l t = absurd (omega arith)
every-fails p (suc n) j l t = elim (cases_eq j n) [
  | inl e ↦ rw (← e, t) refl
  | inr ne ↦ rw (every-fails p n j (omega (arith, ne)) t) (and-false (p n))
]
