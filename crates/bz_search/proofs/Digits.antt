-- A half has a binary digit less.
use Rattle.std.proofs.Common.{◌≡◌, ℕ, zero, suc, ◌+◌, ◌/◌, ◌<◌, ◌≤◌, arith, refl, sym, ap, ◌∙◌, inl, inr}
use Rattle.std.specs.Prelude.{◌==◌, false}
use Rattle.std.proofs.lemmas.Bool.{cases_eq}
use Rattle.std.proofs.lemmas.Bool.Decides.{nat_tests}
use Rattle.bz_search.specs.Digits.{digits_in, digits}

pub digits-none : (k : ℕ) → digits_in k 0 ≡ 0
unfolding digits_in
digits-none zero = refl
digits-none (suc k) = refl

pub digits-more : (k n : ℕ) → 0 < n → digits_in (suc k) n ≡ 1 + digits_in k (n / 2)
unfolding digits_in
digits-more k n h = let t : (n == 0) ≡ false = grind (arith, nat_tests) in rw t refl

-- more halvings than a number needs find the same
enough : (k j n : ℕ) → n ≤ k → n ≤ j → digits_in k n ≡ digits_in j n
unfolding digits_in
enough zero j n a b = let e : n ≡ 0 = omega arith in rw e (sym (digits-none j))
enough (suc k) zero n a b = let e : n ≡ 0 = omega arith in rw e (digits-none (suc k))
enough (suc k) (suc j) n a b = elim (cases_eq n 0) [
  | inl e ↦ rw e refl
  | inr ne ↦ digits-more k n (omega (arith, ne)) ∙ (ap (λ z. 1 + z) (enough k j (n / 2) (omega (arith, ne, a)) (omega (arith, ne, b))) ∙ sym (digits-more j n (omega (arith, ne))))
]

-- a lesser number has no more digits
rises : (k t s : ℕ) → t ≤ s → digits_in k t ≤ digits_in k s
unfolding digits_in
rises zero t s h = omega arith
rises (suc k) t s h = elim (cases_eq t 0) [
  | inl e ↦ rw e (omega arith)
  | inr ne ↦ omega (arith, digits-more k t (omega (arith, ne)), digits-more k s (omega (arith, ne, h)), rises k (t / 2) (s / 2) (omega (arith, h)))
]

pub digits-half : (t s : ℕ) → 0 < s → t ≤ s / 2 → digits t + 1 ≤ digits s
digits-half t zero h l = absurd (omega arith)
digits-half t (suc s) h l = omega (arith, digits-more s (suc s) (omega arith), enough t s t (omega arith) (omega arith), rises s t (suc s / 2) l)

-- a lesser number has no more digits, and one that is not 0 has some
pub digits-rise : (t s : ℕ) → t ≤ s → digits t ≤ digits s
digits-rise t s h = omega (arith, enough t s t (omega arith) h, rises s t s h)

pub digits-some : (n : ℕ) → 0 < n → 0 < digits n
digits-some zero h = absurd (omega arith)
digits-some (suc n) h = omega (arith, digits-more n (suc n) (omega arith))

digits-at-most : (k n : ℕ) → digits_in k n ≤ k
unfolding digits_in
digits-at-most zero n = omega arith
digits-at-most (suc k) n = elim (cases_eq n 0) [
  | inl e ↦ rw e (omega arith)
  | inr ne ↦ omega (arith, digits-more k n (omega (arith, ne)), digits-at-most k (n / 2))
]

-- a number has no more digits than it counts
pub digits-few : (n : ℕ) → digits n ≤ n
digits-few n = digits-at-most n n
