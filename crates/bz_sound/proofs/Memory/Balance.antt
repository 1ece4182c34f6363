-- A Begin or an End changes for one worker whether its call is open: how many are open, beside how many have begun and ended.
use Rattle.std.proofs.Common.{◌≡◌, ◌≤◌, ◌<◌, ◌+◌, ◌==◌, ◌&&◌, ℕ, Bool, true, false, not, refl, ap, inl, inr, arith}
use Rattle.std.specs.Prelude.{if◌then◌else◌}
use Rattle.std.proofs.lemmas.Bool.{cases_eq}
use Rattle.std.proofs.lemmas.Bool.Decides.{nat_tests}
use Rattle.bz_sound.proofs.Memory.Counts.{passing, without, without-one, no-fewer}

-- no fewer numbers of a longer range pass a weaker test
pub more : (p q : ℕ → Bool) (n k : ℕ) → n ≤ k → ((i : ℕ) → p i ≡ true → q i ≡ true) → passing p 0 n ≤ passing q 0 k
more p q n k h each = no-fewer p q (λ i. i) 0 n 0 k (record {
  lands = λ i low high is. record { low = omega arith; high = omega arith; passes = each i is };
  apart = λ i j li hi lj hj pi pj same. same;
})

passes-but : (a b : Bool) → a ≡ true → b ≡ false → (a && not b) ≡ true
passes-but true false is other = refl
passes-but false b is other = absurd (cc)
passes-but a true is other = absurd (cc)

but-passes : (a b : Bool) → (a && not b) ≡ true → (a ≡ true) × (b ≡ false)
but-passes true false is = (refl, refl)
but-passes true true is = absurd (cc)
but-passes false b is = absurd (cc)

-- one that passes is another number than one that does not
different : (p : ℕ → Bool) (v i : ℕ) → p v ≡ false → p i ≡ true → (i == v) ≡ false
different p v i none is = elim (cases_eq i v) [
  | inl same ↦ let both : p i ≡ p v = ap p same in absurd (cc)
  | inr other ↦ grind (arith, nat_tests)
]

-- the first test passes one number more, or one fewer
one-more : (p q : ℕ → Bool) (v n k : ℕ) → n ≤ k → v < k → p v ≡ true → ((i : ℕ) → (i == v) ≡ false → p i ≡ true → q i ≡ true) → passing p 0 n ≤ passing q 0 k + 1
one-more p q v n k h within is each =
    omega (
      arith,
      more p p n k h (λ i pass. pass),
      without-one p v 0 k (omega arith) (omega arith) is,
      more (without p v) q k k (omega arith) (λ i pass. let (here, other) = but-passes (p i) (i == v) pass in each i other here),
    )

one-fewer : (p q : ℕ → Bool) (v n k : ℕ) → n ≤ k → v < k → p v ≡ false → q v ≡ true → ((i : ℕ) → (i == v) ≡ false → p i ≡ true → q i ≡ true) → passing p 0 n + 1 ≤ passing q 0 k
one-fewer p q v n k h within none is each =
    omega (
      arith,
      without-one q v 0 k (omega arith) (omega arith) is,
      more p (without q v) n k h (λ i pass. let other : (i == v) ≡ false = different p v i none pass in passes-but (q i) (i == v) (each i other pass) other),
    )

-- the call of one worker begins, or ends, and is counted or not
pub begin-balance : (b : Bool) (p q : ℕ → Bool) (v n ended begun : ℕ) → p v ≡ b → ((i : ℕ) → (i == v) ≡ false → p i ≡ true → q i ≡ true) → passing q 0 (n + v + 1) + ended ≤ begun
    → passing p 0 n + ended ≤ (if b then begun + 1 else begun)
begin-balance true p q v n ended begun is each before = omega (arith, one-more p q v n (n + v + 1) (omega arith) (omega arith) is each, before)
begin-balance false p q v n ended begun is each before = omega (arith, more p q n (n + v + 1) (omega arith) (λ i pass. each i (different p v i is pass) pass), before)

pub end-balance : (b : Bool) (p q : ℕ → Bool) (v n ended begun : ℕ) → p v ≡ false → (b ≡ true → q v ≡ true) → ((i : ℕ) → (i == v) ≡ false → p i ≡ true → q i ≡ true)
    → passing q 0 (n + v + 1) + ended ≤ begun → passing p 0 n + (if b then ended + 1 else ended) ≤ begun
end-balance true p q v n ended begun none is each before = omega (arith, one-fewer p q v n (n + v + 1) (omega arith) (omega arith) none (is refl) each, before)
end-balance false p q v n ended begun none is each before = omega (arith, more p q n (n + v + 1) (omega arith) (λ i pass. each i (different p v i none pass) pass), before)
