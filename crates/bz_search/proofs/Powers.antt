-- The binary digits of a number are as many as it needs.
use Rattle.std.proofs.Common.{◌≡◌, ℕ, zero, suc, ◌-◌, ◌/◌, ◌^◌, ◌<◌, ◌≤◌, arith, sym, ap, subst, ◌∙◌, inl, inr}
use Rattle.std.proofs.Math.Nat.{pow-suc}
use Rattle.std.proofs.lemmas.Bool.{cases_eq}
use Rattle.bz_search.specs.Digits.{digits_in, NeedsDigits, DigitsAreBinary}
use Rattle.bz_search.proofs.Digits.{digits-none, digits-more}

-- a half needs a digit less
more : (n d : ℕ) → 0 < n → NeedsDigits (n / 2) d → (n / 2 ≡ 0 → d ≡ 0) → NeedsDigits n (suc d)
more n zero h f z = record { enough = omega (arith, f.enough); all = λ l. omega (arith, h) }
more n (suc d) h f z = elim (cases_eq (n / 2) 0) [
  | inl e ↦ absurd (omega (arith, z e))
  | inr ne ↦ (
      let low : 2 ^ (suc d - 1) ≤ n / 2 = f.all (omega (arith, ne)) in
      let e : suc d - 1 ≡ d = omega arith in
      let g : suc (suc d) - 1 ≡ suc d = omega arith in
      let low_d : 2 ^ d ≤ n / 2 = subst (λ x. 2 ^ x ≤ n / 2) e low in
      record {
        enough = rw (pow-suc 2 (suc d)) (omega (arith, f.enough));
        all = λ l. subst (λ x. 2 ^ x ≤ n) (sym g) (rw (pow-suc 2 d) (omega (arith, low_d)));
      })
]

needs : (k n : ℕ) → n ≤ k → NeedsDigits n (digits_in k n)
needs zero n h = let e : n ≡ 0 = omega (arith, h) in rw (e, digits-none zero) (record { enough = omega arith; all = λ l. absurd (omega (arith, l)) })
needs (suc k) n h = elim (cases_eq n 0) [
  | inl e ↦ rw (e, digits-none (suc k)) (record { enough = omega arith; all = λ l. absurd (omega (arith, l)) })
  | inr ne ↦ (
      let e : digits_in (suc k) n ≡ suc (digits_in k (n / 2)) = omega (arith, digits-more k n (omega (arith, ne))) in
      subst (NeedsDigits n) (sym e) (more n (digits_in k (n / 2)) (omega (arith, ne)) (needs k (n / 2) (omega (arith, h, ne))) (λ z. ap (digits_in k) z ∙ digits-none k)))
]

pub digits-are-binary : DigitsAreBinary
digits-are-binary n = needs n n (omega arith)
