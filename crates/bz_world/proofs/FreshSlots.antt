-- Of the slots of fresh memory all are free but the root's.
use Rattle.std.proofs.Common.{◌≡◌, ℕ, zero, suc, ◌+◌, ◌-◌, ◌<◌, ◌≤◌, ◌==◌, ◌&&◌, ◌||◌, not, Bool, true, false, List, [], ◌∷◌, length, arith, refl, sym, ◌∙◌, inl, inr}
use Rattle.std.proofs.lemmas.Bool.{cases_eq, true≢false}
use Rattle.std.proofs.lemmas.Bool.Decides.{nat_tests}
use Rattle.std.specs.List.{range_with_len}
use Rattle.bz_layout.specs.Slots.{without}
use Rattle.bz_tree.specs.Walk.{is_among}

-- the numbers from a on, n of them
among-range : (a n k : ℕ) → is_among (range_with_len a n) k ≡ true → (a ≤ k) × (k < a + n)
among-range a zero k h = absurd (cc)
among-range a (suc n) k h = elim (cases_eq a k) [
  | inl e ↦ (omega (arith, e), omega (arith, e))
  | inr ne ↦
      let f : (a == k) ≡ false = grind (arith, nat_tests) in
      let rest = among-range (a + 1) n k (rw f at h) in
      (omega (arith, rest.0), omega (arith, rest.1))
]

in-range : (a n k : ℕ) → a ≤ k → k < a + n → is_among (range_with_len a n) k ≡ true
in-range a zero k l m = absurd (omega (arith, l, m))
in-range a (suc n) k l m = elim (cases_eq a k) [
  | inl e ↦ let t : (a == k) ≡ true = grind (arith, nat_tests) in rw t refl
  | inr ne ↦
      let f : (a == k) ≡ false = grind (arith, nat_tests) in
      rw f (in-range (a + 1) n k (omega (arith, l, ne)) (omega (arith, m)))
]

-- a list without one of its numbers
among-without : (s : ℕ) (xs : List ℕ) (k : ℕ) → is_among (without s xs) k ≡ not (k == s) && is_among xs k
among-without s [] k = by_test (k == s)
  where
    by_test : (b : Bool) → false ≡ not b && false
    by_test true = refl
    by_test false = refl
among-without s (x ∷ xs) k = elim (cases_eq x s) [
  | inl e ↦
      let t : (x == s) ≡ true = grind (arith, nat_tests) in
      let same : (x == k) ≡ (k == s) = grind (arith, nat_tests) in
      rw t (among-without s xs k ∙ rw same (gone (k == s) (is_among xs k)))
  | inr ne ↦ let f : (x == s) ≡ false = grind (arith, nat_tests) in rw f (rw (among-without s xs k) (elim (cases_eq x k) [
    | inl e ↦
        let t : (x == k) ≡ true = grind (arith, nat_tests) in
        let other : (k == s) ≡ false = grind (arith, nat_tests) in
        rw (t, other) refl
    | inr nk ↦ let g : (x == k) ≡ false = grind (arith, nat_tests) in rw g refl
  ]))
]
  where
    gone : (b a : Bool) → not b && a ≡ not b && (b || a)
    gone true a = refl
    gone false a = refl

split : (b a : Bool) → not b && a ≡ true → (b ≡ false) × (a ≡ true)
split true a h = absurd (cc)
split false a h = (refl, h)

pub free-below : (n k : ℕ) → is_among (without 0 (range_with_len 0 n)) k ≡ true → k < n
free-below n k h = omega (arith, (among-range 0 n k (split (k == 0) (is_among (range_with_len 0 n) k) (sym (among-without 0 (range_with_len 0 n) k) ∙ h)).1).1)

pub free-root : (n k : ℕ) → is_among (without 0 (range_with_len 0 n)) k ≡ true → (k == 0) ≡ false
free-root n k h = (split (k == 0) (is_among (range_with_len 0 n) k) (sym (among-without 0 (range_with_len 0 n) k) ∙ h)).0

pub free-others : (n k : ℕ) → k < n → is_among (without 0 (range_with_len 0 n)) k ≡ false → (k == 0) ≡ true
free-others n k l h = by_test (k == 0) refl
  where
    kept : (b a : Bool) → b ≡ false → a ≡ true → not b && a ≡ true
    kept false true e f = refl
    kept true a e f = absurd (cc)
    kept false false e f = absurd (cc)

    by_test : (b : Bool) → (k == 0) ≡ b → b ≡ true
    by_test true e = refl
    by_test false e = absurd (true≢false (sym (among-without 0 (range_with_len 0 n) k ∙ kept (k == 0) (is_among (range_with_len 0 n) k) e (in-range 0 n k (omega arith) (omega (arith, l)))) ∙ h))

-- so that is one less
above-root : (a n : ℕ) → 0 < a → length (without 0 (range_with_len a n)) ≡ n
above-root a zero some = refl
above-root a (suc n) some = let f : (a == 0) ≡ false = grind (arith, nat_tests) in rw f (omega (arith, above-root (a + 1) n (omega (arith, some))))

pub count-fresh : (n : ℕ) → length (without 0 (range_with_len 0 n)) ≡ n - 1
count-fresh zero = refl
count-fresh (suc n) = omega (arith, above-root 1 n (omega arith))
