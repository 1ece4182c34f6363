-- How many numbers of a range pass a test, and that no fewer pass one into which the others are mapped apart.
use Rattle.std.proofs.Common.{◌≡◌, ◌≢◌, ◌≤◌, ◌<◌, ◌+◌, ◌==◌, ◌&&◌, ℕ, zero, suc, Bool, true, false, not, cond, List, ◌∷◌, length, refl, sym, ap, ◌∙◌, inl, inr, arith}
use Rattle.std.specs.Prelude.{count_by, filter}
use Rattle.std.specs.List.{range_with_len}
use Rattle.std.proofs.lemmas.Bool.{cases_eq}
use Rattle.std.proofs.lemmas.Bool.Decides.{nat_tests}
use Rattle.std.proofs.lemmas.List.Sums.{length-filter}

-- a number that passes counts one
abbrev pub counts : Bool → ℕ
counts b = cond b 1 0

-- how many of the numbers from one on pass
unfoldable pub passing : (ℕ → Bool) → ℕ → ℕ → ℕ
passing p a zero = 0
passing p a (suc n) = counts (p a) + passing p (a + 1) n

length-one : {A : Type 0} (b : Bool) (x : A) (xs : List A) → length (cond b (x ∷ xs) xs) ≡ cond b 1 0 + length xs
length-one true x xs = omega arith
length-one false x xs = omega arith

passing-filter : (p : ℕ → Bool) (a n : ℕ) → passing p a n ≡ length (filter p (range_with_len a n))
unfolding passing
passing-filter p a zero = refl
passing-filter p a (suc n) = ap (λ (rest : ℕ). cond (p a) 1 0 + rest) (passing-filter p (a + 1) n) ∙ sym (length-one (p a) a (filter p (range_with_len (a + 1) n)))

pub passing-count : (p : ℕ → Bool) (a n : ℕ) → passing p a n ≡ count_by p (range_with_len a n)
passing-count p a n = passing-filter p a n ∙ length-filter p (range_with_len a n)

-- none where no number passes
pub none-passing : (p : ℕ → Bool) (a n : ℕ) → ((i : ℕ) → p i ≡ false) → passing p a n ≡ 0
unfolding passing
none-passing p a zero none = refl
none-passing p a (suc n) none = omega (arith, ap counts (none a), none-passing p (a + 1) n none)

both : (b : Bool) → cond b 1 0 + cond (not b) 1 0 ≡ 1
both true = refl
both false = refl

-- those that pass and those that do not
pub all-passing : (p : ℕ → Bool) (a n : ℕ) → passing p a n + passing (λ i. not (p i)) a n ≡ n
unfolding passing
all-passing p a zero = refl
all-passing p a (suc n) = omega (arith, both (p a), all-passing p (a + 1) n)

-- the test without one number
abbrev pub without : (ℕ → Bool) → ℕ → ℕ → Bool
without q x v = q v && not (v == x)

still-passes : (b same : Bool) → same ≡ false → (b && not same) ≡ b
still-passes true false is = refl
still-passes false false is = refl
still-passes b true is = absurd (cc)

passes-no_more : (b same : Bool) → same ≡ true → (b && not same) ≡ false
passes-no_more true true is = refl
passes-no_more false true is = refl
passes-no_more b false is = absurd (cc)

past-one : (q : ℕ → Bool) (x a n : ℕ) → x < a → passing (without q x) a n ≡ passing q a n
unfolding passing
past-one q x a zero h = refl
past-one q x a (suc n) h =
    let other : (a == x) ≡ false = grind (arith, nat_tests) in
    let head : without q x a ≡ q a = still-passes (q a) (a == x) other in
    omega (arith, ap counts head, past-one q x (a + 1) n (omega arith))

-- one fewer passes
pub without-one : (q : ℕ → Bool) (x a n : ℕ) → a ≤ x → x < a + n → q x ≡ true → passing q a n ≡ 1 + passing (without q x) a n
unfolding passing
without-one q x a zero low high is = absurd (omega arith)
without-one q x a (suc n) low high is = elim (cases_eq a x) [
  | inl here ↦
      let same : (a == x) ≡ true = grind (arith, nat_tests) in
      let head : q a ≡ true = ap q here ∙ is in
      let none : without q x a ≡ false = passes-no_more (q a) (a == x) same in
      omega (arith, ap counts head, ap counts none, past-one q x (a + 1) n (omega arith))
  | inr later ↦
      let other : (a == x) ≡ false = grind (arith, nat_tests) in
      let head : without q x a ≡ q a = still-passes (q a) (a == x) other in
      omega (arith, ap counts head, without-one q x (a + 1) n (omega arith) (omega arith) is)
]

-- a number of a range that passes
pub record Lands (q : ℕ → Bool) (b k v : ℕ) : Type 0 where
  pub low : b ≤ v
  pub high : v < b + k
  pub passes : q v ≡ true

-- each that passes the first test is mapped to one that passes the second, and different ones to different ones
pub record IsApartInto (p q : ℕ → Bool) (f : ℕ → ℕ) (a n b k : ℕ) : Type 0 where
  pub lands : (i : ℕ) → a ≤ i → i < a + n → p i ≡ true → Lands q b k (f i)
  pub apart : (i j : ℕ) → a ≤ i → i < a + n → a ≤ j → j < a + n → p i ≡ true → p j ≡ true → f i ≡ f j → i ≡ j

rest : (p q : ℕ → Bool) (f : ℕ → ℕ) (a n b k : ℕ) → IsApartInto p q f a (suc n) b k → IsApartInto p q f (a + 1) n b k
rest p q f a n b k h = record {
  lands = λ i low high is. h.lands i (omega arith) (omega arith) is;
  apart = λ i j li hi lj hj pi pj same. h.apart i j (omega arith) (omega arith) (omega arith) (omega arith) pi pj same;
}

rest-without : (p q : ℕ → Bool) (f : ℕ → ℕ) (a n b k : ℕ) → p a ≡ true → IsApartInto p q f a (suc n) b k → IsApartInto p (without q (f a)) f (a + 1) n b k
rest-without p q f a n b k first h = record {
  lands = λ i low high is.
      let lands : Lands q b k (f i) = h.lands i (omega arith) (omega arith) is in
      let different : f i ≢ f a = (λ same. let one : i ≡ a = h.apart i a (omega arith) (omega arith) (omega arith) (omega arith) is first same in absurd (omega arith)) in
      let other : (f i == f a) ≡ false = grind (arith, nat_tests) in
      record { low = lands.low; high = lands.high; passes = still-passes (q (f i)) (f i == f a) other ∙ lands.passes };
  apart = λ i j li hi lj hj pi pj same. h.apart i j (omega arith) (omega arith) (omega arith) (omega arith) pi pj same;
}

more-passing : (t : Bool) (p q : ℕ → Bool) (f : ℕ → ℕ) (a n b k : ℕ) → p a ≡ t → IsApartInto p q f a (suc n) b k
    → ((r : ℕ → Bool) → IsApartInto p r f (a + 1) n b k → passing p (a + 1) n ≤ passing r b k) → counts t + passing p (a + 1) n ≤ passing q b k
more-passing true p q f a n b k first h later =
    let lands : Lands q b k (f a) = h.lands a (omega arith) (omega arith) first in
    omega (arith, without-one q (f a) b k lands.low lands.high lands.passes, later (without q (f a)) (rest-without p q f a n b k first h))
more-passing false p q f a n b k first h later = omega (arith, later q (rest p q f a n b k h))

pub no-fewer : (p q : ℕ → Bool) (f : ℕ → ℕ) (a n b k : ℕ) → IsApartInto p q f a n b k → passing p a n ≤ passing q b k
unfolding passing
no-fewer p q f a zero b k h = omega arith
no-fewer p q f a (suc n) b k h = more-passing (p a) p q f a n b k refl h (λ q rest. no-fewer p q f (a + 1) n b k rest)

-- those below a number, where just these pass
pub below-passing : (p : ℕ → Bool) (a n k : ℕ) → k ≤ n → ((i : ℕ) → a ≤ i → i < a + k → p i ≡ true) → ((i : ℕ) → a + k ≤ i → i < a + n → p i ≡ false) → passing p a n ≡ k
unfolding passing
below-passing p a zero k few low high = omega arith
below-passing p a (suc n) zero few low high =
    omega (arith, ap counts (high a (omega arith) (omega arith)), below-passing p (a + 1) n zero (omega arith) (λ i from to. absurd (omega arith)) (λ i from to. high i (omega arith) (omega arith)))
below-passing p a (suc n) (suc k) few low high =
    omega (arith, ap counts (low a (omega arith) (omega arith)), below-passing p (a + 1) n k (omega arith) (λ i from to. low i (omega arith) (omega arith)) (λ i from to. high i (omega arith) (omega arith)))
