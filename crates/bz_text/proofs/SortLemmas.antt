-- A stable sort by numbers gives the list that insertion gives: two lists that rise, and have the same
-- elements of each number in the same order, are one list.
use Rattle.std.proofs.Common.{◌≡◌, ◌≤◌, ◌<◌, ◌⊎◌, inl, inr, ℕ, suc, Bool, true, false, List, [], ◌∷◌, length, get_or, refl, sym, ap, ◌∙◌, arith, ◌==◌}
use Rattle.std.specs.Prelude.{filter, nat_le, if◌then◌else◌}
use Rattle.std.specs.Ordering.{nat_cmp, is_lt}
use Rattle.std.specs.List.Sorted.{IsNonDecreasingBy, IsStableByKey, ties}
use Rattle.std.proofs.lemmas.Bool.Decides.{nat_tests}

module _ {X : Type 0} (n : X → ℕ) where
  -- each number is at least k
  abbrev pub AllAtLeast : ℕ → List X → Type 0
  AllAtLeast k [] = Unit {0}
  AllAtLeast k (x ∷ xs) = (k ≤ n x) × AllAtLeast k xs

  abbrev pub Rises : List X → Type 0
  Rises [] = Unit {0}
  Rises (x ∷ xs) = AllAtLeast (n x) xs × Rises xs

  -- the elements with this number
  abbrev pub those : ℕ → List X → List X
  those k [] = []
  those k (x ∷ xs) = if k == n x then x ∷ those k xs else those k xs

  abbrev pub put_by : X → List X → List X
  put_by x [] = x ∷ []
  put_by x (y ∷ ys) = if nat_le (n x) (n y) then x ∷ y ∷ ys else y ∷ put_by x ys

  abbrev pub sorted_by : List X → List X
  sorted_by [] = []
  sorted_by (x ∷ xs) = put_by x (sorted_by xs)

  at_least_less : (j k : ℕ) (xs : List X) → j ≤ k → AllAtLeast k xs → AllAtLeast j xs
  at_least_less j k [] le h = tt
  at_least_less j k (x ∷ xs) le h = (omega (arith, h.0), at_least_less j k xs le h.1)

  put_at_least : (k : ℕ) (x : X) (ys : List X) → k ≤ n x → AllAtLeast k ys → AllAtLeast k (put_by x ys)
  put_at_least k x [] le h = (le, tt)
  put_at_least k x (y ∷ ys) le h = elim (nat_le (n x) (n y)) as (λ b. AllAtLeast k (if b then x ∷ y ∷ ys else y ∷ put_by x ys)) [
    | true ↦ (le, h)
    | false ↦ (h.0, put_at_least k x ys le h.1)
  ]

  put_one : (b : Bool) (x y : X) (ys : List X) → nat_le (n x) (n y) ≡ b → Rises (y ∷ ys) → Rises (put_by x ys) → Rises (if b then x ∷ y ∷ ys else y ∷ put_by x ys)
  put_one true x y ys test h rest =
      let le : n x ≤ n y = grind (arith, nat_tests) in
      ((le, at_least_less (n x) (n y) ys le h.0), h)
  put_one false x y ys test h rest =
      let le : n y ≤ n x = grind (arith, nat_tests) in
      (put_at_least (n y) x ys le h.0, rest)

  put_rises : (x : X) (ys : List X) → Rises ys → Rises (put_by x ys)
  put_rises x [] h = (tt, tt)
  put_rises x (y ∷ ys) h = put_one (nat_le (n x) (n y)) x y ys refl h (put_rises x ys h.1)

  sorted_rises : (xs : List X) → Rises (sorted_by xs)
  sorted_rises [] = tt
  sorted_rises (x ∷ xs) = put_rises x (sorted_by xs) (sorted_rises xs)

  -- of two that stand the wrong way round at most one has the number
  pass_each : (p q : Bool) (x y : X) (rest : List X) → (p ≡ true → q ≡ true → ⊥)
      → (if q then y ∷ (if p then x ∷ rest else rest) else (if p then x ∷ rest else rest)) ≡ (if p then x ∷ (if q then y ∷ rest else rest) else (if q then y ∷ rest else rest))
  pass_each true true x y rest h = absurd (h refl refl)
  pass_each true false x y rest h = refl
  pass_each false true x y rest h = refl
  pass_each false false x y rest h = refl

  those_put_one : (b : Bool) (k : ℕ) (x y : X) (ys : List X) → nat_le (n x) (n y) ≡ b → those k (put_by x ys) ≡ those k (x ∷ ys)
      → those k (if b then x ∷ y ∷ ys else y ∷ put_by x ys) ≡ those k (x ∷ y ∷ ys)
  those_put_one true k x y ys test rest = refl
  those_put_one false k x y ys test rest =
      let less : n y < n x = grind (arith, nat_tests) in
      ap (λ (zs : List X). if k == n y then y ∷ zs else zs) rest
      ∙ pass_each (k == n x) (k == n y) x y (those k ys) (λ a b. grind (arith, nat_tests, a, b, less))

  those-put : (k : ℕ) (x : X) (ys : List X) → those k (put_by x ys) ≡ those k (x ∷ ys)
  those-put k x [] = refl
  those-put k x (y ∷ ys) = those_put_one (nat_le (n x) (n y)) k x y ys refl (those-put k x ys)

  those-sorted : (k : ℕ) (xs : List X) → those k (sorted_by xs) ≡ those k xs
  those-sorted k [] = refl
  those-sorted k (x ∷ xs) = those-put k x (sorted_by xs) ∙ ap (λ (zs : List X). if k == n x then x ∷ zs else zs) (those-sorted k xs)

  none_below : (k j : ℕ) (xs : List X) → k < j → AllAtLeast j xs → those k xs ≡ []
  none_below k j [] lt h = refl
  none_below k j (x ∷ xs) lt h =
      let test : (k == n x) ≡ false = grind (arith, nat_tests, h.0) in
      rw test (none_below k j xs lt h.1)

  same_test : (x : X) → (n x == n x) ≡ true
  same_test x = grind (arith, nat_tests)

  order : (j k : ℕ) → (j < k) ⊎ ((k < j) ⊎ (j ≡ k))
  order j k = grind (arith, nat_tests)

  drop_test : (b : Bool) (x : X) (ys zs : List X) → (if b then x ∷ ys else ys) ≡ (if b then x ∷ zs else zs) → ys ≡ zs
  drop_test true x ys zs h = cc
  drop_test false x ys zs h = h

  alike_here : (y z : X) (ys zs : List X) → n y ≡ n z → those (n y) (y ∷ ys) ≡ those (n y) (z ∷ zs) → y ≡ z
  alike_here y z ys zs same h =
      let here : y ∷ those (n y) ys ≡ z ∷ those (n y) zs = rw (same_test y, same, same_test z) at h in
      cc

  pub one_list : (ys zs : List X) → Rises ys → Rises zs → ((x : X) → those (n x) ys ≡ those (n x) zs) → ys ≡ zs
  one_list [] [] up down alike = refl
  one_list [] (z ∷ zs) up down alike = let h = rw (same_test z) at (alike z) in absurd (cc h)
  one_list (y ∷ ys) [] up down alike = let h = rw (same_test y) at (alike y) in absurd (cc h)
  one_list (y ∷ ys) (z ∷ zs) up down alike = elim (order (n y) (n z)) [
    | inl lt ↦
        let none : those (n y) (z ∷ zs) ≡ [] = none_below (n y) (n z) (z ∷ zs) lt (omega arith, down.0) in
        let h = rw (none, same_test y) at (alike y) in absurd (cc h)
    | inr (inl lt) ↦
        let none : those (n z) (y ∷ ys) ≡ [] = none_below (n z) (n y) (y ∷ ys) lt (omega arith, up.0) in
        let h = rw (none, same_test z) at (alike z) in absurd (cc h)
    | inr (inr same) ↦
        let one : y ≡ z = alike_here y z ys zs same (alike y) in
        let rest : ys ≡ zs = one_list ys zs up.1 down.1 (λ x. drop_test (n x == n y) y (those (n x) ys) (those (n x) zs) (alike x ∙ ap (λ (w : X). if n x == n w then w ∷ those (n x) zs else those (n x) zs) (sym one))) in
        cc (one, rest)
  ]

  at_least_from : (k : ℕ) (xs : List X) → ((j : ℕ) (d : X) → j < length xs → k ≤ n (get_or xs j d)) → AllAtLeast k xs
  at_least_from k [] h = tt
  at_least_from k (x ∷ xs) h = (h 0 x (omega arith), at_least_from k xs (λ j d lt. h (suc j) d (omega arith)))

  pub rises_from : (xs : List X) → IsNonDecreasingBy n xs → Rises xs
  rises_from [] h = tt
  rises_from (x ∷ xs) h = (at_least_from (n x) xs (λ j d lt. h 0 (suc j) d (omega arith) (omega arith)), rises_from xs (λ i j d le lt. h (suc i) (suc j) d (omega arith) (omega arith)))

  tie_is : (x y : X) → ties (λ a b. is_lt (nat_cmp (n a) (n b))) x y ≡ (n x == n y)
  tie_is x y = grind (arith, nat_tests)

  those_is : (x : X) (xs : List X) → filter (ties (λ a b. is_lt (nat_cmp (n a) (n b))) x) xs ≡ those (n x) xs
  those_is x [] = refl
  those_is x (y ∷ ys) = rw (tie_is x y, those_is x ys) refl

  -- what a stable sort by a number gives
  pub stable_is_sorted : (xs ys : List X) → IsNonDecreasingBy n ys → IsStableByKey n nat_cmp xs ys → ys ≡ sorted_by xs
  stable_is_sorted xs ys up stable =
      one_list ys (sorted_by xs) (rises_from ys up) (sorted_rises xs) (λ x. sym (those_is x ys) ∙ stable x ∙ those_is x xs ∙ sym (those-sorted (n x) xs))
