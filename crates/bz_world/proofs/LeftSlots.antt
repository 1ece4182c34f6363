-- A rising list of the numbers of a range that a test leaves out has as many as the others leave.
use Rattle.std.proofs.Common.{◌≡◌, ◌≢◌, ℕ, zero, suc, ◌+◌, ◌<◌, ◌≤◌, ◌||◌, ◌==◌, not, Bool, true, false, cond, List, [], ◌∷◌, Contains, length, arith, refl, sym, ap, ◌∙◌, inl, inr}
use Rattle.std.specs.Prelude.{count_by, filter, slice_index_or}
use Rattle.std.specs.List.{range_with_len}
use Rattle.std.specs.List.Sorted.{IsStrictlyIncreasing}
use Rattle.std.proofs.lemmas.Bool.{cases_eq, true≢false}
use Rattle.std.proofs.lemmas.Bool.Decides.{nat_tests}
use Rattle.std.proofs.lemmas.List.Kept.{AllPairs-from_increasing}
use Rattle.std.proofs.lemmas.List.Sums.{length-filter}
use native.Mathlib.Numerals.{unary_clauses}
use Rattle.bz_tree.specs.Walk.{is_among}
use Rattle.bz_world.proofs.Contained.{among-contains}

-- what is behind the first number of a rising list is above it
above-first : (x : ℕ) (xs : List ℕ) → IsStrictlyIncreasing (x ∷ xs) → (j : ℕ) → is_among xs j ≡ true → x < j
above-first x xs rising j among =
    let there : Contains xs j = among-contains xs j among in
    let below : x < slice_index_or xs there.0 j = AllPairs-from_increasing (x ∷ xs) rising 0 (suc there.0) j (omega arith) (omega (arith, there.1)) in
    omega (arith, below, there.2)

rest-rises : (x : ℕ) (xs : List ℕ) → IsStrictlyIncreasing (x ∷ xs) → IsStrictlyIncreasing xs
rest-rises x xs rising k within =
    let next = rising (suc k) (omega (arith, within)) in
    let moved = simp unary_clauses at next in
    simp unary_clauses moved

-- the numbers from a on, n of them, that do not pass
pub record AreLeftOut (f : ℕ → Bool) (a n : ℕ) (xs : List ℕ) : Type 0 where
  pub rising : IsStrictlyIncreasing xs
  pub from : (j : ℕ) → is_among xs j ≡ true → a ≤ j
  pub below : (j : ℕ) → is_among xs j ≡ true → j < a + n
  pub fails : (j : ℕ) → is_among xs j ≡ true → f j ≡ false
  pub all : (j : ℕ) → a ≤ j → j < a + n → f j ≡ false → is_among xs j ≡ true

first-among : (x : ℕ) (xs : List ℕ) → is_among (x ∷ xs) x ≡ true
first-among x xs = let t : (x == x) ≡ true = grind (arith, nat_tests) in rw t refl

later-among : (x : ℕ) (xs : List ℕ) (j : ℕ) → is_among xs j ≡ true → is_among (x ∷ xs) j ≡ true
later-among x xs j h = by (x == j)
  where
    by : (b : Bool) → b || is_among xs j ≡ true
    by true = refl
    by false = h

-- one that is not the first stands behind it
not-first : (x : ℕ) (xs : List ℕ) (j : ℕ) → x ≢ j → is_among (x ∷ xs) j ≡ true → is_among xs j ≡ true
not-first x xs j ne h = let f : (x == j) ≡ false = grind (arith, nat_tests) in rw f at h

-- the first number of the range passes
passed : (f : ℕ → Bool) (a n : ℕ) (xs : List ℕ) → AreLeftOut f a (suc n) xs → f a ≡ true → AreLeftOut f (a + 1) n xs
passed f a n xs l passes = record {
  rising = l.rising;
  from = λ j h. elim (cases_eq a j) [
    | inl e ↦ absurd (true≢false (sym passes ∙ (ap f e ∙ l.fails j h)))
    | inr ne ↦ omega (arith, l.from j h, ne)
  ];
  below = λ j h. omega (arith, l.below j h);
  fails = l.fails;
  all = λ j some few fails. l.all j (omega (arith, some)) (omega (arith, few)) fails;
}

-- or it does not, and is the first of the list
is-first : (f : ℕ → Bool) (a n x : ℕ) (xs : List ℕ) → AreLeftOut f a (suc n) (x ∷ xs) → f a ≡ false → x ≡ a
is-first f a n x xs l fails = elim (cases_eq x a) [
  | inl e ↦ e
  | inr ne ↦ absurd (omega (arith, l.from x (first-among x xs), above-first x xs l.rising a (not-first x xs a ne (l.all a (omega arith) (omega arith) fails))))
]

failed : (f : ℕ → Bool) (a n x : ℕ) (xs : List ℕ) → AreLeftOut f a (suc n) (x ∷ xs) → x ≡ a → AreLeftOut f (a + 1) n xs
failed f a n x xs l first = record {
  rising = rest-rises x xs l.rising;
  from = λ j h. omega (arith, above-first x xs l.rising j h, first);
  below = λ j h. omega (arith, l.below j (later-among x xs j h));
  fails = λ j h. l.fails j (later-among x xs j h);
  all = λ j some few fails. not-first x xs j (λ same. omega (arith, same, first, some)) (l.all j (omega (arith, some)) (omega (arith, few)) fails);
}

-- how many of the numbers behind a pass
abbrev passing : (ℕ → Bool) → ℕ → ℕ → List ℕ
passing f a n = filter f (range_with_len (a + 1) n)

count-failed : (f : ℕ → Bool) (a n : ℕ) → ((ys : List ℕ) → AreLeftOut f (a + 1) n ys → length ys + length (passing f a n) ≡ n) →
    (ys : List ℕ) → AreLeftOut f a (suc n) ys → f a ≡ false → length ys + length (passing f a n) ≡ suc n
count-failed f a n rest [] k e = absurd (true≢false (sym (k.all a (omega arith) (omega arith) e)))
count-failed f a n rest (y ∷ ys) k e =
    let of-rest : length ys + length (passing f a n) ≡ n = rest ys (failed f a n y ys k (is-first f a n y ys k e)) in
    omega (arith, of-rest)

count-first : (f : ℕ → Bool) (a n : ℕ) → ((ys : List ℕ) → AreLeftOut f (a + 1) n ys → length ys + length (passing f a n) ≡ n) →
    (xs : List ℕ) → AreLeftOut f a (suc n) xs → (b : Bool) → f a ≡ b → length xs + length (cond b (a ∷ passing f a n) (passing f a n)) ≡ suc n
count-first f a n rest xs l true e =
    let of-rest : length xs + length (passing f a n) ≡ n = rest xs (passed f a n xs l e) in
    omega (arith, of-rest)
count-first f a n rest xs l false e = count-failed f a n rest xs l e

count-among : (f : ℕ → Bool) (a n : ℕ) (xs : List ℕ) → AreLeftOut f a n xs → length xs + length (filter f (range_with_len a n)) ≡ n
count-among f a zero [] l = refl
count-among f a zero (x ∷ xs) l = absurd (omega (arith, l.from x (first-among x xs), l.below x (first-among x xs)))
count-among f a (suc n) xs l = count-first f a n (count-among f (a + 1) n) xs l (f a) refl

-- a test that passes more
filter-more : (f g : ℕ → Bool) → ((j : ℕ) → f j ≡ true → g j ≡ true) → (xs : List ℕ) → length (filter f xs) ≤ length (filter g xs)
filter-more f g more [] = omega arith
filter-more f g more (x ∷ xs) = by (f x) (g x) (more x) (filter-more f g more xs)
  where
    by : (a b : Bool) → (a ≡ true → b ≡ true) → length (filter f xs) ≤ length (filter g xs) → length (cond a (x ∷ filter f xs) (filter f xs)) ≤ length (cond b (x ∷ filter g xs) (filter g xs))
    by true true passes l = omega (arith, l)
    by true false passes l = absurd (true≢false (sym (passes refl)))
    by false true passes l = omega (arith, l)
    by false false passes l = l

-- numbers of a range that do not pass, and there may be more of these
pub record DoNotPass (f : ℕ → Bool) (n : ℕ) (xs : List ℕ) : Type 0 where
  pub rising : IsStrictlyIncreasing xs
  pub below : (j : ℕ) → is_among xs j ≡ true → j < n
  pub fails : (j : ℕ) → is_among xs j ≡ true → f j ≡ false

not-of : (b : Bool) → not b ≡ false → b ≡ true
not-of true e = refl
not-of false e = absurd (true≢false e)

passes-not : (f : ℕ → Bool) (xs : List ℕ) (j : ℕ) → (is_among xs j ≡ true → f j ≡ false) → f j ≡ true → not (is_among xs j) ≡ true
passes-not f xs j fails passes = by (is_among xs j) fails
  where
    by : (b : Bool) → (b ≡ true → f j ≡ false) → not b ≡ true
    by true h = absurd (true≢false (sym passes ∙ h refl))
    by false h = refl

pub count-fewer : (f : ℕ → Bool) (n : ℕ) (xs : List ℕ) → DoNotPass f n xs → length xs + count_by f (range_with_len 0 n) ≤ n
count-fewer f n xs d = omega (
  arith,
  count-among (λ j. not (is_among xs j)) 0 n xs (record { rising = d.rising; from = λ j h. omega arith; below = λ j h. omega (arith, d.below j h); fails = λ j h. ap not h; all = λ j some few fails. not-of (is_among xs j) fails }),
  length-filter f (range_with_len 0 n),
  filter-more f (λ j. not (is_among xs j)) (λ j passes. passes-not f xs j (d.fails j) passes) (range_with_len 0 n),
)

-- a range of which the first number alone passes
none-passes : (f : ℕ → Bool) (a n : ℕ) → ((j : ℕ) → a ≤ j → j < a + n → f j ≡ false) → filter f (range_with_len a n) ≡ []
none-passes f a zero fails = refl
none-passes f a (suc n) fails = rw (fails a (omega arith) (omega arith)) (none-passes f (a + 1) n (λ j some few. fails j (omega (arith, some)) (omega (arith, few))))

pub count-one : (f : ℕ → Bool) (n : ℕ) → 0 < n → f 0 ≡ true → ((j : ℕ) → 1 ≤ j → j < n → f j ≡ false) → count_by f (range_with_len 0 n) ≡ 1
count-one f zero some first fails = absurd (omega (arith, some))
count-one f (suc n) some first fails = sym (length-filter f (range_with_len 0 (suc n))) ∙ rw first (ap (λ (xs : List ℕ). suc (length xs)) (none-passes f 1 n (λ j above few. fails j above (omega (arith, few)))))

-- numbers that pass one test or the other
filter-either : (f g : ℕ → Bool) (xs : List ℕ) → length (filter (λ j. f j || g j) xs) ≤ length (filter f xs) + length (filter g xs)
filter-either f g [] = omega arith
filter-either f g (x ∷ xs) = by (f x) (g x) (filter-either f g xs)
  where
    by : (a b : Bool) → length (filter (λ j. f j || g j) xs) ≤ length (filter f xs) + length (filter g xs)
        → length (cond (a || b) (x ∷ filter (λ j. f j || g j) xs) (filter (λ j. f j || g j) xs)) ≤ length (cond a (x ∷ filter f xs) (filter f xs)) + length (cond b (x ∷ filter g xs) (filter g xs))
    by true true l = omega (arith, l)
    by true false l = omega (arith, l)
    by false true l = omega (arith, l)
    by false false l = l

-- a number stands in a range once at most
filter-one : (x a n : ℕ) → length (filter (λ j. x == j) (range_with_len a n)) ≤ 1
filter-one x a zero = omega arith
filter-one x a (suc n) = by (x == a) refl (filter-one x (a + 1) n)
  where
    by : (b : Bool) → (x == a) ≡ b → length (filter (λ j. x == j) (range_with_len (a + 1) n)) ≤ 1 → length (cond b (a ∷ filter (λ j. x == j) (range_with_len (a + 1) n)) (filter (λ j. x == j) (range_with_len (a + 1) n))) ≤ 1
    by true e l = rw (none-passes (λ j. x == j) (a + 1) n (λ j above few. let t : (x == j) ≡ false = grind (arith, nat_tests) in t)) (omega arith)
    by false e l = l

-- where each number of a range passes or is in the list
is-covered : (f : ℕ → Bool) (n : ℕ) (xs : List ℕ) → ((j : ℕ) → j < n → is_among xs j ≡ false → f j ≡ true) → n ≤ length xs + length (filter f (range_with_len 0 n))
is-covered f n [] covers =
    let all : 0 + length (filter f (range_with_len 0 n)) ≡ n = count-among f 0 n [] (record {
      rising = λ k within. absurd (omega (arith, within));
      from = λ j h. absurd (true≢false (sym h));
      below = λ j h. absurd (true≢false (sym h));
      fails = λ j h. absurd (true≢false (sym h));
      all = λ j some few fails. absurd (true≢false (sym (covers j (omega (arith, few)) refl) ∙ fails));
    }) in
    omega (arith, all)
is-covered f n (x ∷ xs) covers = omega (arith, is-covered (λ j. f j || (x == j)) n xs (λ j few out. by j out (f j) (x == j) (covers j few)), filter-either f (λ j. x == j) (range_with_len 0 n), filter-one x 0 n)
  where
    by : (j : ℕ) → is_among xs j ≡ false → (a b : Bool) → (b || is_among xs j ≡ false → a ≡ true) → a || b ≡ true
    by j out true b passes = refl
    by j out false true passes = refl
    by j out false false passes = absurd (true≢false (sym (passes out)))

pub count-more : (f : ℕ → Bool) (n : ℕ) (xs : List ℕ) → ((j : ℕ) → j < n → is_among xs j ≡ false → f j ≡ true) → n ≤ length xs + count_by f (range_with_len 0 n)
count-more f n xs covers = omega (arith, is-covered f n xs covers, length-filter f (range_with_len 0 n))

pub count-left : (f : ℕ → Bool) (a n : ℕ) (xs : List ℕ) → AreLeftOut f a n xs → length xs + count_by f (range_with_len a n) ≡ n
count-left f a n xs l = ap (λ m. length xs + m) (sym (length-filter f (range_with_len a n))) ∙ count-among f a n xs l
