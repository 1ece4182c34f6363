-- How many of a range pass a test, and pass another one that leaves out some of these and takes some others.
use Rattle.std.proofs.Common.{◌≡◌, ◌≢◌, ℕ, zero, suc, ◌+◌, ◌<◌, ◌≤◌, ◌||◌, ◌&&◌, ◌==◌, Bool, true, false, cond, List, [], ◌∷◌, length, arith, refl, sym, ap, ◌∙◌, inl, inr}
use Rattle.std.specs.Prelude.{not, count_by}
use Rattle.std.specs.List.{range_with_len}
use Rattle.std.proofs.lemmas.Bool.{cases_eq}
use Rattle.std.proofs.lemmas.Bool.Decides.{nat_tests}
use Rattle.std.proofs.lemmas.List.Sums.{sum_by-cons}
use Rattle.bz_tree.specs.Walk.{is_among}

-- the numbers from a on, n of them, that pass
abbrev counted : (ℕ → Bool) → ℕ → ℕ → ℕ
counted f a n = count_by f (range_with_len a n)

-- one for a number that passes
abbrev one : Bool → ℕ
one b = cond b 1 0

first-counted : (f : ℕ → Bool) (a n : ℕ) → counted f a (suc n) ≡ one (f a) + counted f (a + 1) n
first-counted f a n = sum_by-cons (λ k. one (f k)) a (range_with_len (a + 1) n)

-- two tests that are alike in the range
count-alike : (f g : ℕ → Bool) (a n : ℕ) → ((k : ℕ) → a ≤ k → k < a + n → g k ≡ f k) → counted g a n ≡ counted f a n
count-alike f g a zero alike = refl
count-alike f g a (suc n) alike =
    let head : one (g a) ≡ one (f a) = ap one (alike a (omega arith) (omega arith)) in
    let rest : counted g (a + 1) n ≡ counted f (a + 1) n = count-alike f g (a + 1) n (λ k some few. alike k (omega (arith, some)) (omega (arith, few))) in
    omega (arith, head, rest, first-counted f a n, first-counted g a n)

-- two tests that are alike but for one number of the range, which the second one takes
count-one-more : (f g : ℕ → Bool) (a n j : ℕ) → a ≤ j → j < a + n → f j ≡ false → g j ≡ true → ((k : ℕ) → k ≢ j → g k ≡ f k) → counted g a n ≡ counted f a n + 1
count-one-more f g a zero j from to fails passes alike = absurd (omega (arith, from, to))
count-one-more f g a (suc n) j from to fails passes alike = elim (cases_eq a j) [
  | inl e ↦ (
      let was : one (f a) ≡ 0 = ap one (ap f e ∙ fails) in
      let is : one (g a) ≡ 1 = ap one (ap g e ∙ passes) in
      let rest : counted g (a + 1) n ≡ counted f (a + 1) n = count-alike f g (a + 1) n (λ k some few. alike k (λ q. absurd (omega (arith, q, e, some)))) in
      omega (arith, was, is, rest, first-counted f a n, first-counted g a n))
  | inr ne ↦ (
      let head : one (g a) ≡ one (f a) = ap one (alike a ne) in
      let rest : counted g (a + 1) n ≡ counted f (a + 1) n + 1 = count-one-more f g (a + 1) n j (omega (arith, from, ne)) (omega (arith, to)) fails passes alike in
      omega (arith, head, rest, first-counted f a n, first-counted g a n))
]

-- different numbers below n, of which the test says the same
abbrev pub AreOf : (ℕ → Bool) → Bool → ℕ → List ℕ → Type 0
AreOf f says n [] = Unit {0}
AreOf f says n (x ∷ xs) = (x < n) × ((f x ≡ says) × ((is_among xs x ≡ false) × AreOf f says n xs))

-- the test without some numbers, and with some more
abbrev without : (ℕ → Bool) → List ℕ → ℕ → Bool
without f gone k = f k && not (is_among gone k)

abbrev with_more : (ℕ → Bool) → List ℕ → ℕ → Bool
with_more f new k = is_among new k || f k

no : (a b : ℕ) → a ≢ b → (a == b) ≡ false
no a b ne = grind (arith, nat_tests)

is : (a : ℕ) → (a == a) ≡ true
is a = grind (arith, nat_tests)

and-true : (b : Bool) → b && true ≡ b
and-true true = refl
and-true false = refl

and-false : (b : Bool) → b && false ≡ false
and-false true = refl
and-false false = refl

not-among : (x k : ℕ) (xs : List ℕ) → k ≢ x → is_among (x ∷ xs) k ≡ is_among xs k
not-among x k xs ne = let f : (x == k) ≡ false = no x k (λ e. ne (sym e)) in rw f refl

first-among : (x : ℕ) (xs : List ℕ) → is_among (x ∷ xs) x ≡ true
first-among x xs = rw (is x) refl

count-without : (f : ℕ → Bool) (n : ℕ) (gone : List ℕ) → AreOf f true n gone → counted (without f gone) 0 n + length gone ≡ counted f 0 n
count-without f n [] are = let same : counted (without f []) 0 n ≡ counted f 0 n = count-alike f (without f []) 0 n (λ k some few. and-true (f k)) in omega (arith, same)
count-without f n (x ∷ xs) (below, (passes, (apart, are))) =
    let rest : counted (without f xs) 0 n + length xs ≡ counted f 0 n = count-without f n xs are in
    let here : without f xs x ≡ true = ap (λ b. b && not (is_among xs x)) passes ∙ ap not apart in
    let left : without f (x ∷ xs) x ≡ false = ap (λ b. f x && not b) (first-among x xs) ∙ and-false (f x) in
    let one_less : counted (without f xs) 0 n ≡ counted (without f (x ∷ xs)) 0 n + 1 =
    count-one-more (without f (x ∷ xs)) (without f xs) 0 n x (omega arith) (omega (arith, below)) left here (λ k ne. ap (λ b. f k && not b) (sym (not-among x k xs ne))) in
    omega (arith, rest, one_less)

count-with : (f : ℕ → Bool) (n : ℕ) (new : List ℕ) → AreOf f false n new → counted (with_more f new) 0 n ≡ counted f 0 n + length new
count-with f n [] are = let same : counted (with_more f []) 0 n ≡ counted f 0 n = count-alike f (with_more f []) 0 n (λ k some few. refl) in omega (arith, same)
count-with f n (x ∷ xs) (below, (fails, (apart, are))) =
    let rest : counted (with_more f xs) 0 n ≡ counted f 0 n + length xs = count-with f n xs are in
    let here : with_more f (x ∷ xs) x ≡ true = ap (λ b. b || f x) (first-among x xs) in
    let before : with_more f xs x ≡ false = ap (λ b. b || f x) apart ∙ fails in
    let one_more : counted (with_more f (x ∷ xs)) 0 n ≡ counted (with_more f xs) 0 n + 1 =
    count-one-more (with_more f xs) (with_more f (x ∷ xs)) 0 n x (omega arith) (omega (arith, below)) before here (λ k ne. ap (λ b. b || f k) (not-among x k xs ne)) in
    omega (arith, rest, one_more)

still-fails : (f : ℕ → Bool) (gone : List ℕ) (n : ℕ) (new : List ℕ) → AreOf f false n new → AreOf (without f gone) false n new
still-fails f gone n [] are = tt
still-fails f gone n (x ∷ xs) (below, (fails, (apart, are))) = (below, (ap (λ b. b && not (is_among gone x)) fails, (apart, still-fails f gone n xs are)))

-- where a test takes some numbers that another one left out, and leaves out some that this one took, the counts differ by as many
pub count-exchanged : (f g : ℕ → Bool) (n : ℕ) (gone new : List ℕ) → AreOf f true n gone → AreOf f false n new
    → ((k : ℕ) → k < n → g k ≡ is_among new k || (f k && not (is_among gone k))) → count_by g (range_with_len 0 n) + length gone ≡ count_by f (range_with_len 0 n) + length new
count-exchanged f g n gone new out come told =
    let same : counted g 0 n ≡ counted (with_more (without f gone) new) 0 n = count-alike (with_more (without f gone) new) g 0 n (λ k some few. told k (omega (arith, few))) in
    let more : counted (with_more (without f gone) new) 0 n ≡ counted (without f gone) 0 n + length new = count-with (without f gone) n new (still-fails f gone n new come) in
    let less : counted (without f gone) 0 n + length gone ≡ counted f 0 n = count-without f n gone out in
    omega (arith, same, more, less)

-- where one number of a range passes, the count is not 0
pub count-some : (f : ℕ → Bool) (n j : ℕ) → j < n → f j ≡ true → 0 < count_by f (range_with_len 0 n)
count-some f n j below passes =
    let out : counted (without f (j ∷ [])) 0 n + 1 ≡ counted f 0 n = count-without f n (j ∷ []) (below, (passes, (refl, tt))) in
    omega (arith, out)
