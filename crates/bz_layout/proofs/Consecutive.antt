-- What a filter keeps of consecutive numbers.
use Rattle.std.proofs.Common.{◌≡◌, ◌≢◌, ℕ, ◌+◌, ◌<◌, ◌≤◌, Bool, true, false, cond, zero, suc, List, [], ◌∷◌, length, refl, sym, ◌∙◌, arith}
use Rattle.std.specs.List.{filter, range_with_len}

-- two filters in a row are one
pub filter-filter : (p r q : ℕ → Bool) → ((x : ℕ) → q x ≡ cond (p x) (r x) false) → (xs : List ℕ) → filter r (filter p xs) ≡ filter q xs
filter-filter p r q both [] = refl
filter-filter p r q both (x ∷ xs) = step (p x) (r x) (q x) refl (both x) (filter-filter p r q both xs)
  where
    step : (pass keep passes : Bool) → r x ≡ keep → passes ≡ cond pass keep false → filter r (filter p xs) ≡ filter q xs → filter r (cond pass (x ∷ filter p xs) (filter p xs)) ≡ cond passes (x ∷ filter q xs) (filter q xs)
    step true true passes keeps e rest = rw (keeps, e, rest) refl
    step true false passes keeps e rest = rw (keeps, e, rest) refl
    step false keep passes keeps e rest = rw (e, rest) refl

-- tests that agree on the numbers keep the same ones
pub filter_same : (p q : ℕ → Bool) (a n : ℕ) → ((k : ℕ) → a ≤ k → k < a + n → p k ≡ q k) → filter p (range_with_len a n) ≡ filter q (range_with_len a n)
filter_same p q a zero same = refl
filter_same p q a (suc n) same =
    let rest : filter p (range_with_len (a + 1) n) ≡ filter q (range_with_len (a + 1) n) = filter_same p q (a + 1) n (λ k low high. same k (omega arith) (omega arith)) in
    let first : p a ≡ q a = same a (omega arith) (omega arith) in
    rw (first, rest) refl

-- a test that no number passes keeps none
pub filter_none : (p : ℕ → Bool) (a n : ℕ) → ((k : ℕ) → a ≤ k → k < a + n → p k ≡ false) → filter p (range_with_len a n) ≡ []
filter_none p a zero none = refl
filter_none p a (suc n) none =
    let rest : filter p (range_with_len (a + 1) n) ≡ [] = filter_none p (a + 1) n (λ k low high. none k (omega arith) (omega arith)) in
    let first : p a ≡ false = none a (omega arith) (omega arith) in
    rw (first, rest) refl

-- a test that each number passes keeps all
pub filter_all : (p : ℕ → Bool) (a n : ℕ) → ((k : ℕ) → a ≤ k → k < a + n → p k ≡ true) → filter p (range_with_len a n) ≡ range_with_len a n
filter_all p a zero all = refl
filter_all p a (suc n) all =
    let rest : filter p (range_with_len (a + 1) n) ≡ range_with_len (a + 1) n = filter_all p (a + 1) n (λ k low high. all k (omega arith) (omega arith)) in
    let first : p a ≡ true = all a (omega arith) (omega arith) in
    rw (first, rest) refl

-- the first number that passes, d places on, and what is kept once it passes no more
pub filter_first : (p q : ℕ → Bool) (a n d s : ℕ) → a + d ≡ s → d < n → ((k : ℕ) → a ≤ k → k < s → p k ≡ false) → p s ≡ true → q s ≡ false → ((k : ℕ) → k ≢ s → q k ≡ p k) → filter p (range_with_len a n) ≡ s ∷ filter q (range_with_len a n)
filter_first p q a zero d s at inside before passes taken others = absurd (omega arith)
filter_first p q a (suc n) zero s at inside before passes taken others =
    let rest : filter p (range_with_len (a + 1) n) ≡ filter q (range_with_len (a + 1) n) = filter_same p q (a + 1) n (λ k low high. sym (others k (λ e. omega arith))) in
    let here : a ≡ s = omega arith in
    let now_passes : p a ≡ true = rw here passes in
    let now_taken : q a ≡ false = rw here taken in
    rw (now_passes, now_taken, rest, here) refl
filter_first p q a (suc n) (suc d) s at inside before passes taken others =
    let rest : filter p (range_with_len (a + 1) n) ≡ s ∷ filter q (range_with_len (a + 1) n) = filter_first p q (a + 1) n d s (omega arith) (omega arith) (λ k low high. before k (omega arith) high) passes taken others in
    let skipped : p a ≡ false = before a (omega arith) (omega arith) in
    let still : q a ≡ false = others a (λ e. omega arith) ∙ skipped in
    rw (skipped, still) rest

-- a number that passes no more, d places on, is one number fewer
pub length-filter_taken : (p q : ℕ → Bool) (a n d s : ℕ) → a + d ≡ s → d < n → p s ≡ true → q s ≡ false → ((k : ℕ) → k ≢ s → q k ≡ p k) → length (filter p (range_with_len a n)) ≡ length (filter q (range_with_len a n)) + 1
length-filter_taken p q a zero d s at inside passes taken others = absurd (omega arith)
length-filter_taken p q a (suc n) zero s at inside passes taken others =
    let rest : filter p (range_with_len (a + 1) n) ≡ filter q (range_with_len (a + 1) n) = filter_same p q (a + 1) n (λ k low high. sym (others k (λ e. omega arith))) in
    let here : a ≡ s = omega arith in
    let now_passes : p a ≡ true = rw here passes in
    let now_taken : q a ≡ false = rw here taken in
    rw (now_passes, now_taken, rest) (omega arith)
length-filter_taken p q a (suc n) (suc d) s at inside passes taken others =
    let rest : length (filter p (range_with_len (a + 1) n)) ≡ length (filter q (range_with_len (a + 1) n)) + 1 = length-filter_taken p q (a + 1) n d s (omega arith) (omega arith) passes taken others in
    let same : q a ≡ p a = others a (λ e. omega arith) in
    rw same (longer (p a) (filter p (range_with_len (a + 1) n)) (filter q (range_with_len (a + 1) n)) rest)
  where
    longer : (b : Bool) (xs ys : List ℕ) → length xs ≡ length ys + 1 → length (cond b (a ∷ xs) xs) ≡ length (cond b (a ∷ ys) ys) + 1
    longer true xs ys e = omega arith
    longer false xs ys e = e
