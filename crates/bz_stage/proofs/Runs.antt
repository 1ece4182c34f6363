-- How many levels pass a test, one after the other.
use Rattle.std.proofs.Common.{◌≡◌, ℕ, zero, suc, ◌+◌, ◌<◌, ◌≤◌, if◌then◌else◌, Bool, true, false, arith, refl, ap, ◌∙◌, inl, inr}
use Rattle.std.proofs.lemmas.Bool.{cases_lt}
use Rattle.bz_stage.specs.Paths.{run_from}

more-none : (n : ℕ) → n ≡ n + 0
more-none n = omega arith

more-one : (n j : ℕ) → suc n + j ≡ n + suc j
more-one n j = omega arith

pub run-at-most : (passes : ℕ → Bool) (level n : ℕ) → run_from passes level n ≤ n
unfolding run_from
run-at-most passes level zero = omega arith
run-at-most passes level (suc n) = go (passes level) (run-at-most passes (suc level) n)
  where
    go : (b : Bool) → run_from passes (suc level) n ≤ n → (if b then suc (run_from passes (suc level) n) else 0) ≤ suc n
    go true h = omega (arith, h)
    go false h = omega arith

-- a level that does not pass ends it
pub run-stops : (passes : ℕ → Bool) (level n j : ℕ) → passes (level + j) ≡ false → run_from passes level n ≤ j
unfolding run_from
run-stops passes level zero j e = omega arith
run-stops passes level (suc n) zero e = go (passes level) (ap passes (more-none level) ∙ e)
  where
    go : (b : Bool) → b ≡ false → (if b then suc (run_from passes (suc level) n) else 0) ≤ 0
    go true h = absurd (grind (arith, h))
    go false h = omega arith
run-stops passes level (suc n) (suc j) e = go (passes level) (run-stops passes (suc level) n j (ap passes (more-one level j) ∙ e))
  where
    go : (b : Bool) → run_from passes (suc level) n ≤ j → (if b then suc (run_from passes (suc level) n) else 0) ≤ suc j
    go true h = omega (arith, h)
    go false h = omega arith

-- it goes on while they pass
pub run-reaches : (passes : ℕ → Bool) (level n j : ℕ) → ((i : ℕ) → level ≤ i → i < level + j → passes i ≡ true) → j ≤ n → j ≤ run_from passes level n
unfolding run_from
run-reaches passes level n zero h le = omega arith
run-reaches passes level zero (suc j) h le = absurd (omega arith)
run-reaches passes level (suc n) (suc j) h le = go (passes level) (h level (omega arith) (omega arith)) (run-reaches passes (suc level) n j (λ i a b. h i (omega arith) (omega arith)) (omega arith))
  where
    go : (b : Bool) → b ≡ true → j ≤ run_from passes (suc level) n → suc j ≤ (if b then suc (run_from passes (suc level) n) else 0)
    go true t more = omega (arith, more)
    go false t more = absurd (grind (arith, t))

-- two tests that agree on these levels
pub run-same : (p q : ℕ → Bool) (level n : ℕ) → ((i : ℕ) → level ≤ i → i < level + n → p i ≡ q i) → run_from p level n ≡ run_from q level n
unfolding run_from
run-same p q level zero h = refl
run-same p q level (suc n) h = λ t. if h level (omega arith) (omega arith) t then suc (run-same p q (suc level) n (λ i a b. h i (omega arith) (omega arith)) t) else 0

-- so many, where the next one does not pass, or is none
pub run-is : (passes : ℕ → Bool) (n j : ℕ) → j ≤ n → ((i : ℕ) → 0 < i → i ≤ j → passes i ≡ true) → (j < n → passes (j + 1) ≡ false) → run_from passes 1 n ≡ j
run-is passes n j le all next =
    let from : j ≤ run_from passes 1 n = run-reaches passes 1 n j (λ i a b. all i (omega arith) (omega arith)) le in
    let most : run_from passes 1 n ≤ n = run-at-most passes 1 n in
    elim (cases_lt j n) [
      | inl lt ↦ let stop : run_from passes 1 n ≤ j = run-stops passes 1 n j (ap passes (other j) ∙ next lt) in omega (arith, from, stop)
      | inr ge ↦ omega (arith, from, most, ge)
    ]
  where
    other : (k : ℕ) → 1 + k ≡ k + 1
    other k = omega arith
