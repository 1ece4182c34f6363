-- Numbers of at most five digits, as they are printed.
use Rattle.std.proofs.Common.{◌≡◌, ◌≤◌, ◌<◌, ◌^◌, ℕ, ◌+◌, ◌/◌, ◌%◌, List, [], ◌∷◌, ◌++◌, sym, ap, ◌∙◌, arith}
use Rattle.std.specs.Fmt.{decimal}
use Rattle.std.proofs.lemmas.Fmt.{decimal_digit, decimal_step}
use Rattle.bz_gen.specs.Names.{digit_at}

-- the digits before the last one are those of a tenth
longer : (n : ℕ) (front : List ℕ) → 10 ≤ n → n < 10 ^ 5 → front ≡ decimal (n / 10) → front ++ (48 + n % 10) ∷ [] ≡ decimal n
longer n front low high e = ap (λ digits. digits ++ (48 + n % 10) ∷ []) e ∙ sym (decimal_step n low (omega arith))

last : (n : ℕ) → digit_at 1 n ≡ 48 + n % 10
last n = omega arith

pub one_digit : (n : ℕ) → n < 10 → digit_at 1 n ∷ [] ≡ decimal n
one_digit n high = let same : digit_at 1 n ≡ 48 + n = omega arith in ap (λ d. d ∷ []) same ∙ sym (decimal_digit n high)

pub two_digits : (n : ℕ) → 10 ≤ n → n < 100 → digit_at 10 n ∷ digit_at 1 n ∷ [] ≡ decimal n
two_digits n low high =
    let e = longer n _ low (omega arith) (one_digit (n / 10) (omega arith)) in
    let tens : digit_at 10 n ≡ digit_at 1 (n / 10) = omega arith in
    let ones = last n in
    cc

pub three_digits : (n : ℕ) → 100 ≤ n → n < 1000 → digit_at 100 n ∷ digit_at 10 n ∷ digit_at 1 n ∷ [] ≡ decimal n
three_digits n low high =
    let e = longer n _ (omega arith) (omega arith) (two_digits (n / 10) (omega arith) (omega arith)) in
    let hundreds : digit_at 100 n ≡ digit_at 10 (n / 10) = omega arith in
    let tens : digit_at 10 n ≡ digit_at 1 (n / 10) = omega arith in
    let ones = last n in
    cc

pub four_digits : (n : ℕ) → 1000 ≤ n → n < 10000 → digit_at 1000 n ∷ digit_at 100 n ∷ digit_at 10 n ∷ digit_at 1 n ∷ [] ≡ decimal n
four_digits n low high =
    let e = longer n _ (omega arith) (omega arith) (three_digits (n / 10) (omega arith) (omega arith)) in
    let thousands : digit_at 1000 n ≡ digit_at 100 (n / 10) = omega arith in
    let hundreds : digit_at 100 n ≡ digit_at 10 (n / 10) = omega arith in
    let tens : digit_at 10 n ≡ digit_at 1 (n / 10) = omega arith in
    let ones = last n in
    cc

pub all_five : (n : ℕ) → 10000 ≤ n → n < 10 ^ 5 → digit_at 10000 n ∷ digit_at 1000 n ∷ digit_at 100 n ∷ digit_at 10 n ∷ digit_at 1 n ∷ [] ≡ decimal n
all_five n low high =
    let e = longer n _ (omega arith) (omega arith) (four_digits (n / 10) (omega arith) (omega arith)) in
    let most : digit_at 10000 n ≡ digit_at 1000 (n / 10) = omega arith in
    let thousands : digit_at 1000 n ≡ digit_at 100 (n / 10) = omega arith in
    let hundreds : digit_at 100 n ≡ digit_at 10 (n / 10) = omega arith in
    let tens : digit_at 10 n ≡ digit_at 1 (n / 10) = omega arith in
    let ones = last n in
    cc
