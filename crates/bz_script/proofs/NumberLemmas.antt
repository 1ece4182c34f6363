-- Digits one after another.
use Rattle.std.proofs.Common.{◌≡◌, ◌≤◌, ◌<◌, ℕ, ◌-◌, ◌+◌, ◌*◌, List, [], ◌∷◌, length, drop, ◌^◌, get_or, true, refl, arith}
use Rattle.std.specs.Prelude.{nat_lt, Some, None, if◌then◌else◌}
use Rattle.std.specs.List.{list_all}
use Rattle.std.proofs.lemmas.Bool.Decides.{nat_tests}
use Rattle.std.proofs.lemmas.List.{drop_more, drop_all}
use Rattle.bz_script.specs.Number.{is_digit, is_number, number_of, number_after}

-- digits behind a number do not make it smaller
pub number_grows : (n : ℕ) (ds : List ℕ) → n ≤ number_after n ds
number_grows n [] = omega arith
number_grows n (d ∷ ds) = omega (arith, number_grows (n * 10 + (d - 48)) ds)

fits_some : (v : ℕ) → v < 2 ^ 64 → Some v ≡ (if nat_lt v (2 ^ 64) then Some v else None)
fits_some v h = grind (arith, nat_tests)

-- what the digits from one place on say of that place and of those behind it
pub record DigitAt (n : ℕ) (b : ℕ) (rest : List ℕ) (all : List ℕ) : Type 0 where
  pub low : 48 ≤ b
  pub high : b ≤ 57
  pub behind : list_all is_digit rest ≡ true
  pub number : number_after n all ≡ number_after (n * 10 + (b - 48)) rest

digit_cons : (n b : ℕ) (rest : List ℕ) → list_all is_digit (b ∷ rest) ≡ true → DigitAt n b rest (b ∷ rest)
digit_cons n b rest all = record { low = grind (arith, nat_tests); high = grind (arith, nat_tests); behind = grind (arith, nat_tests); number = refl }

pub digit_at : (n : ℕ) (word : List ℕ) (i : ℕ) → i < length word → list_all is_digit (drop i word) ≡ true → DigitAt n (get_or word i 0) (drop (i + 1) word) (drop i word)
digit_at n word i h all = rw (drop_more word i 0 h) (digit_cons n (get_or word i 0) (drop (i + 1) word) (rw (drop_more word i 0 h) at all))

-- the number after the last digit
pub number_found : (word : List ℕ) (i v : ℕ) → is_number word ≡ true → length word ≤ i → v < 2 ^ 64 → number_after v (drop i word) ≡ number_after 0 word → Some v ≡ number_of word
number_found word i v form past small is =
    let e : v ≡ number_after 0 word = rw (drop_all i word past) at is in
    rw (form, ← e) (fits_some v small)
