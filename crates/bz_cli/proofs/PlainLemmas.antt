-- A word that is a number is no option for `clap`: it begins with no hyphen.
use Rattle.std.proofs.Common.{◌≡◌, ◌≤◌, ℕ, true, false, [], ◌∷◌, None, refl, arith, ◌==◌}
use Rattle.std.proofs.lemmas.Bool.Decides.{nat_tests}
use Rattle.std.specs.Str.{bytes_eq}
use Rattle.clap.specs.Lexer.{long_of, short_of}
use Rattle.bz_script.specs.Number.{is_number}
use Rattle.bz_cli.specs.CommandLine.{Text}

pub record IsPlain (word : Text) : Type 0 where
  pub no_dashes : bytes_eq word (45 ∷ 45 ∷ []) ≡ false
  pub no_long : long_of word ≡ None
  pub no_short : short_of word ≡ None

-- a number begins with a digit
first_digit : (d : ℕ) (ds : Text) → is_number (d ∷ ds) ≡ true → (48 ≤ d) × (d ≤ 57)
first_digit d ds is = grind (arith, nat_tests)

pub number_plain : (word : Text) → is_number word ≡ true → IsPlain word
number_plain [] is = absurd cc
number_plain (d ∷ ds) is =
    let digit = first_digit d ds is in
    let other : (d == 45) ≡ false = grind (arith, nat_tests, digit.0) in
    record { no_dashes = rw other refl; no_long = rw other refl; no_short = rw other refl }
