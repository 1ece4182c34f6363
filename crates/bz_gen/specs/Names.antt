-- The keys and the payloads of a workload.
use Rattle.std.specs.Prelude.{ℕ, ◌+◌, ◌/◌, ◌%◌, List, [], ◌∷◌}
use Rattle.std.specs.Fmt.{decimal}

-- the digit at a place of a number, as its byte: at 1 the last, at 10 the one before it
abbrev pub digit_at : ℕ → ℕ → ℕ
digit_at place number = 48 + number / place % 10

-- its last five digits, with leading zeros
abbrev pub five_digits : ℕ → List ℕ
five_digits number = digit_at 10000 number ∷ digit_at 1000 number ∷ digit_at 100 number ∷ digit_at 10 number ∷ digit_at 1 number ∷ []

-- `k` and five digits
unfoldable pub key_named : ℕ → List ℕ
key_named number = 107 ∷ five_digits number

-- `v` and the number as it is printed
unfoldable pub payload_named : ℕ → List ℕ
payload_named number = 118 ∷ decimal number
