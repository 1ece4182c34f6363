-- Numbers of a script, and the workers that they name.
use Rattle.std.specs.Prelude.{ℕ, ◌+◌, ◌-◌, ◌*◌, ◌^◌, Bool, ◌&&◌, ◌||◌, ◌==◌, not, slice_index, length, nat_le, nat_lt, if◌then◌else◌, List, [], ◌∷◌, Option, Some, None}
use Rattle.std.specs.List.{list_all}

-- the digits 0 to 9
abbrev pub is_digit : ℕ → Bool
is_digit b = nat_le 48 b && nat_le b 57

-- one to twenty digits, and no zero before others
abbrev pub is_number : List ℕ → Bool
is_number word =
    (nat_le 1 (length word) && nat_le (length word) 20) && list_all is_digit word
    && (nat_le (length word) 1 || not (slice_index word 0 == 48))

-- the number that digits write when they follow those of another
abbrev pub number_after : ℕ → List ℕ → ℕ
number_after n [] = n
number_after n (d ∷ ds) = number_after (n * 10 + (d - 48)) ds

-- the number of a word, if it writes one and that is below 2 ^ 64
abbrev pub number_of : List ℕ → Option ℕ
number_of word = if is_number word && nat_lt (number_after 0 word) (2 ^ 64) then Some (number_after 0 word) else None

-- a number in a range
abbrev pub within : ℕ → ℕ → Option ℕ → Option ℕ
within low high None = None
within low high (Some n) = if nat_le low n && nat_le n high then Some n else None

-- the worker that a word names
abbrev pub worker_of : List ℕ → Option ℕ
worker_of text = within 1 64 (number_of text)
