-- Keys are lists of bytes in the order of their bytes, a prefix before its extensions. A range of keys has a
-- low bound, which is in it, or none, and a high bound, which is not in it, or none.
use Rattle.std.specs.Prelude.{ℕ, Bool, true, ◌&&◌, not, List, Option, Some, None}
use Rattle.std.specs.Cmp.Lexicographic.{slice_cmp}
use Rattle.std.specs.Ordering.{nat_cmp, is_lt}

-- one key is before another
unfoldable pub is_before : List ℕ → List ℕ → Bool
is_before a b = is_lt (slice_cmp nat_cmp a b)

-- a key is not before the low bound, if there is one
abbrev pub is_at_least : List ℕ → Option (List ℕ) → Bool
is_at_least key None = true
is_at_least key (Some low) = not (is_before key low)

-- a key is after the low bound, if there is one
abbrev pub is_above : List ℕ → Option (List ℕ) → Bool
is_above key None = true
is_above key (Some low) = is_before low key

-- a key is before the high bound, if there is one
abbrev pub is_below : List ℕ → Option (List ℕ) → Bool
is_below key None = true
is_below key (Some high) = is_before key high

-- a key is in a range
abbrev pub is_within : List ℕ → Option (List ℕ) → Option (List ℕ) → Bool
is_within key low high = is_at_least key low && is_below key high
