-- How many acts a recovery makes.
use Rattle.std.specs.Prelude.{ℕ}

-- for each word of the memory fewer than these
abbrev pub MOST_ACTS : ℕ
MOST_ACTS = 4
