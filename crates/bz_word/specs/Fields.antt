-- Fields of a word: which bits they are, and what a number at a place adds to the word.
use Rattle.std.specs.Prelude.{ℕ, ◌*◌, ◌/◌, ◌%◌, ◌^◌}

-- the number in the `width` bits of a word from bit `place` on
abbrev pub field : ℕ → ℕ → ℕ → ℕ
field place width word = word / 2 ^ place % 2 ^ width

-- what a number adds to a word in which it stands from bit `place` on
abbrev pub at : ℕ → ℕ → ℕ
at place number = number * 2 ^ place
