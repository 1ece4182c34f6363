-- Sizes that the laws of budgets speak of.
use Rattle.std.specs.Prelude.{ℕ}

-- the entries of a swap, at most
abbrev pub most_entries : ℕ
most_entries = 4

-- the words of a descriptor after its status: their number, and three for each entry
abbrev pub descriptor_words : ℕ
descriptor_words = 13

-- the workers, at most: those that swap, and the one that recovers
abbrev pub most_workers : ℕ
most_workers = 65

-- the words of a descriptor's two lines after its status
abbrev pub line_fields : ℕ
line_fields = 15
