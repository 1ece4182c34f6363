-- Lines and words of a script.
use Rattle.std.specs.Prelude.{ℕ, Bool, ◌==◌, List, [], map, slice_index_or, bytes_eq}
use Rattle.std.specs.Borrow.{Bor}
use Rattle.std.specs.List.{slice_split}

-- the bytes of these parts of a text
abbrev pub texts_of : List (Bor (List ℕ)) → List (List ℕ)
texts_of parts = map (λ part. part.now) parts

-- the parts between line feeds: the lines, and then what stands behind the last line feed
abbrev pub lines_of : List ℕ → List (List ℕ)
lines_of bytes = slice_split (λ b. b == 10) bytes

-- the parts between single spaces
abbrev pub words_in_line : List ℕ → List (List ℕ)
words_in_line line = slice_split (λ b. b == 32) line

-- the word at a place, counted from 0, or no bytes where there is none
abbrev pub word : List (List ℕ) → ℕ → List ℕ
word words place = slice_index_or words place []

-- the word at a place is this one
abbrev pub is_word : List (List ℕ) → ℕ → List ℕ → Bool
is_word words place text = bytes_eq (word words place) text
