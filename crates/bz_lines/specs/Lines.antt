-- The lines of a journal.
use Rattle.std.specs.Prelude.{ℕ, List, [], ◌∷◌, ◌++◌, map, reverse}
use Rattle.std.specs.List.{flat_map}
use Rattle.serde_json.specs.Written.{compact_text}
use Rattle.bz_layout.specs.declared.config.Config.{Config}
use Rattle.bz_mark.specs.declared.marks.Mark.{Mark}
use Rattle.bz_mark.specs.Log.{Log}
use Rattle.bz_lines.specs.Objects.{data_of, head_data}

-- the first line
abbrev pub head_line : Config → List ℕ → List ℕ
head_line c start = compact_text (head_data c start)

-- the line of a mark
abbrev pub line_of : List (List (List ℕ × List ℕ)) → Mark → List ℕ
line_of pages mark = compact_text (data_of pages mark)

-- all lines: the first one, and one for each mark, the oldest first
abbrev pub lines_of : Config → Log → List (List ℕ)
lines_of c log = head_line c log.start ∷ map (line_of log.pages) (reverse log.past)

-- a line and its line feed
abbrev pub with_end : List ℕ → List ℕ
with_end line = line ++ 10 ∷ []

abbrev pub text_of : List (List ℕ) → List ℕ
text_of lines = flat_map with_end lines
