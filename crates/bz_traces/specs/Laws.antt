-- What the laws of this crate say.
use Rattle.std.specs.Prelude.{◌≡◌, ◌↔◌, ℕ, List}
use Rattle.bz_layout.specs.declared.config.Config.{Config}
use Rattle.bz_mark.specs.Log.{Log}
use Rattle.bz_lines.specs.Lines.{lines_of, text_of}
use Rattle.bz_traces.specs.Fitting.{Fits}
use Rattle.bz_traces.specs.Journals.{HasLines, IsSameJournal, BreaksAt}

-- No line breaks the lines of a journal: of no bytes are both answers of reading, Ok and Line, right.
abbrev pub NoLineBreaksLines : Type 0
NoLineBreaksLines = (c : Config) (log : Log) (bytes : List ℕ) (line : ℕ) → HasLines c log → bytes ≡ text_of (lines_of c log) → BreaksAt bytes line → ⊥

-- A text is the lines of one journal: so what was written of a journal tells that journal and no other.
abbrev pub TextIsOfOneJournal : Type 0
TextIsOfOneJournal = (c c' : Config) (log log' : Log) (bytes : List ℕ) → HasLines c log → HasLines c' log' → bytes ≡ text_of (lines_of c log) → bytes ≡ text_of (lines_of c' log') → IsSameJournal c c' log log'

-- A journal has lines exactly where its numbers are in their ranges, its pages stand in the order of their Ends, and nothing is
-- too many: nothing else is asked of it.
abbrev pub FittingHaveLines : Type 0
FittingHaveLines = (c : Config) (log : Log) → Fits c log ↔ HasLines c log
