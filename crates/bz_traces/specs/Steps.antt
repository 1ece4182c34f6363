-- What reading the line of a mark makes of a journal.
use Rattle.std.specs.Prelude.{◌==◌, count_by, ◌≡◌, ◌<◌, ◌≤◌, ◌+◌, ℕ, true, List, ◌∷◌, ◌++◌, length, drop, Some}
use Rattle.serde_json.specs.Data.{Data}
use Rattle.bz_layout.specs.declared.limits.TheConstants.{MAX_MARKS, MAX_CALLS, MAX_PAGES}
use Rattle.bz_mark.specs.declared.marks.Mark.{Mark}
use Rattle.bz_mark.specs.Log.{Log, with_mark, count_begins, count_ends}
use Rattle.bz_traces.specs.declared.read_marks.Counts.{Counts}
use Rattle.bz_traces.specs.Journals.{IsNext, HasCallRoom, pages_with}
use Rattle.bz_lines.specs.Lines.{line_of, with_end}
use Rattle.bz_lines.specs.Ranges.{ArePairs, tells_page}
use Rattle.bz_reading.specs.Reading.{page_in}

-- the journal has room for as many calls and pages as may be, and for one mark more where the lines may have one
pub record HasSpace (log : Log) : Type 0 where
  pub marks : length log.past < MAX_MARKS → length log.past < log.limits.marks
  pub calls : log.limits.calls ≡ MAX_CALLS
  pub pages : log.limits.pages ≡ MAX_PAGES

-- how many calls have begun and ended
pub record AreCounts (past : List Mark) (counts : Counts) : Type 0 where
  pub begins : counts.begins ≡ count_begins past
  pub ends : counts.ends ≡ count_ends past

-- there may be one mark more
pub record HasPlace (log : Log) (mark : Mark) : Type 0 where
  pub marks : length log.past < MAX_MARKS
  pub calls : HasCallRoom log.past mark
  pub page : tells_page mark ≡ true → length log.pages < MAX_PAGES

abbrev pub with_pages : Log → List (List (List ℕ × List ℕ)) → Log
with_pages log pages = record { start = log.start; past = log.past; pages = pages; limits = log.limits }

-- the page of a mark was added, if the mark tells one: that of its object
pub record PageAdded (object : Data) (mark : Mark) (old new : Log) : Type 0 where
  pub pairs : List (List ℕ × List ℕ)
  pub told : ArePairs pairs
  pub read : tells_page mark ≡ true → page_in object ≡ Some pairs
  pub log : new ≡ with_pages old (pages_with old.pages mark pairs)

-- a mark that may come next was added, with its page: the one that the line tells
pub record MarkAdded (words : ℕ) (text : List ℕ) (old new : Log) : Type 0 where
  pub mark : Mark
  pub pairs : List (List ℕ × List ℕ)
  pub next : IsNext words old.past old.pages mark pairs
  pub line : text ≡ line_of (pages_with old.pages mark pairs) mark
  pub log : new ≡ with_mark (with_pages old (pages_with old.pages mark pairs)) mark

-- no mark may come next whose line stands at the front of these bytes
abbrev pub NoNext : ℕ → Log → List ℕ → Type 0
NoNext words log left = (mark : Mark) (pairs : List (List ℕ × List ℕ)) (behind : List ℕ) → IsNext words log.past log.pages mark pairs → left ≡ with_end (line_of (pages_with log.pages mark pairs) mark) ++ behind → ⊥

-- the first line of these bytes was taken: so many bytes, with its line feed
pub record LineTaken (words : ℕ) (left : List ℕ) (old new : Log) (counts : Counts) (taken : ℕ) : Type 0 where
  pub line : List ℕ
  pub some : 0 < taken
  pub fits : taken ≤ length left
  pub cut : left ≡ line ++ 10 ∷ drop taken left
  pub added : MarkAdded words line old new
  pub counted : AreCounts new.past counts

-- how many line feeds there are
abbrev pub feeds : List ℕ → ℕ
feeds bytes = count_by (λ b. b == 10) bytes

-- there is room for the marks of so many more lines
pub record HasRoomFor (lines : ℕ) (log : Log) : Type 0 where
  pub marks : (k : ℕ) → k < length log.past + lines → k < MAX_MARKS → k < log.limits.marks
  pub calls : log.limits.calls ≡ MAX_CALLS
  pub pages : log.limits.pages ≡ MAX_PAGES
