-- Which journals have lines, and which bytes are the lines of one.
use Rattle.std.specs.Prelude.{◌≡◌, ◌<◌, ◌≤◌, ◌-◌, ℕ, zero, suc, true, if◌then◌else◌, List, [], ◌∷◌, ◌++◌, length}
use Rattle.bz_layout.specs.Addresses.{words_of}
use Rattle.bz_layout.specs.declared.config.Config.{Config}
use Rattle.bz_layout.specs.declared.limits.TheConstants.{MAX_MARKS, MAX_CALLS, MAX_PAGES}
use Rattle.bz_mark.specs.declared.marks.Mark.{Mark}
use Rattle.bz_mark.specs.declared.marks.Mark.TheVariants.{Begin, End}
use Rattle.bz_mark.specs.Log.{Log, count_begins, count_ends}
use Rattle.bz_reading.specs.Heads.{IsStart}
use Rattle.bz_lines.specs.Lines.{lines_of, text_of}
use Rattle.bz_lines.specs.Ranges.{IsInRange, IsNumbered, ArePairs, tells_page}

-- the pages with that of a mark, if the mark names one
abbrev pub pages_with : List (List (List ℕ × List ℕ)) → Mark → List (List ℕ × List ℕ) → List (List (List ℕ × List ℕ))
pages_with pages mark pairs = if tells_page mark then pages ++ pairs ∷ [] else pages

-- one Begin or End more is not too many
abbrev pub HasCallRoom : List Mark → Mark → Type 0
HasCallRoom past (Begin w n call) = count_begins past < MAX_CALLS
HasCallRoom past (End w n reply at) = count_ends past < MAX_CALLS
HasCallRoom past mark = Unit {0}

-- a mark, and the pairs of its page, may come behind these marks and pages, over a memory of so many words: its numbers are in
-- their ranges, a page has the next number, and nothing becomes too many
pub record IsNext (words : ℕ) (past : List Mark) (pages : List (List (List ℕ × List ℕ))) (mark : Mark) (pairs : List (List ℕ × List ℕ)) : Type 0 where
  pub marks : length past < MAX_MARKS
  pub calls : HasCallRoom past mark
  pub page : tells_page mark ≡ true → length pages < MAX_PAGES
  pub range : IsInRange words (length past) mark
  pub numbered : IsNumbered (length pages) mark
  pub told : ArePairs pairs

-- each mark may come behind those before it. The newest stands first
pub data AreTold (words : ℕ) : List Mark → List (List (List ℕ × List ℕ)) → Type 0 where
  none : AreTold words [] []
  more : {past : List Mark} {pages : List (List (List ℕ × List ℕ))} {mark : Mark} {pairs : List (List ℕ × List ℕ)} → AreTold words past pages → IsNext words past pages mark pairs → AreTold words (mark ∷ past) (pages_with pages mark pairs)

-- a journal that has lines
pub record HasLines (c : Config) (log : Log) : Type 0 where
  pub start : IsStart c log.start
  pub marks : AreTold (words_of c) log.past log.pages

-- the same journal: its sizes, its start, its marks and its pages. How many marks there is room for is told by no line
pub record IsSameJournal (c c' : Config) (log log' : Log) : Type 0 where
  pub config : c ≡ c'
  pub start : log.start ≡ log'.start
  pub marks : log.past ≡ log'.past
  pub pages : log.pages ≡ log'.pages

-- the bytes begin with so many lines of a journal
abbrev pub BeginWith : ℕ → List ℕ → Type 0
BeginWith zero bytes = Unit {0}
BeginWith (suc marks) bytes = (c : Config) × (log : Log) × (rest : List ℕ) × HasLines c log × (length log.past ≡ marks) × (bytes ≡ text_of (lines_of c log) ++ rest)

-- and there is more behind these lines
abbrev pub GoesOn : ℕ → List ℕ → Type 0
GoesOn zero bytes = Unit {0}
GoesOn (suc marks) bytes = (c : Config) × (log : Log) × (rest : List ℕ) × HasLines c log × (length log.past ≡ marks) × (bytes ≡ text_of (lines_of c log) ++ rest) × (0 < length rest)

-- This line is the first one, counted from 1, that breaks the bytes: the lines before it are those of a journal, more stands
-- behind them, and with it they are no journal's.
pub record BreaksAt (bytes : List ℕ) (line : ℕ) : Type 0 where
  pub some : 1 ≤ line
  pub before : GoesOn (line - 1) bytes
  pub this : BeginWith line bytes → ⊥
