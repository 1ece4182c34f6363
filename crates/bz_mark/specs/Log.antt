-- What a journal says: where it began, its marks, its pages, and how many of each it may have.
use Rattle.std.specs.Prelude.{◌<◌, ℕ, ◌+◌, if◌then◌else◌, List, [], ◌∷◌, ◌++◌, length}
use Rattle.bz_call.specs.Pages.{is_page, names_page}
use Rattle.bz_mark.specs.declared.marks.Mark.{Mark}
use Rattle.bz_mark.specs.declared.marks.Mark.TheVariants.{Begin, End}

-- the most marks, Begins (and Ends) and pages
pub record Limits : Type 0 where
  pub marks : ℕ
  pub calls : ℕ
  pub pages : ℕ

-- the image from which the journal goes on, its marks with the newest first, and its pages in the order
-- of their numbers, each the list of its pairs
pub record Log : Type 0 where
  pub start : List ℕ
  pub past : List Mark
  pub pages : List (List (List ℕ × List ℕ))
  pub limits : Limits

-- how many calls have begun
abbrev pub count_begins : List Mark → ℕ
count_begins [] = 0
count_begins (Begin w n call ∷ past) = count_begins past + 1
count_begins (mark ∷ past) = count_begins past

-- how many calls have ended
abbrev pub count_ends : List Mark → ℕ
count_ends [] = 0
count_ends (End w n reply at ∷ past) = count_ends past + 1
count_ends (mark ∷ past) = count_ends past

-- how many calls that ask for a page have begun
abbrev pub count_page_calls : List Mark → ℕ
count_page_calls [] = 0
count_page_calls (Begin w n call ∷ past) = if is_page call then count_page_calls past + 1 else count_page_calls past
count_page_calls (mark ∷ past) = count_page_calls past

-- how many calls have ended with a reply that names a page
abbrev pub count_page_ends : List Mark → ℕ
count_page_ends [] = 0
count_page_ends (End w n reply at ∷ past) = if names_page reply then count_page_ends past + 1 else count_page_ends past
count_page_ends (mark ∷ past) = count_page_ends past

-- there is room for a mark: for any but a Begin or an End that is all it needs
abbrev pub HasTable : Log → Mark → Type 0
HasTable log (Begin w n call) = count_begins log.past < log.limits.calls
HasTable log (End w n reply at) = count_ends log.past < log.limits.calls
HasTable log mark = Unit {0}

pub record HasRoom (log : Log) (mark : Mark) : Type 0 where
  pub place : length log.past < log.limits.marks
  pub table : HasTable log mark

abbrev pub with_mark : Log → Mark → Log
with_mark log mark = record { start = log.start; past = mark ∷ log.past; pages = log.pages; limits = log.limits }

abbrev pub with_page : Log → List (List ℕ × List ℕ) → Log
with_page log pairs = record { start = log.start; past = log.past; pages = log.pages ++ pairs ∷ []; limits = log.limits }
