-- What a journal needs to have lines, told part by part.
use Rattle.std.specs.Prelude.{◌≡◌, ◌≤◌, ℕ, List, [], ◌∷◌, length}
use Rattle.std.specs.List.{AllByRecursion}
use Rattle.bz_layout.specs.Addresses.{words_of}
use Rattle.bz_layout.specs.declared.config.Config.{Config}
use Rattle.bz_layout.specs.declared.limits.TheConstants.{MAX_MARKS, MAX_CALLS, MAX_PAGES}
use Rattle.bz_mark.specs.declared.marks.Mark.{Mark}
use Rattle.bz_mark.specs.Log.{Log, count_begins, count_ends, count_page_ends}
use Rattle.bz_lines.specs.Ranges.{IsInRange, IsNumbered, ArePairs}
use Rattle.bz_reading.specs.Heads.{IsStart}

-- each mark has its numbers in their ranges, over a memory of so many words
abbrev pub AreInRange : ℕ → List Mark → Type 0
AreInRange words [] = Unit {0}
AreInRange words (mark ∷ past) = IsInRange words (length past) mark × AreInRange words past

-- pages have their numbers in the order of their Ends
abbrev pub AreNumbered : List Mark → Type 0
AreNumbered [] = Unit {0}
AreNumbered (mark ∷ past) = IsNumbered (count_page_ends past) mark × AreNumbered past

-- no more marks, Begins, Ends and pages than lines may tell
pub record AreFew (past : List Mark) (pages : List (List (List ℕ × List ℕ))) : Type 0 where
  pub marks : length past ≤ MAX_MARKS
  pub begins : count_begins past ≤ MAX_CALLS
  pub ends : count_ends past ≤ MAX_CALLS
  pub lists : length pages ≤ MAX_PAGES

-- a start image, marks with their numbers in range, as many pages as Ends name, in the order of these, and not too many of all
pub record Fits (c : Config) (log : Log) : Type 0 where
  pub start : IsStart c log.start
  pub range : AreInRange (words_of c) log.past
  pub numbered : AreNumbered log.past
  pub pages : length log.pages ≡ count_page_ends log.past
  pub told : AllByRecursion ArePairs log.pages
  pub few : AreFew log.past log.pages
