-- How far a journal has been summed up.
use Rattle.std.specs.Prelude.{◌≡◌, ◌<◌, ℕ, Bool, List, length, Option}
use Rattle.std.specs.BTreeMap.{is_at}
use Rattle.std.specs.Cmp.Lexicographic.{slice_cmp}
use Rattle.std.specs.FinMap.{contains_key, len}
use Rattle.std.specs.List.{list_any}
use Rattle.std.specs.Ordering.{nat_cmp}
use Rattle.bz_call.specs.Map.{Map}
use Rattle.bz_mark.specs.Moments.{at_moment}
use Rattle.bz_mark.specs.declared.marks.Mark.{Mark}
use Rattle.bz_text.specs.Reading.{IsReadTo}
use Rattle.bz_text.specs.Report.{ended_calls}
use Rattle.bz_text.specs.Summary.{counts_of}
use Rattle.bz_text.specs.declared.counts.Counts.{Counts}

-- each count lies below this number
pub record AreBelow (most : ℕ) (counts : Counts) : Type 0 where
  pub inserted : counts.inserted < most
  pub exists : counts.exists < most
  pub deleted : counts.deleted < most
  pub updated : counts.updated < most
  pub missing : counts.missing < most
  pub value : counts.value < most
  pub page : counts.page < most
  pub full : counts.full < most

-- whether the key is among these
abbrev pub is_among : List ℕ → List (List ℕ) → Bool
is_among key keys = list_any (is_at (slice_cmp nat_cmp key)) keys

-- these are the keys of the map, each once
pub record AreKeysOf (map : Map) (keys : List (List ℕ)) : Type 0 where
  pub same : (key : List ℕ) → is_among key keys ≡ contains_key map key
  pub count : length keys ≡ len map

-- where the open calls began, and how calls have ended, before this moment
pub record IsCountedTo (past : List Mark) (moment : ℕ) (begins : List (Option ℕ)) (counts : Counts) : Type 0 where
  pub table : IsReadTo past moment begins (ended_calls (at_moment moment past))
  pub so_far : counts ≡ counts_of (at_moment moment past)
