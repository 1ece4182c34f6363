-- One pass over the marks of a journal: what is kept, and what it says of the marks so far. The newest mark stands first.
use Rattle.std.specs.Prelude.{◌≡◌, ℕ, List, length, Option}
use Rattle.bz_call.specs.Map.{Map}
use Rattle.bz_layout.specs.declared.config.Config.{Config}
use Rattle.bz_mark.specs.declared.marks.Mark.{Mark}
use Rattle.bz_mark.specs.declared.power.Power.{Power}
use Rattle.bz_sound.specs.Calls.{map_after}
use Rattle.bz_check.specs.declared.sights.Sight.{Sight}
use Rattle.bz_check.specs.Counts.{Counted, Counts, CountsWithin}
use Rattle.bz_check.specs.Kept.{Kept, IsSized}
use Rattle.bz_check.specs.Knowing.{Knows}
use Rattle.bz_check.specs.Pairs.{Holds}
use Rattle.bz_check.specs.Replays.{Replays}
use Rattle.bz_check.specs.Sights.{seen_after}
use Rattle.bz_check.specs.Tables.{Known}

-- the words, the calls, the pairs of the map, what was seen, and what is counted
pub record Passed : Type 0 where
  pub words : Kept
  pub table : Known
  pub pairs : List (List ℕ × List ℕ)
  pub seen : List (Option Sight)
  pub counts : Counted

-- what is kept after so many marks: whole lines, all workers, and no count above the marks
pub record IsPass (now : ℕ) (p : Passed) : Type 0 where
  pub sized : IsSized p.words
  pub workers : length p.table.callers ≡ 256
  pub counted : CountsWithin now p.counts

-- it is what the marks say. The map was this one at the start
pub record Passes (c : Config) (at_start : Power) (start : List ℕ) (at : Map) (past : List Mark) (p : Passed) : Type 0 where
  pub replays : Replays start past p.words
  pub knows : Knows at_start past p.table
  pub holds : Holds (map_after at past) p.pairs
  pub sees : p.seen ≡ seen_after at past
  pub counts : Counts c past p.counts
