-- The lines of a report stand in the order of the moments at which their calls happened.
use Rattle.std.specs.Prelude.{◌≤◌, ◌<◌, ℕ, List, [], ◌∷◌}
use Rattle.bz_layout.specs.declared.config.Config.{Config}
use Rattle.bz_mark.specs.Log.{Log}
use Rattle.bz_mark.specs.declared.marks.Mark.{Mark}
use Rattle.bz_mark.specs.declared.marks.Mark.TheVariants.{End}
use Rattle.bz_sound.specs.Memory.Moments.{EachMark}
use Rattle.bz_sound.specs.Power.Sound.{IsSound}
use Rattle.bz_mark.specs.declared.power.Power.{Power}
use Rattle.bz_text.specs.RightLines.{reported_calls}
use Rattle.bz_text.specs.declared.ended.EndedCall.{EndedCall}

-- none of these calls happened before this moment
abbrev pub NoneBefore : ℕ → List EndedCall → Type 0
NoneBefore moment [] = Unit {0}
NoneBefore moment (ended ∷ calls) = (moment ≤ ended.at) × NoneBefore moment calls

-- each call happened no later than those that stand after it
abbrev pub AreInTime : List EndedCall → Type 0
AreInTime [] = Unit {0}
AreInTime (ended ∷ calls) = NoneBefore ended.at calls × AreInTime calls

-- a mark's worker is a byte
abbrev pub EndsByWorker : List Mark → Mark → Type 0
EndsByWorker past (End w n reply at) = w < 256
EndsByWorker past mark = Unit {0}

-- the calls of a report of a sound journal stand in the order of their moments, through all its parts
abbrev pub ReportsAreInTime : Type 0
ReportsAreInTime = (c : Config) (at_start : Power) (log : Log) → IsSound c at_start log → EachMark EndsByWorker log.past → AreInTime (reported_calls log.past)
