-- What the laws of calls ask of a journal, whatever the power does and whatever causes a Full.
use Rattle.std.proofs.Common.{◌≤◌, ℕ, List, [], ◌∷◌}
use Rattle.bz_layout.specs.declared.config.Config.{Config}
use Rattle.bz_call.specs.Map.{Map}
use Rattle.bz_call.specs.declared.replies.Spent.{Spent}
use Rattle.bz_mark.specs.Log.{Log}
use Rattle.bz_mark.specs.declared.marks.Mark.{Mark}
use Rattle.bz_mark.specs.declared.marks.Mark.TheVariants.{Begin, End, Effect}
use Rattle.bz_mark.specs.declared.power.Power.{Power}
use Rattle.bz_sound.specs.Calls.{Open, MayBegin, MayEnd, MayEffect}
use Rattle.bz_sound.specs.Memory.Calls as unbroken
use Rattle.bz_sound.specs.Memory.Moments.{map_at_start, IsAfterFence, EachMark}
use Rattle.bz_sound.specs.Memory.Replies.{HasRightReplyBy}
use Rattle.bz_sound.specs.Memory.Sound as unbroken_sound
use Rattle.bz_sound.specs.Memory.Spent as unbroken_spent
use Rattle.bz_sound.specs.Power.Calls as powered
use Rattle.bz_sound.specs.Power.Sound as powered_sound
use Rattle.bz_sound.specs.Power.Spent as powered_spent

-- what is asked of the marks that name calls
abbrev pub MayStand : Map → List Mark → Mark → Type 0
MayStand start past (Begin w n call) = (1 ≤ w) × MayBegin past w n
MayStand start past (End w n reply at) = MayEnd past w n
MayStand start past (Effect w n) = IsAfterFence past × MayEffect start past w n
MayStand start past mark = Unit {0}

abbrev pub CallsStand : Map → List Mark → Type 0
CallsStand start past = EachMark (MayStand start) past

-- such marks, and right replies
pub record Stands (Cause : List Mark → ℕ → Open → Spent → Type 0) (c : Config) (log : Log) : Type 0 where
  pub once : CallsStand (map_at_start c log.start) log.past
  pub replies : EachMark (HasRightReplyBy Cause c log.start log.pages) log.past

one-unbroken : (start : Map) (past : List Mark) (mark : Mark) → unbroken.MayFollow start past mark → MayStand start past mark
one-unbroken start past (Begin w n call) may = may
one-unbroken start past (End w n reply at) may = may
one-unbroken start past (Effect w n) may = may
one-unbroken start past mark may = tt

one-powered : (at_start : Power) (start : Map) (past : List Mark) (mark : Mark) → powered.MayFollow at_start start past mark → MayStand start past mark
one-powered at_start start past (Begin w n call) may = (may.worker, may.begins)
one-powered at_start start past (End w n reply at) may = may
one-powered at_start start past (Effect w n) may = may
one-powered at_start start past mark may = tt

pub unbroken-stand : (start : Map) (past : List Mark) → unbroken.CallsOnce start past → CallsStand start past
unbroken-stand start [] once = tt
unbroken-stand start (mark ∷ past) once = (one-unbroken start past mark once.0, unbroken-stand start past once.1)

pub powered-stand : (at_start : Power) (start : Map) (past : List Mark) → powered.CallsOnce at_start start past → CallsStand start past
powered-stand at_start start [] once = tt
powered-stand at_start start (mark ∷ past) once = (one-powered at_start start past mark once.0, powered-stand at_start start past once.1)

pub unbroken-stands : (c : Config) (log : Log) → unbroken_sound.IsSound c log → Stands (unbroken_spent.IsSpent c log.start) c log
unbroken-stands c log sound = record { once = unbroken-stand (map_at_start c log.start) log.past sound.once; replies = sound.replies }

pub powered-stands : (c : Config) (at_start : Power) (log : Log) → powered_sound.IsSound c at_start log → Stands (powered_spent.IsSpent c log.start) c log
powered-stands c at_start log sound = record { once = powered-stand at_start (map_at_start c log.start) log.past sound.once; replies = sound.replies }
