-- What power cuts leave of what held without them, and which mark may follow which.
use Rattle.std.specs.Prelude.{◌≡◌, ◌<◌, ◌+◌, ◌↔◌, ℕ, List, [], ◌∷◌, length, Some}
use Rattle.bz_layout.specs.declared.config.Config.{Config}
use Rattle.bz_call.specs.Map.{Map}
use Rattle.bz_call.specs.declared.calls.Call.{Call}
use Rattle.bz_mark.specs.Log.{Log, with_mark}
use Rattle.bz_mark.specs.Moments.{at_moment, mark_at}
use Rattle.bz_mark.specs.declared.marks.Mark.{Mark}
use Rattle.bz_mark.specs.declared.marks.Mark.TheVariants.{Begin, Cut, On, Ready}
use Rattle.bz_mark.specs.declared.power.Power.{Power}
use Rattle.bz_mark.specs.declared.power.Power.TheVariants as power
use Rattle.bz_sound.specs.Calls.{Open, open_call}
use Rattle.bz_sound.specs.Memory.Moments.{EachMark}
use Rattle.bz_sound.specs.Memory.Sound as unbroken
use Rattle.bz_sound.specs.Power.Calls.{IsAfterRecovering, MayFollow, CallsOnce}
use Rattle.bz_sound.specs.Power.Sound.{IsSound}
use Rattle.bz_mark.specs.Times.{LeavesPower, power_of}

-- the power neither fails nor comes on
abbrev pub IsUnbroken : List Mark → Type 0
IsUnbroken past = EachMark LeavesPower past

-- a journal is sound for as long as the power neither fails nor comes on exactly where it is one without such marks, and
-- is sound from a start with the power on
abbrev pub SoundAsBefore : Type 0
SoundAsBefore = (c : Config) (log : Log) → unbroken.IsSound c log ↔ (IsUnbroken log.past × IsSound c power.On log)

-- the newest mark is a Cut, or there is none and the power is off at the start
abbrev pub IsAfterCut : Power → List Mark → Type 0
IsAfterCut at_start [] = at_start ≡ power.Off
IsAfterCut at_start (Cut ∷ past) = Unit {0}
IsAfterCut at_start (mark ∷ past) = ⊥

-- what may follow these marks, by the power after them
pub record PowerTells (at_start : Power) (start : Map) (past : List Mark) : Type 0 where
  -- the power is off exactly after a Cut; then it may come on, and nothing else may happen
  pub off : power_of at_start past ≡ power.Off ↔ IsAfterCut at_start past
  pub comes_on : MayFollow at_start start past On ↔ IsAfterCut at_start past
  pub nothing_else : (mark : Mark) → IsAfterCut at_start past → MayFollow at_start start past mark → mark ≡ On
  -- everywhere else it may fail
  pub fails : MayFollow at_start start past Cut ↔ (IsAfterCut at_start past → ⊥)
  -- a call begins with the power on, and is open only while it is
  pub begins : (w n : ℕ) (call : Call) → MayFollow at_start start past (Begin w n call) → power_of at_start past ≡ power.On
  pub stays_open : (w : ℕ) (opened : Open) → open_call w past ≡ Some opened → power_of at_start past ≡ power.On
  -- recovery ends while it is under way
  pub ends_recovery : MayFollow at_start start past Ready → power_of at_start past ≡ power.Recovering

abbrev pub PowerTellsWhatFollows : Type 0
PowerTellsWhatFollows = (at_start : Power) (start : Map) (past : List Mark) → CallsOnce at_start start past → PowerTells at_start start past

-- what stands where in a sound journal
pub record PowerStands (at_start : Power) (past : List Mark) (moment : ℕ) : Type 0 where
  pub on : mark_at moment past ≡ Some On → IsAfterCut at_start (at_moment moment past)
  pub after_cut : (mark : Mark) → mark_at moment past ≡ Some Cut → moment + 1 < length past → mark_at (moment + 1) past ≡ Some mark → mark ≡ On
  pub ready : mark_at moment past ≡ Some Ready → IsAfterRecovering (at_moment moment past) × (power_of at_start (at_moment moment past) ≡ power.Recovering)
  pub begin : (w n : ℕ) (call : Call) → mark_at moment past ≡ Some (Begin w n call) → power_of at_start (at_moment moment past) ≡ power.On

abbrev pub PowerMarksStand : Type 0
PowerMarksStand = (c : Config) (at_start : Power) (log : Log) (moment : ℕ) → IsSound c at_start log → moment < length log.past → PowerStands at_start log.past moment

-- a sound journal stays sound when the power fails, unless it is off: directly after an effect, and in recovery
abbrev pub CutsFollow : Type 0
CutsFollow =
    (c : Config) (at_start : Power) (log : Log) → IsSound c at_start log → (IsAfterCut at_start log.past → ⊥) → IsSound c at_start (with_mark log Cut)

-- when it comes on after a cut
abbrev pub OnsFollow : Type 0
OnsFollow = (c : Config) (at_start : Power) (log : Log) → IsSound c at_start log → IsAfterCut at_start log.past → IsSound c at_start (with_mark log On)

-- and when recovery ends directly after an act of worker 0
abbrev pub ReadysFollow : Type 0
ReadysFollow = (c : Config) (at_start : Power) (log : Log) → IsSound c at_start log → IsAfterRecovering log.past → IsSound c at_start (with_mark log Ready)
