-- What comes of a world in which one worker steps alone.
use Rattle.std.specs.Prelude.{◌≡◌, ◌≢◌, ◌⊎◌, ◌≤◌, ℕ, zero, suc, ◌+◌, ◌*◌, true, List, ◌∷◌, length, None}
use Rattle.bz_call.specs.declared.replies.Reply.TheVariants.{Full}
use Rattle.bz_call.specs.declared.replies.Spent.{Spent}
use Rattle.bz_solo.specs.FromCosts.Solo.{begin_marks}
use Rattle.bz_layout.specs.declared.config.Config.{Config}
use Rattle.bz_layout.specs.declared.thresholds.TheConstants.{MARKS_PER_CALL}
use Rattle.bz_mark.specs.Log.{Log}
use Rattle.bz_mark.specs.declared.marks.Mark.{Mark}
use Rattle.bz_mark.specs.declared.marks.Mark.TheVariants.{End}
use Rattle.bz_sound.specs.Calls.{open_call}
use Rattle.bz_mark.specs.declared.power.Power.TheVariants as power
use Rattle.bz_world.specs.WorldView.{WorldView, Supply, power_in, is_short, begins_solitary, HadFew, IsApplied, KeepsSupply}
use Rattle.bz_world.specs.declared.answers.Applied.{Applied}
use Rattle.bz_world.specs.declared.answers.Applied.TheVariants as applied
use Rattle.bz_world.specs.declared.answers.Event.TheVariants as event

-- so many steps of a worker, one after the other, and after each its call goes on
abbrev pub StepsOn : ℕ → WorldView → ℕ → WorldView → Type 0
StepsOn zero old w new = new ≡ old
StepsOn (suc n) old w new = (mid : WorldView) × (StepsOn n old w mid × IsApplied mid (event.Step w) applied.Stepped new)

-- the worker has an open call, and the power is on
pub record MayStep (lab : WorldView) (w : ℕ) : Type 0 where
  pub on : power_in lab ≡ power.On
  pub within : w ≤ lab.config.workers
  pub is_open : open_call w lab.log.past ≢ None

-- its call has just begun, and no other is open
pub record HasBegunSolitary (lab : WorldView) (w : ℕ) : Type 0 where
  pub newest : begins_solitary lab.config w lab.log.past ≡ true
  pub supply : lab.at_begin ≡ lab.supply

-- where the newest mark is the end of the worker's call, and it is a Full, of what that names there were fewer at its begin than are promised for each
abbrev pub IsFullOfLittle : Config → ℕ → Log → Supply → Type 0
IsFullOfLittle config w log begun = (n at : ℕ) (spent : Spent) (before : List Mark) → log.past ≡ End w n (Full spent) at ∷ before → HadFew config begun spent

-- its call has ended, or fewer than three places are left in the journal; and so it is within a number of marks that the configuration tells, whatever the
-- others have come to
pub record EndsAlone (old : WorldView) (w : ℕ) (answer : Applied) (new : WorldView) : Type 0 where
  pub answered : ((n : ℕ) × (answer ≡ applied.Ended n)) ⊎ ((answer ≡ applied.Limit) × (is_short new.log ≡ true))
  pub marks : length new.log.past ≤ length old.log.past + MARKS_PER_CALL * (old.config.workers + 2)
  -- within fewer where its call has just begun, and no other was open
  pub whole : begins_solitary old.config w old.log.past ≡ true → length new.log.past + begin_marks ≤ length old.log.past + MARKS_PER_CALL
  -- then it takes no more descriptors and slots than are promised for each call, and is Full of them only where there were fewer
  pub supplied : HasBegunSolitary old w → KeepsSupply old.supply new.supply
  pub little : HasBegunSolitary old w → IsFullOfLittle old.config w new.log old.supply

-- the worker steps until the answer is another one
pub record RunsSolo (old : WorldView) (w : ℕ) (answer : Applied) (new : WorldView) : Type 0 where
  pub steps : ℕ
  pub last : WorldView
  pub stepped : StepsOn steps old w last
  pub answered : IsApplied last (event.Step w) answer new
  pub stops : answer ≢ applied.Stepped
  pub ends : MayStep old w → EndsAlone old w answer new
