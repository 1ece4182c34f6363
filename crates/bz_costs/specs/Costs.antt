-- The laws of stretches: each kind of round is paid for by the stage of its key, and a whole call by what is promised for it.
use Rattle.std.specs.Prelude.{ℕ, ◌+◌, ◌*◌, ◌<◌, ◌≤◌, min, Bool, true, false}
use Rattle.bz_layout.specs.Config.{IsConfig}
use Rattle.bz_layout.specs.declared.config.Config.{Config}
use Rattle.bz_layout.specs.declared.thresholds.TheConstants.{MARKS_PER_CALL}
use Rattle.bz_any_task.specs.declared.running.AnyTask.{AnyTask}
use Rattle.bz_costs.specs.Resources.{Resource}
use Rattle.bz_costs.specs.Failing.{cost_of_lost_inner}
use Rattle.bz_costs.specs.Solo.{own_marks, promised, rest_of_round, solo_most}
use Rattle.bz_costs.specs.Most.{most_of_freeze, most_of_copy, most_of_merge, most_of_root, most_of_below, IsWithinItsActs}
use Rattle.bz_costs.specs.Stretches.{cost_of_view, cost_of_split_at, cost_once_viewed, cost_once_found, cost_from, top_stage, cost_viewed_at, cost_found_at, cost_at, solo_stretch}
use Rattle.bz_costs.specs.Weights.{weigh}

-- a stage costs no less than a lower one
pub record HigherStagesCostMore (r : Resource) : Type 0 where
  pub viewed : (low high : ℕ) → low ≤ high → cost_once_viewed r low ≤ cost_once_viewed r high
  pub from : (low high : ℕ) → low ≤ high → cost_from r low ≤ cost_from r high
  -- and one round more for each, in which the leaf is copied
  pub round : (stage : ℕ) → cost_from r stage + (cost_of_view r + most_of_copy r) ≤ cost_from r (stage + 1)

-- what a round does that does not end the call, and all that comes after it, is paid for by the stage: of a leaf that is frozen first, and of
-- one that is frozen. After a copy, the split of a leaf or a merge the stage is 0; after the split of an inner node it is lower than it was,
-- and than the greatest that counts
pub record RoundsArePaid (r : Resource) : Type 0 where
  pub freeze : (stage : ℕ) → most_of_freeze r + cost_at r true stage ≤ cost_viewed_at r false (stage + 1)
  pub copy : (stage : ℕ) → most_of_copy r + cost_from r 0 ≤ cost_once_viewed r (stage + 1)
  pub root : (stage : ℕ) → most_of_root r + cost_from r 0 ≤ cost_once_viewed r (stage + 1)
  pub below : (stage : ℕ) → most_of_below r + cost_from r 0 ≤ cost_once_viewed r (stage + 1)
  pub merge : (stage : ℕ) → most_of_merge r + cost_of_view r + most_of_copy r + cost_from r 0 ≤ cost_once_viewed r (stage + 1)
  pub inner : (stage level after : ℕ) → 0 < level → level < stage → level < top_stage → after < stage → after < top_stage → cost_of_split_at r level + cost_from r after ≤ cost_once_viewed r (min stage top_stage)
  -- one level higher is paid for by one split more that finds no room
  pub higher : (level : ℕ) → 0 < level → cost_of_split_at r (level + 1) ≤ cost_of_split_at r level + cost_of_lost_inner r

-- no stage costs more than a stretch, and no task more than the rest of a round; where another worker's swap takes effect, what was still to
-- come pays for the rest of the round
pub record StretchesAreTheMost (r : Resource) : Type 0 where
  pub stage : (frozen : Bool) (stage : ℕ) → cost_at r frozen stage ≤ solo_stretch r
  pub task : (t : AnyTask) → IsWithinItsActs t → weigh r t ≤ rest_of_round r
  pub viewed : (frozen : Bool) (stage : ℕ) → cost_once_viewed r 0 ≤ cost_viewed_at r frozen stage
  pub found : (frozen : Bool) (stage : ℕ) → cost_once_found r 0 ≤ cost_found_at r frozen stage

-- a call that steps alone costs no more marks than the configuration tells
abbrev pub SoloCallsAreAffordable : Type 0
SoloCallsAreAffordable = (c : Config) → IsConfig c → solo_most c ≤ MARKS_PER_CALL * (c.workers + 2)

-- nor does one take more than is promised for each call that begins while no other is open, and whose worker steps alone
abbrev pub WholeCallsAreAffordable : Resource → Type 0
WholeCallsAreAffordable r = solo_stretch r + own_marks r ≤ promised r
