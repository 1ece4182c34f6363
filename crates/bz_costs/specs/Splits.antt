-- What is still to come in a clean round while splits go up from a leaf: that of the leaf, which may find no room, and those of the nodes
-- above, one after the other.
use Rattle.std.specs.Prelude.{◌≡◌, ℕ, ◌+◌, ◌-◌, ◌*◌, ◌<◌, ◌≤◌, min, max, true, Some}
use Rattle.bz_any_task.specs.FromAscent.Ascent.{Ascent}
use Rattle.bz_below.specs.Duties.{end_below}
use Rattle.bz_below.specs.declared.split_below.SplitBelow.{SplitBelow}
use Rattle.bz_any_task.specs.FromFork.Duties.{end_fork}
use Rattle.bz_any_task.specs.FromFork.SplitInner.{SplitInner}
use Rattle.bz_task.specs.declared.todo.Outcome.TheVariants.{NeedsRoom}
use Rattle.bz_any_task.specs.declared.running.AnyTask.TheVariants.{SplittingBelow, SplittingInner}
use Rattle.bz_costs.specs.Resources.{Resource}
use Rattle.bz_costs.specs.Failing.{cost_of_lost_inner}
use Rattle.bz_costs.specs.Most.{most_of_below, most_of_inner, most_of_inner_root}
use Rattle.bz_costs.specs.Stretches.{cost_from, cost_viewed_at, top_stage}
use Rattle.bz_costs.specs.Weights.{weigh}

-- after the split of a leaf of this stage, while that may still find no room. Once it has found room, only the last round comes after it
abbrev pub cost_after_below : Resource → ℕ → ℕ
cost_after_below r stage = cost_viewed_at r true stage - most_of_below r

-- after the split of the node at a level above: as many more that find no room as the stage allows, and the rounds from the next lower stage on
abbrev pub cost_after_inner : Resource → ℕ → ℕ → ℕ
cost_after_inner r level stage = cost_of_lost_inner r * (min stage top_stage - 1 - level) + cost_from r (min stage top_stage - 1)

-- the dearer of the splits of inner nodes
abbrev pub most_of_higher : Resource → ℕ
most_of_higher r = max (most_of_inner r) (most_of_inner_root r)

-- each split that follows another is paid for, and what comes after its swap
pub record SplitsArePaid (r : Resource) : Type 0 where
  pub begun : (stage : ℕ) → most_of_below r + cost_after_below r (stage + 1) ≤ cost_viewed_at r true (stage + 1)
  pub room : (stage : ℕ) → cost_from r 0 ≤ cost_after_below r (stage + 1)
  pub first : (t : SplitBelow) (a : Ascent) (stage : ℕ) → end_below t ≡ Some NeedsRoom → most_of_higher r + cost_after_inner r 1 (stage + 2) ≤ weigh r (SplittingBelow t a) + cost_after_below r (stage + 2)
  pub next : (t : SplitInner) (a : Ascent) (level stage : ℕ) → end_fork t ≡ Some NeedsRoom → level + 1 < stage → level + 1 < top_stage
      → most_of_higher r + cost_after_inner r (level + 1) stage ≤ weigh r (SplittingInner t a) + cost_after_inner r level stage
  -- that of a root at the greatest level ends the call
  pub too_high : (level stage : ℕ) → most_of_inner_root r ≤ cost_after_inner r level stage
  pub done : (level stage after : ℕ) → after < stage → after < top_stage → cost_from r after ≤ cost_after_inner r level stage
