-- The laws of weights: what a task is told lowers its weight by what its next act takes, and no task weighs more than at its begin.
use Rattle.std.specs.Prelude.{◌≡◌, ℕ, ◌+◌, ◌≤◌, Some}
use Rattle.bz_any_task.specs.FromAscent.Ascent.{Ascent}
use Rattle.bz_below.specs.Duties.{end_below}
use Rattle.bz_below.specs.declared.split_below.SplitBelow.{SplitBelow}
use Rattle.bz_any_task.specs.FromFork.Duties.{end_fork}
use Rattle.bz_any_task.specs.FromFork.SplitInner.{SplitInner}
use Rattle.bz_layout.specs.Slots.{FreeSlots}
use Rattle.bz_task.specs.Requests.{swaps_in}
use Rattle.bz_task.specs.declared.todo.Outcome.TheVariants.{NeedsRoom}
use Rattle.bz_task.specs.declared.todo.Seen.{Seen}
use Rattle.bz_task.specs.declared.todo.Todo.{Todo}
use Rattle.bz_any_task.specs.Duties.{asks_of, swaps_of}
use Rattle.bz_any_task.specs.Hearing.{HasHeard}
use Rattle.bz_any_task.specs.declared.running.AnyTask.{AnyTask}
use Rattle.bz_any_task.specs.declared.running.AnyTask.TheVariants.{SplittingBelow, SplittingInner}
use Rattle.bz_costs.specs.Resources.{Resource}
use Rattle.bz_costs.specs.Failing.{cost_of_lost_below, cost_of_lost_inner}
use Rattle.bz_costs.specs.Most.{most_of, most_of_below, most_of_inner, IsWithinItsActs}
use Rattle.bz_costs.specs.Weights.{slots_gone, start_takes, weigh}

-- a swap that is asked for is one of those that were still to be asked for
abbrev pub AskedSwapsAreCounted : Type 0
AskedSwapsAreCounted = (t : AnyTask) → swaps_in (asks_of t) ≤ swaps_of t

-- what a task is told lowers its weight by the slots that are gone then, and by what the start of its next act takes
abbrev pub HearingIsPaid : Resource → Type 0
HearingIsPaid r = (old new : AnyTask) (seen : Seen) (moment : ℕ) (free left : FreeSlots) (todo : Todo) → HasHeard old seen moment free todo new left → weigh r new + (slots_gone r free left + start_takes r todo) ≤ weigh r old

-- no task weighs more than at its begin
abbrev pub TasksWeighLittle : Resource → Type 0
TasksWeighLittle r = (t : AnyTask) → IsWithinItsActs t → weigh r t ≤ most_of r t

-- a split that has ended for want of room has its whole weight left but for little: so its end is cheap
pub record LostSplitsCostLittle (r : Resource) : Type 0 where
  pub below : (t : SplitBelow) (a : Ascent) → end_below t ≡ Some NeedsRoom → most_of_below r ≤ weigh r (SplittingBelow t a) + cost_of_lost_below r
  pub inner : (t : SplitInner) (a : Ascent) → end_fork t ≡ Some NeedsRoom → most_of_inner r ≤ weigh r (SplittingInner t a) + cost_of_lost_inner r
