-- What this crate proves, as lemmas that other crates cite by these names.
use Rattle.bz_costs.proofs.Affordable.{affordable, whole-affordable}
use Rattle.bz_costs.proofs.Asked.{asked-counted}
use Rattle.bz_costs.proofs.Examples.{costs-are-told, weights-are-told}
use Rattle.bz_costs.proofs.Heard.{hearing-paid}
use Rattle.bz_costs.proofs.Least.{weigh-little}
use Rattle.bz_costs.proofs.Lost.{lost-little}
use Rattle.bz_costs.proofs.Most.{the-most}
use Rattle.bz_costs.proofs.Splits.{splits-paid}
use Rattle.bz_costs.proofs.Stages.{cost-more, rounds-paid}
use Rattle.bz_costs.specs.Costs.{HigherStagesCostMore, SoloCallsAreAffordable, RoundsArePaid, StretchesAreTheMost, WholeCallsAreAffordable}
use Rattle.bz_costs.specs.Examples.{CostsAreTold, WeightsAreTold}
use Rattle.bz_costs.specs.Laws.{AskedSwapsAreCounted, HearingIsPaid, LostSplitsCostLittle, TasksWeighLittle}
use Rattle.bz_costs.specs.Resources.{Resource}
use Rattle.bz_costs.specs.Splits.{SplitsArePaid}

-- a swap that a task asks for is one of those that were still to be asked for
pub asked_swaps_are_counted : AskedSwapsAreCounted
asked_swaps_are_counted = asked-counted

-- what a task is told lowers its weight by the slots that are gone then, and by what the start of its next act takes
pub hearing_is_paid : (r : Resource) → HearingIsPaid r
hearing_is_paid = hearing-paid

-- no task weighs more than at its begin
pub tasks_weigh_little : (r : Resource) → TasksWeighLittle r
tasks_weigh_little = weigh-little

-- a split that ends for want of room has cost little
pub lost_splits_cost_little : (r : Resource) → LostSplitsCostLittle r
lost_splits_cost_little = lost-little

-- a stage costs no less than a lower one
pub higher_stages_cost_more : (r : Resource) → HigherStagesCostMore r
higher_stages_cost_more = cost-more

-- what a round does that does not end the call, and all that comes after it, is paid for by the stage
pub rounds_are_paid : (r : Resource) → RoundsArePaid r
rounds_are_paid = rounds-paid

-- while splits go up from a leaf, each is paid for that follows another which found no room
pub splits_are_paid : (r : Resource) → SplitsArePaid r
splits_are_paid = splits-paid

-- no stage costs more than a stretch, and no task more than the rest of a round
pub stretches_are_the_most : (r : Resource) → StretchesAreTheMost r
stretches_are_the_most = the-most

-- a call that steps alone costs no more marks than its configuration tells
pub solo_calls_are_affordable : SoloCallsAreAffordable
solo_calls_are_affordable = affordable

-- nor does a call that begins while no other is open take more than is promised for each
pub whole_calls_are_affordable : (r : Resource) → WholeCallsAreAffordable r
whole_calls_are_affordable = whole-affordable

-- the weights of the tasks in numbers
pub weights_are_told : WeightsAreTold
weights_are_told = weights-are-told

-- the costs of stretches and of calls in numbers
pub costs_are_told : CostsAreTold
costs_are_told = costs-are-told
