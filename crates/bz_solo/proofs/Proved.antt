-- What this crate proves, as lemmas that other crates cite by these names.
use Rattle.bz_costs.proofs.Proved.{asked_swaps_are_counted, hearing_is_paid, higher_stages_cost_more, lost_splits_cost_little, rounds_are_paid, splits_are_paid, stretches_are_the_most, tasks_weigh_little, whole_calls_are_affordable}
use Rattle.bz_costs.specs.Resources.{Marks, Resource}
use Rattle.bz_joined.proofs.FromAlone.Proved.{undisturbed_tasks_go_on}
use Rattle.bz_joined.proofs.FromRounds.Proved.{undisturbed_swaps_leave}
use Rattle.bz_joined.proofs.Proved.{undisturbed_freezes_freeze_the_leaf}
use Rattle.bz_rivals.proofs.Proved.{rivals_are_few}
use Rattle.bz_swap.proofs.Proved.{solo_steps_are_allowed}
use Rattle.bz_solo.proofs.Any.{any-paid, any-round-paid}
use Rattle.bz_solo.proofs.Begins.{rounds-begin, tasks-begin}
use Rattle.bz_solo.proofs.Climbing.{ascents-paid}
use Rattle.bz_solo.proofs.Ends.{ends-afforded, ends-paid}
use Rattle.bz_solo.proofs.First.{allow-nothing, first-paid}
use Rattle.bz_solo.proofs.Foreign.{foreign-paid}
use Rattle.bz_solo.proofs.Heard.{heard-paid}
use Rattle.bz_solo.proofs.Leaving.{disturbed-paid, ends-leave}
use Rattle.bz_solo.proofs.Own.{own-paid}
use Rattle.bz_solo.proofs.Quiet.{marks-paid, quiet-paid}
use Rattle.bz_solo.proofs.Reading.{leaves-read, read-leaves-paid}
use Rattle.bz_solo.proofs.Renewing.{renewals-paid}
use Rattle.bz_solo.proofs.Simple.{less-paid, starts-paid}
use Rattle.bz_solo.proofs.Sparing.{less-is-spared}
use Rattle.bz_solo.proofs.Ways.{changes-paid, ways-paid}
use Rattle.bz_solo.specs.Renewals.{AscentsArePaid, RenewalsArePaid}
use Rattle.bz_solo.specs.Rounds.{ChangesArePaid, DisturbedRoundsArePaid, EndsAreAfforded, EndsArePaid, EndsLeaveARound, LeavesAreRead, LessIsSpared, ReadLeavesArePaid, RoundsBegin, TasksMayBegin, WaysArePaid}
use Rattle.bz_solo.specs.Steps.{AnyCallIsPaid, AnyRoundIsPaid, EffectMarksArePaid, FirstRoundsArePaid, ForeignEffectsArePaid, HearingsArePaid, IdleMemoriesAllowNothing, LessIsPaid, OwnEffectsArePaid, QuietStepsArePaid, StartsArePaid}

-- whatever a call has come to, it ends within the marks that the configuration tells
pub any_call_is_paid : AnyCallIsPaid
any_call_is_paid = any-paid (record { few = rivals_are_few; allowed = solo_steps_are_allowed; little = tasks_weigh_little Marks })

-- so does one that is about to look its key up
pub any_round_is_paid : AnyRoundIsPaid
any_round_is_paid = any-round-paid (record { few = rivals_are_few; allowed = solo_steps_are_allowed; little = tasks_weigh_little Marks }) (record { higher = higher_stages_cost_more Marks; most = stretches_are_the_most Marks })

-- so does one that begins while nobody does anything, within what is promised for each call
pub first_rounds_are_paid : (r : Resource) → FirstRoundsArePaid r
first_rounds_are_paid = λ r. first-paid r (whole_calls_are_affordable r) (record { higher = higher_stages_cost_more r; most = stretches_are_the_most r })

-- then the swap memory allows nothing more
pub idle_memories_allow_nothing : IdleMemoriesAllowNothing
idle_memories_allow_nothing = allow-nothing

-- a step without an effect is paid for
pub quiet_steps_are_paid : (r : Resource) → QuietStepsArePaid r
quiet_steps_are_paid = λ r. quiet-paid r

-- so is one at which another worker's swap takes effect
pub foreign_effects_are_paid : (r : Resource) → ForeignEffectsArePaid r
foreign_effects_are_paid = λ r. foreign-paid r (record { most = stretches_are_the_most r; more = higher_stages_cost_more r })

-- so is the mark of an effect
pub effect_marks_are_paid : (r : Resource) → EffectMarksArePaid r
effect_marks_are_paid = λ r. marks-paid r

-- what pays for more pays for less
pub less_is_paid : (r : Resource) → LessIsPaid r
less_is_paid = λ r. less-paid r

-- a step at which the worker's own swap takes effect is paid for, and what comes after that
pub own_effects_are_paid : (r : Resource) → OwnEffectsArePaid r
own_effects_are_paid =
    λ r. own-paid r (record {
      prices = record { more = higher_stages_cost_more r; rounds = rounds_are_paid r; splits = splits_are_paid r };
      leave = undisturbed_swaps_leave;
      freezes = undisturbed_freezes_freeze_the_leaf;
      go = undisturbed_tasks_go_on;
      asked = asked_swaps_are_counted;
    })

-- what a task is told pays for the slots that are gone then, and for the start of its next act
pub hearings_are_paid : (r : Resource) → HearingsArePaid r
hearings_are_paid = λ r. heard-paid r (record { hearing = hearing_is_paid r; asked = asked_swaps_are_counted })

-- that start is paid for
pub starts_are_paid : (r : Resource) → StartsArePaid r
starts_are_paid = λ r. starts-paid r

-- what spares more spares less
pub less_is_spared : (r : Resource) → LessIsSpared r
less_is_spared = λ r. less-is-spared r

-- what a task has not started yet is there, what it may still take besides, and a mark for the end of its call
pub ends_are_afforded : (r : Resource) → EndsAreAfforded r
ends_are_afforded = λ r. ends-afforded r

-- the end of a look-up leaves what may come after it
pub ends_are_paid : (r : Resource) → EndsArePaid r
ends_are_paid = λ r. ends-paid r

-- a way that was found leaves what may come after it
pub ways_are_paid : (r : Resource) → WaysArePaid r
ways_are_paid = λ r. ways-paid r

-- a change is paid for once its key was looked up
pub changes_are_paid : (r : Resource) → ChangesArePaid r
changes_are_paid = λ r. changes-paid r

-- so is the reading of a leaf without room
pub leaves_are_read : (r : Resource) → LeavesAreRead r
leaves_are_read = λ r. leaves-read r

-- what comes after that is paid for
pub read_leaves_are_paid : (r : Resource) → ReadLeavesArePaid r
read_leaves_are_paid = λ r. read-leaves-paid r (record { higher = higher_stages_cost_more r; most = stretches_are_the_most r })

-- a task that is spared may begin
pub tasks_may_begin : (r : Resource) → TasksMayBegin r
tasks_may_begin = λ r. tasks-begin r (tasks_weigh_little r)

-- a round that is paid for may begin
pub rounds_begin : (r : Resource) → RoundsBegin r
rounds_begin = λ r. rounds-begin r

-- a round is paid for where the one before was disturbed
pub disturbed_rounds_are_paid : (r : Resource) → DisturbedRoundsArePaid r
disturbed_rounds_are_paid = λ r. disturbed-paid r (record { higher = higher_stages_cost_more r; most = stretches_are_the_most r })

-- and after the end of a task that left the leaf better than it was
pub ends_leave_a_round : (r : Resource) → EndsLeaveARound r
ends_leave_a_round = λ r. ends-leave r (record { higher = higher_stages_cost_more r; most = stretches_are_the_most r })

-- what is done to a leaf without room is paid for
pub renewals_are_paid : (r : Resource) → RenewalsArePaid r
renewals_are_paid = λ r. renewals-paid r (rounds_are_paid r)

-- so is what is done to the full nodes above it
pub ascents_are_paid : (r : Resource) → AscentsArePaid r
ascents_are_paid = λ r. ascents-paid r (record { rounds = rounds_are_paid r; splits = splits_are_paid r; lost = lost_splits_cost_little r })
