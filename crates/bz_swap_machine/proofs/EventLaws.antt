-- The laws of a single event, as lemmas that the crates above cite.
use Rattle.bz_swap_machine.specs.Budgets.{BeginsBounded, StaysBounded, BudgetsAreAllowed, ActsSpend}
use Rattle.bz_swap_machine.specs.Invariance.{BeginsAsState, KeepsState, ActsAtomically, KeepsRange, BeginsInRange, CutRecovers}
use Rattle.bz_swap_machine.proofs.ActsSpend as spend
use Rattle.bz_swap_machine.proofs.Bounded.{bounded-happens, bounded-power_on}
use Rattle.bz_swap_machine.proofs.BudgetBounds as bounds
use Rattle.bz_swap_machine.proofs.Events.{state-happens}
use Rattle.bz_swap_machine.proofs.Runs.{atomic-happens}
use Rattle.bz_swap_machine.proofs.PowerOn.{state-power_on, recoverable-cut}
use Rattle.bz_swap_machine.proofs.RangeEvents.{range-happens, range-power_on}

pub begins_as_state : BeginsAsState
begins_as_state = state-power_on

pub keeps_state : KeepsState
keeps_state = state-happens

pub acts_atomically : ActsAtomically
acts_atomically = atomic-happens

pub keeps_range : KeepsRange
keeps_range = range-happens

pub begins_in_range : BeginsInRange
begins_in_range = range-power_on

pub cut_recovers : CutRecovers
cut_recovers x i = recoverable-cut x.entries x.memory i.sound

pub begins_bounded : BeginsBounded
begins_bounded = bounded-power_on

pub stays_bounded : StaysBounded
stays_bounded = bounded-happens

pub budgets_are_allowed : BudgetsAreAllowed
budgets_are_allowed = bounds.budgets_are_allowed

pub acts_spend : ActsSpend
acts_spend = spend.acts_spend
