-- What this crate proves, as lemmas that other crates cite by these names.
use Rattle.bz_swap_machine.proofs.ActsSpend.{acts_spend as acts_spend-holds}
use Rattle.bz_swap_machine.proofs.Alone.{worked_solo_swap as worked_solo_swap-holds}
use Rattle.bz_swap_machine.proofs.AskRuns.{asks_are_kept as asks_are_kept-holds}
use Rattle.bz_swap_machine.proofs.Asleep.{sleeper_is_harmless as sleeper_is_harmless-holds}
use Rattle.bz_swap_machine.proofs.Bounded.{bounded-happens, bounded-power_on}
use Rattle.bz_swap_machine.proofs.BudgetBounds.{budgets_are_allowed as budgets_are_allowed-holds}
use Rattle.bz_swap_machine.proofs.BudgetStarts.{evictions_keep_budgets as evictions_keep_budgets-holds, starts_add_allowed as starts_add_allowed-holds, starts_add_by_kind as starts_add_by_kind-holds}
use Rattle.bz_swap_machine.proofs.DirtyHome.{dirty_stay_home as dirty_stay_home-holds}
use Rattle.bz_swap_machine.proofs.EndsStay.{ends_stay_whole as ends_stay_whole-holds}
use Rattle.bz_swap_machine.proofs.EventLaws.{acts_atomically as acts_atomically-holds, begins_as_state as begins_as_state-holds, begins_in_range as begins_in_range-holds, cut_recovers as cut_recovers-holds, keeps_range as keeps_range-holds, keeps_state as keeps_state-holds}
use Rattle.bz_swap_machine.proofs.FrontsStay.{all_stay_rising as all_stay_rising-holds, fronts_stay as fronts_stay-holds}
use Rattle.bz_swap_machine.proofs.SoloRuns.{solo_steps_are_allowed as undisturbed_steps_are_allowed-holds, solo_steps_are_allowed_by_kind as undisturbed_steps_are_allowed_by_kind-holds}
use Rattle.bz_swap_machine.proofs.OwnersStay.{owners_stay as owners_stay-holds}
use Rattle.bz_swap_machine.proofs.PowerOn.{atomic as atomic-holds, cuts_keep as cuts_keep-holds, effects_last as effects_last-holds, failures_last as failures_last-holds, plain_is_held as plain_is_held-holds}
use Rattle.bz_swap_machine.proofs.RangeEvents.{stay_in_range as stay_in_range-holds}
use Rattle.bz_swap_machine.proofs.SwapStarts.{swaps_add_allowed as swaps_add_allowed-holds}
use Rattle.bz_swap_machine.proofs.Tables.{budgets_are_spent as budgets_are_spent-holds, places_count as places_count-holds}
use Rattle.bz_swap_machine.proofs.TagsHome.{tags_stay_home as tags_stay_home-holds}
use Rattle.bz_swap_machine.specs.AskExamples.{AsksAreKept}
use Rattle.bz_swap_machine.specs.BudgetTable.{BudgetsAreSpent, PlacesCount}
use Rattle.bz_swap_machine.specs.Budgets.{ActsSpend, BeginsBounded, BudgetsAreAllowed, EvictionsKeepBudgets, StartsAddAllowed, StartsAddByKind, StaysBounded, SwapsAddAllowed}
use Rattle.bz_swap_machine.specs.DirtyHomes.{DirtyStayHome}
use Rattle.bz_swap_machine.specs.Ends.{EndsStayWhole}
use Rattle.bz_swap_machine.specs.Examples.{WorkedSoloSwap}
use Rattle.bz_swap_machine.specs.Fronts.{AllStayRising, FrontsStay}
use Rattle.bz_swap_machine.specs.Invariance.{ActsAtomically, BeginsAsState, BeginsInRange, CutRecovers, KeepsRange, KeepsState}
use Rattle.bz_swap_machine.specs.Lawful.{StayInRange}
use Rattle.bz_swap_machine.specs.SoloRuns.{SoloStepsAreAllowed, SoloStepsAreAllowedByKind}
use Rattle.bz_swap_machine.specs.Owners.{OwnersStay}
use Rattle.bz_swap_machine.specs.Progress.{TagsStayHome}
use Rattle.bz_swap_machine.specs.Promise.{Atomic, CutsKeep, EffectsLast, FailuresLast, PlainIsHeld}
use Rattle.bz_swap_machine.specs.Sleeper.{SleeperIsHarmless}

-- whatever has happened since power on, each further event leaves what every address holds or is the effect of one whole swap, notes a miss only where a target differs, and answers rightly
pub atomic : Atomic
atomic = atomic-holds

-- an effect is for good, so no swap takes effect twice
pub effects_last : EffectsLast
effects_last = effects_last-holds

-- a swap that was answered with false never takes effect
pub failures_last : FailuresLast
failures_last = failures_last-holds

-- a plain word in the cache is what its address holds
pub plain_is_held : PlainIsHeld
plain_is_held = plain_is_held-holds

-- a power cut leaves what every address holds, and what is needed to resolve it
pub cuts_keep : CutsKeep
cuts_keep = cuts_keep-holds

-- a swap of one word alone, act by act
pub worked_solo_swap : WorkedSoloSwap
worked_solo_swap = worked_solo_swap-holds

-- worked asks and fences of one word
pub asks_are_kept : AsksAreKept
asks_are_kept = asks_are_kept-holds

-- at every moment each word outside the descriptors is one of a kind
pub stay_in_range : StayInRange
stay_in_range = stay_in_range-holds

-- a helper that sleeps while the swap succeeds and the value returns: nothing that it does counts twice
pub sleeper_is_harmless : SleeperIsHarmless
sleeper_is_harmless = sleeper_is_harmless-holds

-- the invariant holds at power on
pub begins_as_state : BeginsAsState
begins_as_state = begins_as_state-holds

-- the invariant holds after each event that may happen
pub keeps_state : KeepsState
keeps_state = keeps_state-holds

-- under the invariant, each event that may happen is atomic
pub acts_atomically : ActsAtomically
acts_atomically = acts_atomically-holds

-- at power on no number is out of range
pub begins_in_range : BeginsInRange
begins_in_range = begins_in_range-holds

-- no event takes a number out of range
pub keeps_range : KeepsRange
keeps_range = keeps_range-holds

-- under the invariant, a power cut leaves what every address holds, and what is needed to resolve it
pub cut_recovers : CutRecovers
cut_recovers = cut_recovers-holds

-- a tag that stands is one that its worker goes on with
pub tags_stay_home : TagsStayHome
tags_stay_home = tags_stay_home-holds

-- a word with a dirty value is one that a worker goes on to clean
pub dirty_stay_home : DirtyStayHome
dirty_stay_home = dirty_stay_home-holds

-- while a swap is undecided its pointers stand on its first entries, and a tag no further than on the next one
pub fronts_stay : FrontsStay
fronts_stay = fronts_stay-holds

-- the targets of all swaps rise, as those of each swap that begins do
pub all_stay_rising : AllStayRising
all_stay_rising = all_stay_rising-holds

-- the last phase of a swap leaves nothing of it behind
pub ends_stay_whole : EndsStayWhole
ends_stay_whole = ends_stay_whole-holds

-- a swap without an answer is the operation of the worker that began it
pub owners_stay : OwnersStay
owners_stay = owners_stay-holds

-- at power on all holds that makes a worker end which steps alone
pub begins_bounded : BeginsBounded
begins_bounded = bounded-power_on

-- and it holds after each event that may happen
pub stays_bounded : StaysBounded
stays_bounded = bounded-happens

-- the budget of a worker is at most what the workers that are not idle allow
pub budgets_are_allowed : BudgetsAreAllowed
budgets_are_allowed = budgets_are_allowed-holds

-- the start of a read, a store or a flush adds to a worker's budget what it allows
pub starts_add_allowed : StartsAddAllowed
starts_add_allowed = starts_add_allowed-holds

-- by the finer count, that of a read or a store adds one at most, and that of a flush two
pub starts_add_by_kind : StartsAddByKind
starts_add_by_kind = starts_add_by_kind-holds

-- no eviction changes a budget
pub evictions_keep_budgets : EvictionsKeepBudgets
evictions_keep_budgets = evictions_keep_budgets-holds

-- each act of a worker that is not idle spends one of its budget
pub acts_spend : ActsSpend
acts_spend = acts_spend-holds

-- the start of a swap adds to a worker's budget what it allows
pub swaps_add_allowed : SwapsAddAllowed
swaps_add_allowed = swaps_add_allowed-holds

-- a worker that steps alone takes no more steps than its starts allow, and the workers that are not idle at first
pub solo_steps_are_allowed : SoloStepsAreAllowed
solo_steps_are_allowed = undisturbed_steps_are_allowed-holds

-- by the finer count too, where a read, a load or a store allows one step
pub solo_steps_are_allowed_by_kind : SoloStepsAreAllowedByKind
solo_steps_are_allowed_by_kind = undisturbed_steps_are_allowed_by_kind-holds

-- what each place counts in a solo worker's budget, as a table
pub places_count : PlacesCount
places_count = places_count-holds

-- the budgets along a swap of one word alone, and along a read that meets a dirty value
pub budgets_are_spent : BudgetsAreSpent
budgets_are_spent = budgets_are_spent-holds
