-- What this crate proves, as lemmas that other crates cite by these names.
use Rattle.bz_swap_recovery.proofs.Acting.{acts-recover, evictions-leave}
use Rattle.bz_swap_recovery.proofs.Powering.{begins, cuts-leave, goes-on, may-start, values-stay}
use Rattle.bz_swap_recovery.proofs.Revivals.{revives}
use Rattle.bz_swap_recovery.proofs.Values.{images-hold}
use Rattle.bz_swap_recovery.specs.Laws.{ActsMayStart, ActsRecover, CutsLeaveTheValues, EvictionsLeaveSweeps, LawfulImagesHoldTheirValues, SweepsBegin, SweepsGoOn, SweepsRevive, ValuesStay}

-- an image of lawful words holds the values to which they resolve
pub lawful_images_hold_their_values : LawfulImagesHoldTheirValues
lawful_images_hold_their_values = images-hold

-- a power cut leaves every value of the memory, and what it leaves can be swept
pub cuts_leave_the_values : CutsLeaveTheValues
cuts_leave_the_values = cuts-leave

-- a new sweep knows what a power cut left
pub sweeps_begin : SweepsBegin
sweeps_begin = begins

-- from the power cut on every value is what it was then
pub values_stay : ValuesStay
values_stay = values-stay

-- a sweep that is told what came of its act asks for the next one
pub sweeps_go_on : SweepsGoOn
sweeps_go_on = goes-on

-- worker 0 may start what a sweep asks for
pub acts_may_start : ActsMayStart
acts_may_start = may-start

-- its acts are those that the sweep asks for, and give no swap its effect
pub acts_recover : ActsRecover
acts_recover = acts-recover

-- nor do evictions between them
pub evictions_leave_sweeps : EvictionsLeaveSweeps
evictions_leave_sweeps = evictions-leave

-- where a sweep asks for nothing more the memory may be renewed
pub sweeps_revive : SweepsRevive
sweeps_revive = revives
