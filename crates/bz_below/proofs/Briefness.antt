-- A split that ends for want of room has done few acts.
use Rattle.std.proofs.Common.{◌≡◌, ◌+◌, ◌≤◌, arith}
use Rattle.std.specs.Prelude.{Some}
use Rattle.bz_task.specs.declared.todo.Outcome.TheVariants.{NeedsRoom}
use Rattle.bz_below.specs.Duties.{WantOfRoomCostsLittle}
use Rattle.bz_below.specs.Facts.{below_acts, below_fails, below_end, below_left}
use Rattle.bz_below.specs.declared.phase.BelowPhase.{BelowPhase}
use Rattle.bz_below.specs.declared.phase.BelowPhase.TheVariants.{Fresh, Room, Word, Again, Guard, Store, Flush, Named, Swap, Done, Restart, NoRoom, NoSlot, NoSwap}

few-done : (p : BelowPhase) → below_end p ≡ Some NeedsRoom → below_acts ≤ below_left p + below_fails
few-done NoRoom e = omega arith
few-done Fresh e = absurd (cc)
few-done Room e = absurd (cc)
few-done (Word i) e = absurd (cc)
few-done Again e = absurd (cc)
few-done Guard e = absurd (cc)
few-done (Store j) e = absurd (cc)
few-done (Flush j) e = absurd (cc)
few-done Named e = absurd (cc)
few-done Swap e = absurd (cc)
few-done Done e = absurd (cc)
few-done Restart e = absurd (cc)
few-done NoSlot e = absurd (cc)
few-done NoSwap e = absurd (cc)

pub costs-little : WantOfRoomCostsLittle
costs-little t e = omega (arith, few-done t.phase e)
