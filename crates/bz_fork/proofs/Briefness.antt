-- A split that ends for want of room has done few acts.
use Rattle.std.proofs.Common.{◌≡◌, ◌+◌, ◌≤◌, arith}
use Rattle.std.specs.Prelude.{Some}
use Rattle.bz_task.specs.declared.todo.Outcome.TheVariants.{NeedsRoom}
use Rattle.bz_fork.specs.Duties.{WantOfRoomCostsLittle}
use Rattle.bz_fork.specs.Facts.{fork_acts, fork_fails, fork_end, fork_left}
use Rattle.bz_fork.specs.declared.phase.ForkPhase.{ForkPhase}
use Rattle.bz_fork.specs.declared.phase.ForkPhase.TheVariants.{NoRoom, Writing}
use Rattle.bz_writer.proofs.Sizes.{no-room}

few-done : (p : ForkPhase) → fork_end p ≡ Some NeedsRoom → fork_acts ≤ fork_left p + fork_fails
few-done NoRoom e = omega arith
few-done (Writing w) e = absurd (no-room w e)
few-done p e = absurd (cc)

pub costs-little : WantOfRoomCostsLittle
costs-little t e = few-done t.phase e
