use Rattle.std.proofs.Common.{ℕ, sym}
use Rattle.bz_sched.specs.Points.{is_busy}
use Rattle.bz_sched.specs.Runs.{point_of}
use Rattle.bz_sched.proofs.BusyLemmas.{listed_one, listed_skip}
use Rattle.bz_sched.proofs.draws.list_busy.Goals as goal
use Rattle.bz_sched.proofs.draws.list_busy.Goals.{then-has_work, else-has_work}

pub loop-w-preserved : goal.loop-w-preserved
loop-w-preserved c =
    let busy = λ (w : ℕ). is_busy w (point_of c.args.world.now c.args.queue.now) in
    elim c.if-has_work.branch [
      | then-has_work w ↦ rw w.busy-is (listed_one busy c.loop-w.w c.loop-w.busy.items w.push.new.self.items c.loop-w-test.true (sym w.if-has_work.ensures) w.push.ensures.items c.loop-w.invariant)
      | else-has_work w ↦ rw w.busy-is (listed_skip busy c.loop-w.w c.loop-w.busy.items c.loop-w-test.true (sym w.if-has_work.ensures) c.loop-w.invariant)
    ]
