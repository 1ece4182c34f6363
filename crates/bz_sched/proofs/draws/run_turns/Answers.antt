use Rattle.std.proofs.Common.{sym, ap, ◌∙◌}
use Rattle.bz_layout.specs.Addresses.{words_of}
use Rattle.bz_sched.specs.Fuses.{with_fuse}
use Rattle.bz_sched.specs.Runs.{point_of}
use Rattle.bz_sched.proofs.DrawLemmas.{drawing_more, drawing_done, drawing_stops, some_busy, none_busy}
use Rattle.bz_sched.proofs.draws.run_turns.Goals as goal

pub loop-busy-preserved : goal.loop-busy-preserved
loop-busy-preserved c =
    let some = some_busy (point_of c.loop-busy.world c.loop-busy.queue) c.loop-busy.busy.items c.loop-busy.invariant.listed (sym c.is_empty.ensures ∙ c.loop-busy-test.true) in
    record {
      drawing = rw c.in-Finished.ensures.state (drawing_more (words_of c.args.world.now.config) c.args.seed c.loop-busy.state c.args.world.now (with_fuse c.args.queue.now c.args.fuse.now) c.loop-busy.world (with_fuse c.loop-busy.queue c.loop-busy.fuse)
          c.run_round.new.world (with_fuse c.run_round.new.queue c.run_round.new.fuse) (ap words_of (sym c.loop-busy.invariant.drawing.keeps.config)) c.loop-busy.invariant.drawing some c.in-Finished.ensures.ends);
      listed = c.in-Finished.ensures.busy;
    }

pub returns-in-Stopped : goal.returns-in-Stopped
returns-in-Stopped c =
    let some = some_busy (point_of c.loop-busy.world c.loop-busy.queue) c.loop-busy.busy.items c.loop-busy.invariant.listed (sym c.is_empty.ensures ∙ c.loop-busy-test.true) in
    drawing_stops (words_of c.args.world.now.config) c.args.seed c.loop-busy.state c.args.world.now (with_fuse c.args.queue.now c.args.fuse.now) c.loop-busy.world (with_fuse c.loop-busy.queue c.loop-busy.fuse) c.in-Stopped.why
    c.run_round.new.world (with_fuse c.run_round.new.queue c.run_round.new.fuse) c.loop-busy.invariant.drawing some c.in-Stopped.ensures.ends

pub returns : goal.returns
returns c =
    drawing_done _ c.args.seed c.loop-busy.state c.args.world.now (with_fuse c.args.queue.now c.args.fuse.now) c.loop-busy.world (with_fuse c.loop-busy.queue c.loop-busy.fuse) c.loop-busy.invariant.drawing
    (none_busy (point_of c.loop-busy.world c.loop-busy.queue) c.loop-busy.busy.items c.loop-busy.invariant.listed (sym c.is_empty.ensures ∙ c.loop-busy-test.false))
