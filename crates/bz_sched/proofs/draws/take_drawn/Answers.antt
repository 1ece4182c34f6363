use Rattle.std.proofs.Common.{ℕ, sym, ◌∙◌, arith}
use Rattle.bz_sched.specs.Fuses.{with_fuse}
use Rattle.bz_sched.specs.Points.{is_busy}
use Rattle.bz_sched.specs.Runs.{point_of}
use Rattle.bz_sched.proofs.BusyLemmas.{drawn_passes}
use Rattle.bz_sched.proofs.OthersLemmas.{list_stays}
use Rattle.bz_sched.proofs.DrawLemmas.{drawn_turn, drawn_others}
use Rattle.bz_sched.proofs.draws.take_drawn.Goals as goal

pub take_turn-end-requires-clause-worker : goal.take_turn-end-requires-clause-worker
take_turn-end-requires-clause-worker c =
    let drawn = drawn_passes (λ (w : ℕ). is_busy w (point_of c.args.world.now c.args.queue.now)) c.args.busy.now.items c.as_slice.result.now c.args.draw c.len.result c.requires.busy c.requires.some c.as_slice.ensures.value c.len.ensures.value in
    record { some = omega (arith, drawn.from); most = omega (arith, drawn.below) }

pub take_turn-end-requires-clause-busy : goal.take_turn-end-requires-clause-busy
take_turn-end-requires-clause-busy c =
    (drawn_passes (λ (w : ℕ). is_busy w (point_of c.args.world.now c.args.queue.now)) c.args.busy.now.items c.as_slice.result.now c.args.draw c.len.result c.requires.busy c.requires.some c.as_slice.ensures.value c.len.ensures.value).passes

pub returns-then-not-has_work-clause-ends : goal.returns-then-not-has_work-clause-ends
returns-then-not-has_work-clause-ends c =
    drawn_turn c.args.world.now (with_fuse c.args.queue.now c.args.fuse.now) c.args.busy.now.items c.as_slice.result.now c.args.draw c.len.result c.take_turn-end.result c.take_turn-end.new.world (with_fuse c.take_turn-end.new.queue c.take_turn-end.new.fuse)
    c.requires.busy c.as_slice.ensures.value c.len.ensures.value c.take_turn-end.ensures.ends

pub returns-else-not-has_work-clause-ends : goal.returns-else-not-has_work-clause-ends
returns-else-not-has_work-clause-ends c =
    drawn_turn c.args.world.now (with_fuse c.args.queue.now c.args.fuse.now) c.args.busy.now.items c.as_slice.result.now c.args.draw c.len.result c.take_turn-end.result c.take_turn-end.new.world (with_fuse c.take_turn-end.new.queue c.take_turn-end.new.fuse)
    c.requires.busy c.as_slice.ensures.value c.len.ensures.value c.take_turn-end.ensures.ends

pub returns-else-not-has_work-clause-busy : goal.returns-else-not-has_work-clause-busy
returns-else-not-has_work-clause-busy c =
    let drawn = drawn_passes (λ (w : ℕ). is_busy w (point_of c.args.world.now c.args.queue.now)) c.args.busy.now.items c.as_slice.result.now c.args.draw c.len.result c.requires.busy c.requires.some c.as_slice.ensures.value c.len.ensures.value in
    c.requires.busy ∙ list_stays (point_of c.args.world.now c.args.queue.now) (point_of c.take_turn-end.new.world c.take_turn-end.new.queue) _ drawn.passes (sym c.has_work.ensures ∙ c.if-not-has_work.false)
    (drawn_others _ c.args.world.now (with_fuse c.args.queue.now c.args.fuse.now) c.take_turn-end.result c.take_turn-end.new.world (with_fuse c.take_turn-end.new.queue c.take_turn-end.new.fuse) c.take_turn-end.ensures.ends)
