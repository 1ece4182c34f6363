use Rattle.std.proofs.Common.{◌<◌, ℕ, sym, subst}
use Rattle.bz_bus.proofs.Entries.{extends_trans}
use Rattle.bz_index.specs.Passes.{worker_of, seen_by}
use Rattle.bz_threads.proofs.Making.{making_none, making_more, making_stops}
use Rattle.bz_threads.proofs.batch.make_all.Goals as goal

pub loop-call-init : goal.loop-call-init
loop-call-init g c = making_none c.args.index.now c.args.calls.now c.args.pass.now c.requires.0

pub make-requires : goal.make-requires
make-requires g c = (c.loop-call.invariant.pass, subst (λ (w : ℕ). 0 < w) (sym c.loop-call.invariant.worker) c.requires.1)

pub loop-call-preserved : goal.loop-call-preserved
loop-call-preserved g c =
    let e = c.in-None.ensures in
    making_more c.args.index.now (worker_of c.args.pass.now) c.args.calls.now c.loop-call.call-index (seen_by c.args.pass.now) c.loop-call.pass c.make.new.pass c.loop-call.invariant c.call-item.result c.loop-call-test.true c.call-item.is e.pass.0 e.pass.1 e.extends e.made

pub returns-in-Some-clause-extends : goal.returns-in-Some-clause-extends
returns-in-Some-clause-extends g c = extends_trans (seen_by c.args.pass.now) (seen_by c.loop-call.pass) (seen_by c.make.new.pass) c.loop-call.invariant.extends c.in-Some.ensures.extends

pub returns-in-Some-clause-made : goal.returns-in-Some-clause-made
returns-in-Some-clause-made g c =
    making_stops c.args.index.now (worker_of c.args.pass.now) c.args.calls.now c.loop-call.call-index (seen_by c.args.pass.now) c.loop-call.pass c.make.new.pass c.loop-call.invariant c.call-item.result c.in-Some.answer c.loop-call-test.true c.call-item.is c.in-Some.ensures.made
