use Rattle.std.proofs.Common.{ℕ, ◌∙◌}
use Rattle.bz_bus.proofs.Entries.{extends_trans}
use Rattle.bz_index.proofs.Turned.{under, unanswered}
use Rattle.bz_index.proofs.index.Index.finish.Goals as goal
use Rattle.bz_index.specs.Calls.{IsAnswer}
use Rattle.bz_index.specs.Inside.Running.{IsRunning}
use Rattle.bz_index.specs.Passes.{origin_in, worker_of, seen_by, IsAtRest}

pub returns-in-Some-step-clause-extends : goal.returns-in-Some-step-clause-extends
returns-in-Some-step-clause-extends g c = extends_trans (seen_by c.args.pass.now) (seen_by c.loop.pass) (seen_by c.step.new.pass) c.loop.invariant.2 c.step.ensures.extends

pub returns-in-Some-step-clause-answered : goal.returns-in-Some-step-clause-answered
returns-in-Some-step-clause-answered g c = λ call first run.
    let origin = origin_in c.args.self.now in
    let now = seen_by c.step.new.pass in
    under (λ (w : ℕ). IsRunning w call first (seen_by c.loop.pass)) (λ (w : ℕ). IsAnswer origin w call first now c.step.new.out c.in-Some-step.answer × IsAtRest origin now w) (worker_of c.loop.pass)
    (worker_of c.args.pass.now) c.loop.invariant.1 (c.in-Some-step.ensures.goes call first) (c.loop.invariant.3 call first run)

pub loop-preserved : goal.loop-preserved
loop-preserved g c =
    let was = c.loop.invariant in
    let e = c.step.ensures in
    let seen = seen_by c.loop.pass in
    let now = seen_by c.step.new.pass in
    let v = worker_of c.loop.pass in (
      e.placed.0,
      e.placed.1 ∙ was.1,
      extends_trans (seen_by c.args.pass.now) seen now was.2 e.extends,
      λ call first run.
          under (λ (w : ℕ). IsRunning w call first seen) (λ (w : ℕ). IsRunning w call first now) v (worker_of c.args.pass.now) was.1
          (λ runs. unanswered (origin_in c.args.self.now) v call first now c.step.new.out c.step.result c.in_default.not-Some (e.goes call first runs)) (was.3 call first run),
    )
