use Rattle.std.proofs.Common.{ℕ}
use Rattle.bz_bus.proofs.Entries.{extends_trans}
use Rattle.bz_index.proofs.Turned.{under}
use Rattle.bz_index.proofs.index.Index.call.Goals as goal
use Rattle.bz_index.specs.Calls.{IsAnswer}
use Rattle.bz_index.specs.Inside.Running.{IsRunning}
use Rattle.bz_index.specs.Passes.{origin_in, worker_of, seen_by, IsAtRest}

pub returns-in-Begun-clause-answered : goal.returns-in-Begun-clause-answered
returns-in-Begun-clause-answered g c =
    let origin = origin_in c.args.self.now in
    let call = c.args.call in
    let first = seen_by c.args.pass.now in
    let found = seen_by c.begin.new.pass in
    let now = seen_by c.finish.new.pass in
    record {
      extends = extends_trans first found now c.begin.ensures.extends c.finish.ensures.extends;
      right = (under (λ (w : ℕ). IsRunning w call first found) (λ (w : ℕ). IsAnswer origin w call first now c.finish.new.out c.finish.result × IsAtRest origin now w) (worker_of c.begin.new.pass)
          (worker_of c.args.pass.now) c.begin.ensures.placed.1 (c.finish.ensures.answered call first) c.in-Begun.ensures.begun).0;
    }
