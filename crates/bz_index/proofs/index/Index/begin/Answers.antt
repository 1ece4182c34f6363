use Rattle.std.proofs.Common.{ℕ, subst, arith}
use Rattle.bz_bus.specs.Entries.{MayLeave}
use Rattle.bz_index.proofs.Beginning.{begin_leaves}
use Rattle.bz_index.proofs.Turned.{placed_after, extends_after, begun_leaves}
use Rattle.bz_index.proofs.index.Index.begin.Goals as goal
use Rattle.bz_index.specs.Entries.{owner_of}
use Rattle.bz_index.specs.Passes.{origin_in, worker_of, seen_by}
use Rattle.bz_index.specs.Worlds.{HasBegun}
use Rattle.bz_index.specs.declared.index.IndexPass.{IndexPass}

pub turn-requires-clause-pass : goal.turn-requires-clause-pass
turn-requires-clause-pass g c = c.requires.0.placed.pass

pub turn-requires-clause-asks : goal.turn-requires-clause-asks
turn-requires-clause-asks g c = λ found may. tt

pub turn-requires-clause-leaves : goal.turn-requires-clause-leaves
turn-requires-clause-leaves g c = λ found left after may does.
    subst (λ (n : ℕ). MayLeave owner_of n found left) c.worker.ensures (begun_leaves (origin_in c.args.self.now) found left c.worker.result c.args.call after.answer (omega (arith, c.worker.ensures, c.requires.0.placed.worker, c.requires.0.placed.below)) does)

pub returns-clause-placed : goal.returns-clause-placed
returns-clause-placed g c =
    let e = c.turn.ensures in
    let (found, may, made) = e.turned in
    (placed_after _ c.args.pass.now (record { pass = c.turn.new.pass }) _ c.requires.0.placed e.pass.0 e.pass.1 made.after, e.pass.1)

pub returns-clause-extends : goal.returns-clause-extends
returns-clause-extends g c =
    let now : IndexPass = record { pass = c.turn.new.pass } in
    let (found, may, made) = c.turn.ensures.turned in
    extends_after _ _ _ found (seen_by now) may
    (subst (λ (n : ℕ). MayLeave owner_of n found (seen_by now)) c.worker.ensures (begun_leaves (origin_in c.args.self.now) found (seen_by now) c.worker.result c.args.call c.turn.new.action.answer (omega (arith, c.worker.ensures, c.requires.0.placed.worker, c.requires.0.placed.below)) made))

pub returns-clause-begun : goal.returns-clause-begun
returns-clause-begun g c =
    let now : IndexPass = record { pass = c.turn.new.pass } in
    let origin = origin_in c.args.self.now in
    let (found, may, made) = c.turn.ensures.turned in
    let was = c.requires.0 in
    begin_leaves origin (worker_of c.args.pass.now) (omega (arith, was.placed.worker, was.placed.below)) c.args.call (seen_by c.args.pass.now) found (seen_by now) c.turn.new.action.answer c.requires.1 was.placed.worker
    (subst (λ (w : ℕ). HasBegun origin found w c.args.call c.turn.new.action.answer (seen_by now)) c.worker.ensures made) may.extends may.own (was.rests c.requires.1)
