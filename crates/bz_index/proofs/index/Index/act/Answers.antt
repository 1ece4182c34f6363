use Rattle.std.proofs.Common.{ℕ, ◌<◌, ◌≤◌, sym, subst, arith}
use Rattle.bz_index.proofs.Going.{goes_on}
use Rattle.bz_index.proofs.Runs.{run_more}
use Rattle.bz_index.proofs.Turned.{placed_after, extends_after, stepped_leaves}
use Rattle.bz_index.proofs.index.Index.act.Goals as goal
use Rattle.bz_index.specs.Inside.Outcomes.{HasStepped}
use Rattle.bz_index.specs.Passes.{origin_in, worker_of, seen_by}
use Rattle.bz_index.specs.declared.index.IndexPass.{IndexPass}

pub turn-requires-clause-pass : goal.turn-requires-clause-pass
turn-requires-clause-pass g c = c.requires.placed.0.pass

pub turn-requires-clause-asks : goal.turn-requires-clause-asks
turn-requires-clause-asks g c = λ found may.
    let same = sym c.requires.worker in
    (subst (λ (w : ℕ). 0 < w) same c.requires.placed.1, subst (λ (w : ℕ). w ≤ (origin_in c.args.self.now).config.workers) same c.requires.placed.0.worker)

pub turn-requires-clause-leaves : goal.turn-requires-clause-leaves
turn-requires-clause-leaves g c = λ found left after may does.
    stepped_leaves (origin_in c.args.self.now) found left (worker_of c.args.pass.now) after.page.now after.answer c.requires.placed.1 c.requires.placed.0.worker
    (subst (λ (w : ℕ). HasStepped (origin_in c.args.self.now) found w left after.page.now after.answer) c.requires.worker does.1)

pub returns-clause-page : goal.returns-clause-page
returns-clause-page g c = let (found, may, does) = c.turn.ensures.turned in does.0

pub returns-clause-placed : goal.returns-clause-placed
returns-clause-placed g c =
    let e = c.turn.ensures in
    let (found, may, does) = e.turned in
    (placed_after _ c.args.pass.now (record { pass = c.turn.new.pass }) _ c.requires.placed.0 e.pass.0 e.pass.1 does.1.made.after, e.pass.1)

pub returns-clause-extends : goal.returns-clause-extends
returns-clause-extends g c =
    let now : IndexPass = record { pass = c.turn.new.pass } in
    let turn = c.turn.new.action in
    let origin = origin_in c.args.self.now in
    let (found, may, does) = c.turn.ensures.turned in
    extends_after _ _ _ found (seen_by now) may
    (stepped_leaves origin found (seen_by now) (worker_of c.args.pass.now) turn.page.now turn.answer c.requires.placed.1 c.requires.placed.0.worker
    (subst (λ (w : ℕ). HasStepped origin found w (seen_by now) turn.page.now turn.answer) c.requires.worker does.1))

pub returns-clause-goes : goal.returns-clause-goes
returns-clause-goes g c = λ call first run.
    let now : IndexPass = record { pass = c.turn.new.pass } in
    let turn = c.turn.new.action in
    let origin = origin_in c.args.self.now in
    let w = worker_of c.args.pass.now in
    let placed = c.requires.placed.0 in
    let (found, may, does) = c.turn.ensures.turned in
    goes_on origin w call first found (seen_by now) turn.page.now turn.answer c.requires.placed.1 placed.worker (omega (arith, placed.worker, placed.below))
    (subst (λ (v : ℕ). HasStepped origin found v (seen_by now) turn.page.now turn.answer) c.requires.worker does.1) (run_more w call first (seen_by c.args.pass.now) found (omega (arith, placed.worker, placed.below)) may.extends may.own run)
