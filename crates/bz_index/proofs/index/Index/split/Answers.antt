use Rattle.std.proofs.Common.{ℕ, ◌≢◌, subst, ◌∙◌}
use Rattle.std.specs.Prelude.{◌↔◌}
use Rattle.bz_index.proofs.Placed.{lent, newcomer}
use Rattle.bz_index.proofs.index.Index.split.Goals as goal
use Rattle.bz_index.specs.Passes.{IsFree}
use Rattle.bz_index.specs.declared.index.IndexPass.{IndexPass}

pub split-pass-requires-clause-pass : goal.split-pass-requires-clause-pass
split-pass-requires-clause-pass c = (c.requires.pass.0.placed.pass, c.requires.pass.1)

pub returns-clause-pass : goal.returns-clause-pass
returns-clause-pass c =
    let made = c.split-pass.ensures.pass in
    let now : IndexPass = record { pass = c.split-pass.new.pass } in
    let free = subst (λ (n : ℕ). (w : ℕ) → IsFree now w ↔ (IsFree c.args.pass.now w × (w ≢ n))) c.from.ensures c.split-pass.ensures.free in
    (lent _ c.args.pass.now now c.args.worker c.requires.pass.0 c.requires.pass.1 made.0 made.1 made.2 c.requires.worker.1 free, made.1, made.2)

pub returns-clause-new : goal.returns-clause-new
returns-clause-new c =
    let made = c.split-pass.ensures.new in
    let w = c.requires.worker in
    let is = made.1 ∙ c.from.ensures in
    (newcomer _ c.args.pass.now (record { pass = c.split-pass.result }) c.args.worker c.requires.pass.0 c.requires.pass.1 made.0 is made.2 w.0 w.1 w.2, is, made.2)
