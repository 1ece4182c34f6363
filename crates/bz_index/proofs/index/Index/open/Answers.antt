use Rattle.std.proofs.Common.{◌+◌, arith, ap, ◌∙◌}
use Rattle.bz_index.proofs.Placed.{opened}
use Rattle.bz_index.proofs.index.Index.open.Goals as goal
use Rattle.bz_layout.specs.declared.config.Config.{Config}

pub open-requires : goal.open-requires
open-requires c = let most = c.config-passes.ensures.in_range.workers_in_range.at_most in (omega arith, omega arith)

pub returns-in-Ok-clause-pass : goal.returns-in-Ok-clause-pass
returns-in-Ok-clause-pass c =
    let e = c.in-Ok.ensures in
    let workers = ap (λ (k : Config). k.workers) c.config-passes.ensures.config in
    let most = c.config-passes.ensures.in_range.workers_in_range.at_most in (
      opened (record { bus = c.in-Ok.bus }) (record { pass = c.in-Ok.pass }) c.args.world e.pass.0 (e.bus.1 ∙ ap (λ (k : Config). k.workers + 1) c.config-passes.ensures.config) e.bus.0 (omega arith)
          e.pass.1 e.pass.2 c.shows_sound.ensures c.requires e.free,
      e.pass.1,
      e.pass.2,
    )
