use Rattle.std.proofs.Common.{arith}
use Rattle.std.specs.Prelude.{slice_index}
use Rattle.bz_judge.proofs.Told.{Tells, tells, least-config}
use Rattle.bz_judge.proofs.content.config_of.Goals as goal

pub overflow_cast-result-2 : goal.overflow_cast-result-2
overflow_cast-result-2 c =
    let t : Tells c.requires.config (slice_index c.args.image.now) = tells c.requires.config (slice_index c.args.image.now) c.requires.whole.none in
    omega (arith, t.nodes, c.requires.whole.config.nodes_in_range.at_most)

pub overflow_cast-result-4 : goal.overflow_cast-result-4
overflow_cast-result-4 c =
    let t : Tells c.requires.config (slice_index c.args.image.now) = tells c.requires.config (slice_index c.args.image.now) c.requires.whole.none in
    omega (arith, t.swaps, c.requires.whole.config.swaps_in_range.at_most)

pub returns-clause-config : goal.returns-clause-config
returns-clause-config c =
    let t : Tells c.requires.config (slice_index c.args.image.now) = tells c.requires.config (slice_index c.args.image.now) c.requires.whole.none in
    least-config c.requires.config _ _ c.requires.whole.config t.nodes t.swaps
