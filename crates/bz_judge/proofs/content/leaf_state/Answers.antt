use Rattle.std.proofs.Common.{sym, ◌∙◌}
use Rattle.std.specs.Prelude.{slice_index}
use Rattle.bz_judge.proofs.Told.{Tells, tells, same-image, same-state}
use Rattle.bz_judge.proofs.content.leaf_state.Goals as goal

pub state_of_leaf-requires : goal.state_of_leaf-requires
state_of_leaf-requires c =
    let t : Tells c.requires.config (slice_index c.args.image.now) = tells c.requires.config (slice_index c.args.image.now) c.requires.whole.none in
    same-image c.requires.config c.config_of.result c.args.image.now c.requires.whole c.config_of.ensures.config (sym t.nodes ∙ sym c.config_of.ensures.nodes) (sym t.swaps ∙ sym c.config_of.ensures.swaps)

pub returns : goal.returns
returns c config h =
    let t : Tells config (slice_index c.args.image.now) = tells config (slice_index c.args.image.now) h.none in
    same-state config c.config_of.result (slice_index c.args.image.now) c.args.key.now c.state_of_leaf.result (sym t.nodes ∙ sym c.config_of.ensures.nodes) (sym t.swaps ∙ sym c.config_of.ensures.swaps) c.state_of_leaf.ensures
