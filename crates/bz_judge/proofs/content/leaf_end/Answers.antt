use Rattle.std.proofs.Common.{sym, ◌∙◌}
use Rattle.std.specs.Prelude.{slice_index}
use Rattle.bz_judge.proofs.Told.{Tells, tells, same-image, same-end}
use Rattle.bz_judge.proofs.content.leaf_end.Goals as goal

pub end_of_leaf-requires : goal.end_of_leaf-requires
end_of_leaf-requires c =
    let t : Tells c.requires.config (slice_index c.args.image.now) = tells c.requires.config (slice_index c.args.image.now) c.requires.whole.none in
    same-image c.requires.config c.config_of.result c.args.image.now c.requires.whole c.config_of.ensures.config (sym t.nodes ∙ sym c.config_of.ensures.nodes) (sym t.swaps ∙ sym c.config_of.ensures.swaps)

pub returns : goal.returns
returns c config h =
    let t : Tells config (slice_index c.args.image.now) = tells config (slice_index c.args.image.now) h.none in
    c.end_of_leaf.ensures ∙ same-end config c.config_of.result (slice_index c.args.image.now) c.args.key.now (sym t.nodes ∙ sym c.config_of.ensures.nodes) (sym t.swaps ∙ sym c.config_of.ensures.swaps)
