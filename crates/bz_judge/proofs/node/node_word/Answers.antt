use Rattle.std.proofs.Common.{◌+◌, sym, ap, ◌∙◌, subst}
use Rattle.std.specs.Prelude.{slice_index}
use Rattle.bz_content.specs.Resolving.{resolve}
use Rattle.bz_judge.specs.Inside.Kinds.{CanBeResolved}
use Rattle.bz_judge.proofs.NodeWords.{node-inside}
use Rattle.bz_judge.proofs.Scanned.{node-readable}
use Rattle.bz_judge.proofs.node.node_word.Goals as goal

pub resolve-requires : goal.resolve-requires
resolve-requires c =
    subst (λ a. CanBeResolved (slice_index c.args.image.now) (a + c.args.i)) (sym c.node_at.ensures)
    (node-readable c.args.config.now c.args.image.now c.args.slot c.args.i c.requires.scanned c.requires.slot c.requires.place)

pub returns : goal.returns
returns c =
    c.resolve.ensures
    ∙ (ap (λ a. resolve (slice_index c.args.image.now) (a + c.args.i)) c.node_at.ensures ∙ sym (node-inside c.args.config.now (resolve (slice_index c.args.image.now)) c.args.slot c.args.i c.requires.place))
