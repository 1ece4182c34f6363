use Rattle.std.proofs.Common.{sym, ◌∙◌}
use Rattle.std.specs.Prelude.{slice_index}
use Rattle.std.proofs.lemmas.Result.{IfOk-weaker}
use Rattle.bz_judge.proofs.Told.{Tells, tells, same-image, same-held}
use Rattle.bz_judge.proofs.content.pairs.Goals as goal

pub gather-requires : goal.gather-requires
gather-requires c =
    let t : Tells c.requires.config (slice_index c.args.image.now) = tells c.requires.config (slice_index c.args.image.now) c.requires.whole.none in
    same-image c.requires.config c.config_of.result c.args.image.now c.requires.whole c.config_of.ensures.config (sym t.nodes ∙ sym c.config_of.ensures.nodes) (sym t.swaps ∙ sym c.config_of.ensures.swaps)

pub returns : goal.returns
returns c config h =
    let t : Tells config (slice_index c.args.image.now) = tells config (slice_index c.args.image.now) h.none in
    IfOk-weaker c.gather.result _ _
    (λ pairs is. is ∙ same-held config c.config_of.result (slice_index c.args.image.now) (sym t.nodes ∙ sym c.config_of.ensures.nodes) (sym t.swaps ∙ sym c.config_of.ensures.swaps))
    c.gather.ensures
