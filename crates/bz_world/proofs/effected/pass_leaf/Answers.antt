use Rattle.std.proofs.Common.{ap, ◌∙◌, Option, refl}
use Rattle.std.specs.Vec.{with_item}
use Rattle.bz_solo.specs.declared.rest.Rest.TheVariants as rest
use Rattle.bz_world.specs.Inside.Going.{with_rest}
use Rattle.bz_world.specs.Inside.Paid.{passing}
use Rattle.bz_world.specs.declared.serving.OpenCall.{OpenCall}
use Rattle.bz_world.proofs.TakingOn.{slot-is, rest-may, went-anew}
use Rattle.bz_world.proofs.effected.pass_leaf.Goals as goal

pub look_up-requires : goal.look_up-requires
look_up-requires c = rest-may c.args.parts.now c.args.w passing c.requires rest.Inner refl (λ e k. refl) c.set_rest.new.slot
    (c.set_rest.ensures ∙ ap (λ (z : Option OpenCall). with_rest z rest.Inner) (slot-is c.args.parts.now c.args.w c.requires.looks.on c.index_mut.result.now c.index_mut.ensures.value))

pub returns : goal.returns
returns c = went-anew c.args.parts.now (with_item c.args.parts.now.workers c.args.w c.set_rest.new.slot) c.args.parts.now.page c.args.w c.look_up.result c.look_up.new.parts c.look_up.ensures.went
