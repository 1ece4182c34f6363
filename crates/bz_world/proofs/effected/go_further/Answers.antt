use Rattle.std.proofs.Common.{ap, ◌∙◌, Option, refl}
use Rattle.std.specs.Vec.{with_item}
use Rattle.bz_solo.specs.Errands.{further}
use Rattle.bz_world.specs.Inside.Going.{next_in, with_rest}
use Rattle.bz_world.specs.declared.serving.OpenCall.{OpenCall}
use Rattle.bz_world.proofs.TakingOn.{slot-is, rest-may, went-anew}
use Rattle.bz_world.proofs.effected.go_further.Goals as goal

pub look_up-requires : goal.look_up-requires
look_up-requires c = rest-may c.args.parts.now c.args.w further c.requires c.rest_after-rest.result (cc (c.rest_after-rest.ensures, ap next_in (slot-is c.args.parts.now c.args.w c.requires.looks.on c.index.result.now c.index.ensures))) (λ e k. refl) c.set_rest.new.slot
    (c.set_rest.ensures ∙ ap (λ (z : Option OpenCall). with_rest z c.rest_after-rest.result) (slot-is c.args.parts.now c.args.w c.requires.looks.on c.index_mut.result.now c.index_mut.ensures.value))

pub returns : goal.returns
returns c = went-anew c.args.parts.now (with_item c.args.parts.now.workers c.args.w c.set_rest.new.slot) c.args.parts.now.page c.args.w c.look_up.result c.look_up.new.parts c.look_up.ensures.went
