use Rattle.std.proofs.Common.{ap, ◌∙◌, Option}
use Rattle.std.specs.Vec.{with_item}
use Rattle.bz_world.specs.Inside.Going.{freezes_in, with_froze}
use Rattle.bz_world.specs.declared.serving.OpenCall.{OpenCall}
use Rattle.bz_world.proofs.TakingOn.{slot-is, froze-may, went-anew}
use Rattle.bz_world.proofs.settle.look_up_frozen.Goals as goal

pub look_up-requires : goal.look_up-requires
look_up-requires c = froze-may c.args.parts.now c.args.w c.requires c.is_freezing-froze.result (c.is_freezing-froze.ensures ∙ ap freezes_in (slot-is c.args.parts.now c.args.w c.requires.on c.index.result.now c.index.ensures)) c.set_froze.new.slot
    (c.set_froze.ensures ∙ ap (λ (z : Option OpenCall). with_froze z c.is_freezing-froze.result) (slot-is c.args.parts.now c.args.w c.requires.on c.index_mut.result.now c.index_mut.ensures.value))

pub returns : goal.returns
returns c = went-anew c.args.parts.now (with_item c.args.parts.now.workers c.args.w c.set_froze.new.slot) c.args.parts.now.page c.args.w c.look_up.result c.look_up.new.parts c.look_up.ensures.went
