use Rattle.std.proofs.Common.{ap, ◌∙◌, Option}
use Rattle.std.specs.Vec.{with_item}
use Rattle.bz_world.specs.Inside.Going.{merges_in, with_unmerged}
use Rattle.bz_world.specs.declared.serving.OpenCall.{OpenCall}
use Rattle.bz_world.proofs.TakingOn.{slot-is, said-may, went-anew}
use Rattle.bz_world.proofs.settle.look_up_unmerged.Goals as goal

pub look_up-requires : goal.look_up-requires
look_up-requires c = said-may c.args.parts.now c.args.w c.requires c.is_merging-alone.result (c.is_merging-alone.ensures ∙ ap merges_in (slot-is c.args.parts.now c.args.w c.requires.on c.index.result.now c.index.ensures)) c.set_unmerged.new.slot
    (c.set_unmerged.ensures ∙ ap (λ (z : Option OpenCall). with_unmerged z c.is_merging-alone.result) (slot-is c.args.parts.now c.args.w c.requires.on c.index_mut.result.now c.index_mut.ensures.value))

pub returns : goal.returns
returns c = went-anew c.args.parts.now (with_item c.args.parts.now.workers c.args.w c.set_unmerged.new.slot) c.args.parts.now.page c.args.w c.look_up.result c.look_up.new.parts c.look_up.ensures.went
