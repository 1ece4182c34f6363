use Rattle.std.proofs.Common.{false, ap, ◌∙◌, Option}
use Rattle.std.specs.Vec.{with_item}
use Rattle.bz_world.specs.Inside.Going.{with_froze}
use Rattle.bz_world.specs.declared.serving.OpenCall.{OpenCall}
use Rattle.bz_world.proofs.TakingOn.{slot-is, thawed-read, went-anew}
use Rattle.bz_world.proofs.lookups.read_frozen.Goals as goal

pub read_leaf-requires-clause-path : goal.read_leaf-requires-clause-path
read_leaf-requires-clause-path c = thawed-read c.args.parts.now c.args.w c.args.path c.requires.path c.set_froze.new.slot
    (c.set_froze.ensures ∙ ap (λ (z : Option OpenCall). with_froze z false) (slot-is c.args.parts.now c.args.w c.requires.path.on c.index_mut.result.now c.index_mut.ensures.value))

pub returns : goal.returns
returns c = went-anew c.args.parts.now (with_item c.args.parts.now.workers c.args.w c.set_froze.new.slot) c.args.parts.now.page c.args.w c.read_leaf.result c.read_leaf.new.parts c.read_leaf.ensures
