use Rattle.std.proofs.Common.{sym, ap, ◌∙◌}
use Rattle.bz_world.specs.Inside.Going.{path_in}
use Rattle.bz_world.proofs.TakingOn.{slot-is, some-path}
use Rattle.bz_world.proofs.restructuring.restructure.Goals as goal

pub make_anew-requires-clause-anew : goal.make_anew-requires-clause-anew
make_anew-requires-clause-anew c = record { answer = c.requires.lacks.answer; way = c.requires.lacks.answer.leads c.found_path-path.result (ap path_in (sym (slot-is c.args.parts.now c.args.w c.requires.lacks.answer.on c.index.result.now c.index.ensures)) ∙ c.found_path-path.ensures); lacks = c.requires.lacks.lacks; spares = c.requires.lacks.spares }

pub found_path-path-requires : goal.found_path-path-requires
found_path-path-requires c = some-path c.args.parts.now c.args.w c.requires.lacks.answer.on c.index.result.now c.index.ensures c.requires.lacks.answer.some
