use Rattle.std.proofs.Common.{sym, ◌∙◌}
use Rattle.std.specs.Prelude.{slice_index}
use Rattle.bz_judge.proofs.Judged.{scanned, of-super, of-word, shape-answer, told-answer}
use Rattle.bz_judge.proofs.judging.check.Goals as goal

pub returns-then-not-is_super-clause-fault : goal.returns-then-not-is_super-clause-fault
returns-then-not-is_super-clause-fault c = of-super c.args.config.now (slice_index c.args.image.now) (sym c.is_super.ensures ∙ c.if-not-is_super.true)

pub returns-in-Some-clause-fault : goal.returns-in-Some-clause-fault
returns-in-Some-clause-fault c = of-word c.args.config.now (slice_index c.args.image.now) c.in-Some.place (sym c.is_super.ensures ∙ c.if-not-is_super.false) (sym c.in-Some.ensures)

pub walk_tree-requires : goal.walk_tree-requires
walk_tree-requires c = scanned c.args.config.now c.args.image.now c.requires.config c.requires.whole (sym c.in_default.ensures)

pub returns-clause-shape : goal.returns-clause-shape
returns-clause-shape c = shape-answer c.args.config.now c.args.image.now c.walk_tree.result (sym c.is_super.ensures ∙ c.if-not-is_super.false) (sym c.in_default.ensures) c.walk_tree.ensures.shape

pub returns-clause-fault : goal.returns-clause-fault
returns-clause-fault c = told-answer c.args.config.now c.args.image.now c.walk_tree.result (sym c.is_super.ensures ∙ c.if-not-is_super.false) (sym c.in_default.ensures) c.walk_tree.ensures.told
