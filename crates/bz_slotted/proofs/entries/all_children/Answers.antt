use Rattle.std.proofs.Common.{arith, sym, ◌∙◌}
use Rattle.bz_slotted.specs.Page.{page}
use Rattle.bz_slotted.specs.ReadingLaws.{node_of}
use Rattle.bz_slotted.specs.Rules.{child_test}
use Rattle.bz_slotted.proofs.Loops.{every-none, every-more, every-fails}
use Rattle.bz_slotted.proofs.entries.all_children.Goals as goal

pub loop-j-init : goal.loop-j-init
loop-j-init c = every-none (child_test c.args.nodes (page (node_of c.args.words.now)))

pub returns-then-not-is_child : goal.returns-then-not-is_child
returns-then-not-is_child c = sym (every-fails (child_test c.args.nodes (page (node_of c.args.words.now))) (page (node_of c.args.words.now)).count c.loop-j.j (omega (arith, c.loop-j-test.true, c.count_of-count.ensures)) (sym c.is_child.ensures ∙ c.if-not-is_child.true))

pub loop-j-preserved : goal.loop-j-preserved
loop-j-preserved c = every-more (child_test c.args.nodes (page (node_of c.args.words.now))) c.loop-j.j c.loop-j.invariant (sym c.is_child.ensures ∙ c.if-not-is_child.false)
