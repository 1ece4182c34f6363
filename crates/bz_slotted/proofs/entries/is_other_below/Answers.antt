use Rattle.std.proofs.Common.{sym, ◌∙◌}
use Rattle.bz_slotted.specs.Page.{page}
use Rattle.bz_slotted.specs.ReadingLaws.{node_of}
use Rattle.bz_slotted.specs.Rules.{distinct_test}
use Rattle.bz_slotted.proofs.Loops.{every-none, every-more, every-fails}
use Rattle.bz_slotted.proofs.entries.is_other_below.Goals as goal

pub loop-i-init : goal.loop-i-init
loop-i-init c = every-none (λ i. distinct_test (page (node_of c.args.words.now)) i c.args.j)

pub returns-then-not-differ : goal.returns-then-not-differ
returns-then-not-differ c = sym (every-fails (λ i. distinct_test (page (node_of c.args.words.now)) i c.args.j) c.args.j c.loop-i.i c.loop-i-test.true (sym c.differ.ensures ∙ c.if-not-differ.true))

pub loop-i-preserved : goal.loop-i-preserved
loop-i-preserved c = every-more (λ i. distinct_test (page (node_of c.args.words.now)) i c.args.j) c.loop-i.i c.loop-i.invariant (sym c.differ.ensures ∙ c.if-not-differ.false)
