use Rattle.std.proofs.Common.{sym, ◌∙◌}
use Rattle.bz_slotted.specs.Page.{page}
use Rattle.bz_slotted.specs.ReadingLaws.{node_of}
use Rattle.bz_slotted.specs.Rules.{apart_test}
use Rattle.bz_slotted.proofs.Loops.{every-none, every-more, every-fails}
use Rattle.bz_slotted.proofs.entries.is_apart_below.Goals as goal

pub loop-i-init : goal.loop-i-init
loop-i-init c = every-none (λ i. apart_test (page (node_of c.args.words.now)) i c.args.j)

pub returns-then-not-are_apart : goal.returns-then-not-are_apart
returns-then-not-are_apart c = sym (every-fails (λ i. apart_test (page (node_of c.args.words.now)) i c.args.j) c.args.j c.loop-i.i c.loop-i-test.true (sym c.are_apart.ensures ∙ c.if-not-are_apart.true))

pub loop-i-preserved : goal.loop-i-preserved
loop-i-preserved c = every-more (λ i. apart_test (page (node_of c.args.words.now)) i c.args.j) c.loop-i.i c.loop-i.invariant (sym c.are_apart.ensures ∙ c.if-not-are_apart.false)
