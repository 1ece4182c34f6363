use Rattle.std.proofs.Common.{arith, ap, sym, ◌∙◌}
use Rattle.bz_slotted.specs.Page.{page}
use Rattle.bz_slotted.specs.ReadingLaws.{node_of}
use Rattle.bz_slotted.specs.Rules.{order_test}
use Rattle.bz_slotted.specs.Tests.{every}
use Rattle.bz_word.specs.declared.header.Header.{Header}
use Rattle.bz_slotted.proofs.Loops.{every-none, every-more, every-fails}
use Rattle.bz_slotted.proofs.entries.all_rise.Goals as goal

pub loop-j-init : goal.loop-j-init
loop-j-init c = every-none (λ j. every j (λ i. order_test (page (node_of c.args.words.now)) i j))

pub returns-then-not-is_after_below : goal.returns-then-not-is_after_below
returns-then-not-is_after_below c = sym (every-fails (λ j. every j (λ i. order_test (page (node_of c.args.words.now)) i j)) (page (node_of c.args.words.now)).sorted c.loop-j.j (omega (arith, c.loop-j-test.true, ap (λ (h : Header). h.sorted) c.header_of-sorted.ensures)) (sym c.is_after_below.ensures ∙ c.if-not-is_after_below.true))

pub loop-j-preserved : goal.loop-j-preserved
loop-j-preserved c = every-more (λ j. every j (λ i. order_test (page (node_of c.args.words.now)) i j)) c.loop-j.j c.loop-j.invariant (sym c.is_after_below.ensures ∙ c.if-not-is_after_below.false)
