use Rattle.std.proofs.Common.{◌≡◌, true, arith, ap, sym, subst, ◌∙◌}
use Rattle.bz_slotted.specs.Page.{page}
use Rattle.bz_slotted.specs.ReadingLaws.{node_of}
use Rattle.bz_slotted.specs.Rules.{distinct_test}
use Rattle.bz_slotted.specs.Tests.{every}
use Rattle.bz_slotted.proofs.Loops.{every-more, every-fails}
use Rattle.bz_slotted.proofs.Neighbours.{rising-differ}
use Rattle.bz_word.specs.declared.header.Header.{Header}
use Rattle.bz_slotted.proofs.entries.all_differ.Goals as goal

pub loop-j-init : goal.loop-j-init
loop-j-init c = subst (λ n. every n (λ j. every j (λ i. distinct_test (page (node_of c.args.words.now)) i j)) ≡ true) (sym (ap (λ (h : Header). h.sorted) c.header_of-j.ensures)) (rising-differ (page (node_of c.args.words.now)) (page (node_of c.args.words.now)).sorted c.requires.rise)

pub returns-then-not-is_other_below : goal.returns-then-not-is_other_below
returns-then-not-is_other_below c = sym (every-fails (λ j. every j (λ i. distinct_test (page (node_of c.args.words.now)) i j)) (page (node_of c.args.words.now)).count c.loop-j.j (omega (arith, c.loop-j-test.true, c.count_of-count.ensures)) (sym c.is_other_below.ensures ∙ c.if-not-is_other_below.true))

pub loop-j-preserved : goal.loop-j-preserved
loop-j-preserved c = every-more (λ j. every j (λ i. distinct_test (page (node_of c.args.words.now)) i j)) c.loop-j.j c.loop-j.invariant (sym c.is_other_below.ensures ∙ c.if-not-is_other_below.false)
