use Rattle.std.proofs.Common.{arith, sym, ◌∙◌}
use Rattle.bz_slotted.specs.Page.{page}
use Rattle.bz_slotted.specs.ReadingLaws.{node_of}
use Rattle.bz_slotted.specs.Rules.{apart_test}
use Rattle.bz_slotted.specs.Tests.{every}
use Rattle.bz_slotted.proofs.Loops.{every-none, every-more, every-fails}
use Rattle.bz_slotted.proofs.Neighbours.{begins-more}
use Rattle.bz_slotted.proofs.entries.all_apart.Goals as goal

pub loop-j-init : goal.loop-j-init
loop-j-init c = record { apart = every-none (λ j. every j (λ i. apart_test (page (node_of c.args.words.now)) i j)); above = λ k l h. absurd (omega arith) }

pub returns-then-not-is_apart : goal.returns-then-not-is_apart
returns-then-not-is_apart c = sym (every-fails (λ j. every j (λ i. apart_test (page (node_of c.args.words.now)) i j)) (page (node_of c.args.words.now)).count c.loop-j.j (omega (arith, c.loop-j-test.true, c.count_of-count.ensures)) (sym c.is_apart.ensures ∙ c.if-not-is_apart.true))

pub loop-j-preserved : goal.loop-j-preserved
loop-j-preserved c = record {
  apart = every-more (λ j. every j (λ i. apart_test (page (node_of c.args.words.now)) i j)) c.loop-j.j c.loop-j.invariant.apart (sym c.is_apart.ensures ∙ c.if-not-is_apart.false);
  above = begins-more (page (node_of c.args.words.now)) c.loop-j.j c.loop-j.lowest c.lowest_with-lowest.result c.loop-j.invariant.above c.lowest_with-lowest.ensures.below c.lowest_with-lowest.ensures.own;
}
