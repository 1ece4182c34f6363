use Rattle.std.proofs.Common.{◌+◌, sym}
use Rattle.std.specs.Prelude.{◌==◌}
use Rattle.bz_layout.specs.declared.sizes.TheConstants.{FENCE_WORDS}
use Rattle.bz_slotted.specs.ReadingLaws.{node_of}
use Rattle.bz_slotted.proofs.Loops.{every-none, every-more, every-fails}
use Rattle.bz_slotted.proofs.Readings.{other-test, same-test}
use Rattle.bz_slotted.proofs.front.is_blank.Goals as goal

pub loop-i-init : goal.loop-i-init
loop-i-init c = every-none (λ i. node_of c.args.words.now (c.args.at + i) == 0)

pub returns-then-words-at-ne0 : goal.returns-then-words-at-ne0
returns-then-words-at-ne0 c = sym (every-fails (λ i. node_of c.args.words.now (c.args.at + i) == 0) FENCE_WORDS c.loop-i.i c.loop-i-test.true (other-test (node_of c.args.words.now (c.args.at + c.loop-i.i)) 0 c.if-words-at-ne0.true))

pub loop-i-preserved : goal.loop-i-preserved
loop-i-preserved c = every-more (λ i. node_of c.args.words.now (c.args.at + i) == 0) c.loop-i.i c.loop-i.invariant (same-test (node_of c.args.words.now (c.args.at + c.loop-i.i)) 0 c.if-words-at-ne0.false)
