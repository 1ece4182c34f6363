use Rattle.std.proofs.Common.{sym, ◌∙◌}
use Rattle.bz_layout.specs.declared.sizes.TheConstants.{NODE_WORDS}
use Rattle.bz_slotted.specs.Page.{page}
use Rattle.bz_slotted.specs.ReadingLaws.{node_of}
use Rattle.bz_slotted.specs.Rules.{free_test}
use Rattle.bz_slotted.proofs.Loops.{every-none, every-more, every-fails}
use Rattle.bz_slotted.proofs.filling.is_free_between.Goals as goal

pub loop-i-init : goal.loop-i-init
loop-i-init c = every-none (free_test (page (node_of c.args.words.now)))

pub returns-then-not-is_free_or_used : goal.returns-then-not-is_free_or_used
returns-then-not-is_free_or_used c = sym (every-fails (free_test (page (node_of c.args.words.now))) NODE_WORDS c.loop-i.i c.loop-i-test.true (sym c.is_free_or_used.ensures ∙ c.if-not-is_free_or_used.true))

pub loop-i-preserved : goal.loop-i-preserved
loop-i-preserved c = every-more (free_test (page (node_of c.args.words.now))) c.loop-i.i c.loop-i.invariant (sym c.is_free_or_used.ensures ∙ c.if-not-is_free_or_used.false)
