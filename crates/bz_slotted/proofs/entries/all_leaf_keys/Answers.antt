use Rattle.std.proofs.Common.{arith, sym, ◌∙◌}
use Rattle.bz_slotted.specs.Page.{page}
use Rattle.bz_slotted.specs.ReadingLaws.{node_of}
use Rattle.bz_slotted.specs.Rules.{leaf_key_test}
use Rattle.bz_slotted.proofs.Loops.{every-none, every-more, every-fails}
use Rattle.bz_slotted.proofs.entries.all_leaf_keys.Goals as goal

pub loop-j-init : goal.loop-j-init
loop-j-init c = every-none (leaf_key_test (page (node_of c.args.words.now)) c.args.place.now.low c.args.place.now.high)

pub returns-then-not-is_leaf_key : goal.returns-then-not-is_leaf_key
returns-then-not-is_leaf_key c = sym (every-fails (leaf_key_test (page (node_of c.args.words.now)) c.args.place.now.low c.args.place.now.high) (page (node_of c.args.words.now)).count c.loop-j.j (omega (arith, c.loop-j-test.true, c.count_of-count.ensures)) (sym c.is_leaf_key.ensures ∙ c.if-not-is_leaf_key.true))

pub loop-j-preserved : goal.loop-j-preserved
loop-j-preserved c = every-more (leaf_key_test (page (node_of c.args.words.now)) c.args.place.now.low c.args.place.now.high) c.loop-j.j c.loop-j.invariant (sym c.is_leaf_key.ensures ∙ c.if-not-is_leaf_key.false)
