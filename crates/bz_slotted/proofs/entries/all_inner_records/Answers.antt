use Rattle.std.proofs.Common.{arith, sym, ◌∙◌}
use Rattle.bz_slotted.specs.Page.{page}
use Rattle.bz_slotted.specs.ReadingLaws.{node_of}
use Rattle.bz_slotted.specs.Rules.{inner_record_test}
use Rattle.bz_slotted.proofs.Loops.{every-none, every-more, every-fails}
use Rattle.bz_slotted.proofs.entries.all_inner_records.Goals as goal

pub loop-j-init : goal.loop-j-init
loop-j-init c = every-none (inner_record_test (node_of c.args.raw.now) (page (node_of c.args.words.now)))

pub returns-then-not-is_inner_record : goal.returns-then-not-is_inner_record
returns-then-not-is_inner_record c = sym (every-fails (inner_record_test (node_of c.args.raw.now) (page (node_of c.args.words.now))) (page (node_of c.args.words.now)).count c.loop-j.j (omega (arith, c.loop-j-test.true, c.count_of-count.ensures)) (sym c.is_inner_record.ensures ∙ c.if-not-is_inner_record.true))

pub loop-j-preserved : goal.loop-j-preserved
loop-j-preserved c = every-more (inner_record_test (node_of c.args.raw.now) (page (node_of c.args.words.now))) c.loop-j.j c.loop-j.invariant (sym c.is_inner_record.ensures ∙ c.if-not-is_inner_record.false)
