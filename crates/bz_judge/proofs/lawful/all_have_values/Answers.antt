use Rattle.std.proofs.Common.{sym, ◌∙◌}
use Rattle.std.specs.Prelude.{slice_index}
use Rattle.bz_slotted.proofs.Loops.{every-none, every-more, every-fails}
use Rattle.bz_judge.specs.Inside.Kinds.{values_test}
use Rattle.bz_judge.proofs.lawful.all_have_values.Goals as goal

pub loop-i-init : goal.loop-i-init
loop-i-init c = every-none (values_test (slice_index c.args.image.now) c.args.swap)

pub returns-then-not-has_values : goal.returns-then-not-has_values
returns-then-not-has_values c = sym (every-fails (values_test (slice_index c.args.image.now) c.args.swap) c.args.count c.loop-i.i c.loop-i-test.true (sym c.has_values.ensures ∙ c.if-not-has_values.true))

pub loop-i-preserved : goal.loop-i-preserved
loop-i-preserved c = every-more (values_test (slice_index c.args.image.now) c.args.swap) c.loop-i.i c.loop-i.invariant (sym c.has_values.ensures ∙ c.if-not-has_values.false)
