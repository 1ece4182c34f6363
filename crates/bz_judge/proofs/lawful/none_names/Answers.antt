use Rattle.std.proofs.Common.{sym, ap, ◌∙◌}
use Rattle.std.specs.Prelude.{◌==◌, not, slice_index}
use Rattle.bz_slotted.proofs.Loops.{every-none, every-more, every-fails}
use Rattle.bz_slotted.proofs.Readings.{other-test, same-test}
use Rattle.bz_judge.specs.Inside.Kinds.{other_target_test}
use Rattle.bz_judge.proofs.lawful.none_names.Goals as goal

pub loop-i-init : goal.loop-i-init
loop-i-init c = every-none (other_target_test (slice_index c.args.image.now) c.args.a c.args.swap)

pub returns-then-target-from : goal.returns-then-target-from
returns-then-target-from c = sym (every-fails (other_target_test (slice_index c.args.image.now) c.args.a c.args.swap) c.args.count c.loop-i.i c.loop-i-test.true (ap (λ w. not (w == c.args.a)) (sym c.target.ensures) ∙ ap not (same-test c.target.result c.args.a (c.if-target-from.true ∙ c.from.ensures))))

pub loop-i-preserved : goal.loop-i-preserved
loop-i-preserved c = every-more (other_target_test (slice_index c.args.image.now) c.args.a c.args.swap) c.loop-i.i c.loop-i.invariant (ap (λ w. not (w == c.args.a)) (sym c.target.ensures) ∙ ap not (other-test c.target.result c.args.a (λ e. c.if-target-from.false (e ∙ sym c.from.ensures))))
