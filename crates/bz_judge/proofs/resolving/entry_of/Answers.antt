use Rattle.std.proofs.Common.{◌≡◌, sym, ap, ◌∙◌, arith}
use Rattle.std.specs.Prelude.{◌==◌, slice_index}
use Rattle.bz_content.specs.Resolving.{count_in}
use Rattle.bz_slotted.proofs.Readings.{other-test, same-test}
use Rattle.bz_judge.proofs.FirstUnlawful.{entry-next, entry-here, entry-end}
use Rattle.bz_judge.proofs.resolving.entry_of.Goals as goal

pub returns-then-target-from-clause-entry : goal.returns-then-target-from-clause-entry
returns-then-target-from-clause-entry c =
    sym (entry-here (slice_index c.args.image.now) c.args.swap c.args.a c.loop-i.i (count_in (slice_index c.args.image.now) c.args.swap) (omega (arith, c.loop-i-test.true, c.entry_count-count.ensures)) c.loop-i.invariant
    (ap (λ w. w == c.args.a) (sym c.target.ensures) ∙ same-test c.target.result c.args.a (c.if-target-from.true ∙ c.from.ensures)))

pub loop-i-preserved : goal.loop-i-preserved
loop-i-preserved c =
    entry-next (slice_index c.args.image.now) c.args.swap c.args.a c.loop-i.i (count_in (slice_index c.args.image.now) c.args.swap) (omega (arith, c.loop-i-test.true, c.entry_count-count.ensures)) c.loop-i.invariant
    (ap (λ w. w == c.args.a) (sym c.target.ensures) ∙ other-test c.target.result c.args.a (λ e. c.if-target-from.false (e ∙ sym c.from.ensures)))

pub returns-clause-entry : goal.returns-clause-entry
returns-clause-entry c =
    let i : c.entry_count-count.result ≡ c.loop-i.i = omega (arith, c.loop-i-test.false, c.loop-i.auto.i-end) in
    i ∙ sym (entry-end (slice_index c.args.image.now) c.args.swap c.args.a c.loop-i.i (count_in (slice_index c.args.image.now) c.args.swap) (omega (arith, c.loop-i-test.false, c.entry_count-count.ensures)) c.loop-i.invariant)
