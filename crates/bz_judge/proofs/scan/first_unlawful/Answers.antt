use Rattle.std.proofs.Common.{sym, ◌∙◌, arith}
use Rattle.std.specs.Prelude.{slice_index}
use Rattle.bz_layout.specs.Addresses.{words_of}
use Rattle.bz_judge.proofs.FirstUnlawful.{unlawful-next, unlawful-here, unlawful-end}
use Rattle.bz_judge.proofs.scan.first_unlawful.Goals as goal

pub returns-then-not-is_lawful : goal.returns-then-not-is_lawful
returns-then-not-is_lawful c =
    sym (unlawful-here c.args.config.now (slice_index c.args.image.now) c.loop-a.a (words_of c.args.config.now) (omega (arith, c.loop-a-test.true, c.words-a-end.ensures)) c.loop-a.invariant (sym c.is_lawful.ensures ∙ c.if-not-is_lawful.true))

pub loop-a-preserved : goal.loop-a-preserved
loop-a-preserved c =
    unlawful-next c.args.config.now (slice_index c.args.image.now) c.loop-a.a (words_of c.args.config.now) (omega (arith, c.loop-a-test.true, c.words-a-end.ensures)) c.loop-a.invariant (sym c.is_lawful.ensures ∙ c.if-not-is_lawful.false)

pub returns : goal.returns
returns c =
    sym (unlawful-end c.args.config.now (slice_index c.args.image.now) c.loop-a.a (words_of c.args.config.now) (omega (arith, c.loop-a-test.false, c.words-a-end.ensures)) c.loop-a.invariant)
