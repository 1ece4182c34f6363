use Rattle.std.proofs.Common.{arith, ◌+◌, ap, subst}
use Rattle.bz_verdict.specs.Questions.{AreAsked}
use Rattle.bz_verdict.proofs.Asking.{none_asked_yet, noted_more, noted_within}
use Rattle.bz_verdict.proofs.questions.questions.Goals as goal

pub loop-i-init : goal.loop-i-init
loop-i-init c = none_asked_yet c.args.journal.now.past c.in_ok-asked.asked.items (c.length-count.result + 1) (ap (λ n. n + 1) c.length-count.ensures) (c.in_ok-asked.ensures.items_if_clones_equal (λ y h. h))

pub note-requires-clause-within : goal.note-requires-clause-within
note-requires-clause-within c = noted_within c.asked_at-at.result c.loop-i.i _ c.asked_at-at.ensures.within (omega (arith, c.loop-i.invariant.size, c.length-count.ensures, c.loop-i-test.true))

pub loop-i-preserved : goal.loop-i-preserved
loop-i-preserved c =
    noted_more c.args.journal.now.past c.loop-i.i c.loop-i.asked.items c.note.new.asked.items c.asked_at-at.result
    (noted_within c.asked_at-at.result c.loop-i.i _ c.asked_at-at.ensures.within (omega (arith, c.loop-i.invariant.size, c.length-count.ensures, c.loop-i-test.true))) c.asked_at-at.ensures.asks c.note.ensures c.loop-i.invariant

pub returns : goal.returns
returns c = subst (λ n. AreAsked c.args.journal.now.past n c.loop-i.asked.items) (omega (arith, c.loop-i-test.false, c.loop-i.auto.i-end, c.length-count.ensures)) c.loop-i.invariant
