use Rattle.std.proofs.Common.{None, rules, ap, ◌∙◌, arith, replicate}
use Rattle.bz_text.proofs.ReadLemmas.{other_from}
use Rattle.bz_text.proofs.SumLemmas.{counts_below, counted-begin, counted-end, counted-cut, counted-other}
use Rattle.bz_text.proofs.summing.sum_mark.Goals as goal

pub count-requires : goal.count-requires
count-requires c = counts_below c.args.journal.now.past c.args.moment c.args.begins.now c.args.counts.now 4294967295 (omega (arith, c.requires.within, c.requires.few)) (omega (arith, c.requires.within)) c.requires.before

pub returns-in-Begin : goal.returns-in-Begin
returns-in-Begin c = counted-begin c.args.journal.now.past c.args.moment c.args.begins.now c.args.counts.now c.requires.within c.requires.before c.in-Begin.w c.in-Begin.n c.in-Begin.call (search rules) (rw c.in-Begin.is at c.requires.seen)

pub returns-in-End : goal.returns-in-End
returns-in-End c =
    rw c.count.ensures (counted-end c.args.journal.now.past c.args.moment c.args.begins.now c.args.counts.now c.requires.within c.requires.before c.in-End.w c.in-End.n c.in-End.at c.in-End.reply (search rules) (rw c.in-End.is at c.requires.seen))

pub returns-in-Cut : goal.returns-in-Cut
returns-in-Cut c =
    counted-cut c.args.journal.now.past c.args.moment c.args.begins.now c.args.counts.now c.requires.within c.requires.before _ (rw c.in-Cut.is at c.requires.seen)
    (c.fill.ensures.after (λ y h. search rules) ∙ ap (λ n. replicate n None) c.told-begins)

pub returns-in_default : goal.returns-in_default
returns-in_default c =
    counted-other c.args.journal.now.past c.args.moment c.args.begins.now c.args.counts.now c.requires.within c.requires.before c.args.mark.now c.requires.seen
    (other_from c.args.mark.now c.in_default.not-Begin c.in_default.not-End c.in_default.not-Cut)
