use Rattle.std.proofs.Common.{◌∙◌}
use Rattle.bz_text.proofs.PartLemmas.{pairs_on, pairs_cut, pairs_stay, leaves_from}
use Rattle.bz_text.proofs.report.tell_power.Goals as goal

pub returns-in-On : goal.returns-in-On
returns-in-On c start keys before = pairs_on start c.args.journal.now.past c.args.moment _ c.args.keys.now.keys c.requires.within (rw c.in-On.is at c.requires.seen) c.len.ensures.len keys

pub returns-in-Cut : goal.returns-in-Cut
returns-in-Cut c start keys before = pairs_cut start c.args.journal.now.past c.args.moment c.requires.within (rw c.in-Cut.is at c.requires.seen)

pub returns-in_default : goal.returns-in_default
returns-in_default c start keys before = before ∙ pairs_stay start c.args.journal.now.past c.args.moment c.args.mark.now c.requires.within c.requires.seen (leaves_from c.args.mark.now c.in_default.not-On c.in_default.not-Cut)
