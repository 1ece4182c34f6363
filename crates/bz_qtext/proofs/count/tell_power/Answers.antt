use Rattle.std.proofs.Common.{◌∙◌, sym}
use Rattle.bz_mark.specs.declared.marks.Mark.TheVariants.{Cut, On}
use Rattle.bz_qtext.proofs.PartLemmas.{items_on, items_cut, items_stay, leaves_from, memory_is}
use Rattle.bz_qtext.proofs.count.tell_power.Goals as goal

pub returns-in-On : goal.returns-in-On
returns-in-On c capacity first counted before = items_on capacity first c.args.queue.now.log.past c.args.moment c.args.count c.requires.within (rw (c.in-Memory.is, c.in-On.is) at c.requires.seen) counted

pub returns-in-Cut : goal.returns-in-Cut
returns-in-Cut c capacity first counted before = items_cut capacity first c.args.queue.now.log.past c.args.moment c.requires.within (rw (c.in-Memory.is, c.in-Cut.is) at c.requires.seen)

pub returns-in_default-memory : goal.returns-in_default-memory
returns-in_default-memory c capacity first counted before =
    before ∙ items_stay capacity first c.args.queue.now.log.past c.args.moment c.args.mark.now c.requires.within c.requires.seen
    (leaves_from c.args.mark.now (λ is. c.in_default-memory.not-On (memory_is _ _ (sym c.in-Memory.is ∙ is))) (λ is. c.in_default-memory.not-Cut (memory_is _ _ (sym c.in-Memory.is ∙ is))))

pub returns-in_default : goal.returns-in_default
returns-in_default c capacity first counted before =
    before ∙ items_stay capacity first c.args.queue.now.log.past c.args.moment c.args.mark.now c.requires.within c.requires.seen (leaves_from c.args.mark.now (c.in_default.not-Memory On) (c.in_default.not-Memory Cut))
