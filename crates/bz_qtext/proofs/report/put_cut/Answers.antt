use Rattle.std.proofs.Common.{◌∙◌, sym}
use Rattle.bz_mark.specs.declared.marks.Mark.TheVariants.{Cut}
use Rattle.bz_qtext.proofs.ReadLemmas.{settled}
use Rattle.bz_qtext.proofs.PartLemmas.{cut_parts, other_parts, no_cut_from, memory_is}
use Rattle.bz_qtext.proofs.report.put_cut.Goals as goal

pub put_open_calls-requires-clause-table : goal.put_open_calls-requires-clause-table
put_open_calls-requires-clause-table c = settled c.args.queue.now.log.past c.args.moment c.args.begins.now c.args.ended.now c.requires.table

pub returns-in_ok-put-in-Cut : goal.returns-in_ok-put-in-Cut
returns-in_ok-put-in-Cut c capacity first power before =
    cut_parts capacity first c.args.queue.now.log.past c.args.moment c.args.on c.args.ended.now c.args.out.now.items c.put_part.new.out.items c.put_open_calls.new.out.items _ c.requires.within (rw (c.in-Memory.is, c.in-Cut.is) at c.requires.seen)
    c.requires.table.ended c.in_ok-put_part-in-Cut.ensures c.in_ok-put_open_calls-in-Cut.ensures c.in_ok-put-in-Cut.ensures power before

pub returns-in_default-memory : goal.returns-in_default-memory
returns-in_default-memory c capacity first power before =
    before ∙ other_parts capacity first c.args.queue.now.log.past c.args.moment c.args.mark.now c.requires.within c.requires.seen (no_cut_from c.args.mark.now (λ is. c.in_default-memory.not-Cut (memory_is _ _ (sym c.in-Memory.is ∙ is))))

pub returns-in_default : goal.returns-in_default
returns-in_default c capacity first power before =
    before ∙ other_parts capacity first c.args.queue.now.log.past c.args.moment c.args.mark.now c.requires.within c.requires.seen (no_cut_from c.args.mark.now (c.in_default.not-Memory Cut))
