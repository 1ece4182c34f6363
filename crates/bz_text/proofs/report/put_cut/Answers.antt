use Rattle.std.proofs.Common.{◌∙◌}
use Rattle.bz_text.proofs.ReadLemmas.{settled}
use Rattle.bz_text.proofs.PartLemmas.{cut_parts, other_parts, no_cut_from}
use Rattle.bz_text.proofs.report.put_cut.Goals as goal

pub put_open_calls-requires-clause-table : goal.put_open_calls-requires-clause-table
put_open_calls-requires-clause-table c = settled c.args.journal.now.past c.args.moment c.args.begins.now c.args.ended.now c.requires.table

pub returns-in_ok-put-in-Cut : goal.returns-in_ok-put-in-Cut
returns-in_ok-put-in-Cut c config power before =
    cut_parts config c.args.journal.now c.args.moment c.args.on c.args.ended.now c.args.out.now.items c.put_part.new.out.items c.put_open_calls.new.out.items _ c.requires.within (rw c.in-Cut.is at c.requires.seen)
    c.requires.table.ended c.in_ok-put_part-in-Cut.ensures c.in_ok-put_open_calls-in-Cut.ensures c.in_ok-put-in-Cut.ensures power before

pub returns-in_default : goal.returns-in_default
returns-in_default c config power before =
    before ∙ other_parts config c.args.journal.now c.args.moment c.args.mark.now c.requires.within c.requires.seen (no_cut_from c.args.mark.now c.in_default.not-Cut)
