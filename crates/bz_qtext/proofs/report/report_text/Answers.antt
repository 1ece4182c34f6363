use Rattle.std.proofs.Common.{[], refl, arith}
use Rattle.bz_qtext.proofs.CountLemmas.{count_none}
use Rattle.bz_qtext.proofs.OpenLemmas.{told_none}
use Rattle.bz_qtext.proofs.PartLemmas.{text_none, items_none, text_whole}
use Rattle.bz_qtext.proofs.ReadLemmas.{read_none, settled}
use Rattle.bz_qtext.proofs.report.report_text.Goals as goal

pub loop-moment-init : goal.loop-moment-init
loop-moment-init c = record {
  table = read_none c.args.queue.now.log.past _ _ refl c.new-ended.ensures.items;
  told = told_none c.args.queue.now.log.past _ refl;
  few = omega arith;
  count = count_none c.args.capacity c.args.queue.now.log.past;
  on = items_none c.args.capacity [] c.args.queue.now.log.past;
  parts = text_none c.args.capacity [] c.args.queue.now.log.past _ c.new-out.ensures.items;
}

pub follow_effect-count-requires-clause-table : goal.follow_effect-count-requires-clause-table
follow_effect-count-requires-clause-table c = settled c.args.queue.now.log.past c.loop-moment.moment c.loop-moment.begins _ c.loop-moment.invariant.table

pub loop-moment-preserved : goal.loop-moment-preserved
loop-moment-preserved c = record {
  table = c.in_ok-read_mark.ensures;
  told = c.tell_effect.ensures;
  few = c.follow_effect-count.ensures.few;
  count = c.follow_effect-count.ensures.count [] c.loop-moment.invariant.count;
  on = c.tell_power.ensures c.args.capacity [] c.loop-moment.invariant.count c.loop-moment.invariant.on;
  parts = c.in_ok-put_cut.ensures c.args.capacity [] c.loop-moment.invariant.on c.loop-moment.invariant.parts;
}

pub returns : goal.returns
returns c = text_whole c.args.capacity [] c.args.queue.now.log.past c.loop-moment.moment c.loop-moment.on c.loop-moment.ended.items c.loop-moment.out.items _ (omega arith) c.loop-moment.invariant.table.ended (rw c.deref-2.ensures.value at c.in_ok-put_part.ensures)
    c.loop-moment.invariant.on c.loop-moment.invariant.parts
