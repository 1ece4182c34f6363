use Rattle.std.proofs.Common.{refl, arith}
use Rattle.bz_sound.specs.Memory.Moments.{map_at_start}
use Rattle.bz_text.proofs.OpenLemmas.{told_none}
use Rattle.bz_text.proofs.PartLemmas.{text_none, pairs_none, text_whole}
use Rattle.bz_text.proofs.ReadLemmas.{read_none, settled}
use Rattle.bz_text.proofs.SumLemmas.{keys-first}
use Rattle.bz_text.proofs.report.report_text.Goals as goal

pub loop-moment-init : goal.loop-moment-init
loop-moment-init c = record {
  table = read_none c.args.journal.now.past _ _ refl c.new-ended.ensures.items;
  told = told_none c.args.journal.now.past _ refl;
  keys = λ config image. keys-first _ c.args.journal.now.past _ ((rw c.start.ensures at c.in_ok-keys.ensures) config image);
  on = λ config image. pairs_none (map_at_start config c.args.journal.now.start) c.args.journal.now.past;
  parts = λ config image. text_none config c.args.journal.now _ c.new-out.ensures.items;
}

pub follow_effect-requires-clause-table : goal.follow_effect-requires-clause-table
follow_effect-requires-clause-table c = settled c.args.journal.now.past c.loop-moment.moment c.loop-moment.begins _ c.loop-moment.invariant.table

pub loop-moment-preserved : goal.loop-moment-preserved
loop-moment-preserved c = record {
  table = c.in_ok-read_mark.ensures;
  told = c.tell_effect.ensures;
  keys = λ config image. c.in_ok-follow_effect.ensures (map_at_start config c.args.journal.now.start) (c.loop-moment.invariant.keys config image);
  on = λ config image. c.tell_power.ensures (map_at_start config c.args.journal.now.start) (c.loop-moment.invariant.keys config image) (c.loop-moment.invariant.on config image);
  parts = λ config image. c.in_ok-put_cut.ensures config (c.loop-moment.invariant.on config image) (c.loop-moment.invariant.parts config image);
}

pub returns : goal.returns
returns c config image = text_whole config c.args.journal.now c.loop-moment.moment c.loop-moment.on c.loop-moment.ended.items c.loop-moment.out.items _ (omega arith) c.loop-moment.invariant.table.ended (rw c.deref-2.ensures.value at c.in_ok-put_part.ensures)
    (c.loop-moment.invariant.on config image) (c.loop-moment.invariant.parts config image)
