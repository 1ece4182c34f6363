use Rattle.std.proofs.Common.{◌≡◌, ◌≤◌, [], length}
use Rattle.bz_ring.specs.Calls.{items_after}
use Rattle.bz_ring.specs.Journal.{at_moment}
use Rattle.bz_qtext.specs.Reading.{AreTold, IsReadTo}
use Rattle.bz_qtext.specs.Report.{items_at_on, parts_text}
use Rattle.bz_qtext.proofs.report.report_text.Given as goal

abbrev pub invariant-loop-moment : goal.invariant-loop-moment
invariant-loop-moment l = record {
  table : IsReadTo l.queue.log.past l.moment l.begins l.ended.items;
  told : AreTold l.queue.log.past l.moment l.effects;
  few : l.count ≤ l.capacity;
  count : length (items_after l.capacity [] (at_moment l.moment l.queue.log.past)) ≡ l.count;
  on : l.on ≡ items_at_on l.capacity [] (at_moment l.moment l.queue.log.past);
  parts : l.out.items ≡ parts_text l.capacity [] (at_moment l.moment l.queue.log.past);
}
