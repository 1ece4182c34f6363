use Rattle.std.proofs.Common.{◌≡◌, ◌≤◌, map, take, All}
use Rattle.bz_layout.specs.declared.sizes.TheConstants.{SHARED_WORDS}
use Rattle.bz_node.specs.Layout.{needed}
use Rattle.bz_node.proofs.shared.words_needed.Given as goal

abbrev pub invariant-loop-record : goal.invariant-loop-record
invariant-loop-record g l = record {
  words : l.words ≡ needed (map g.R.Record.entry (take l.record-index l.records));
  fits : l.words ≤ SHARED_WORDS;
  valid : All g.R.Record.valid (take l.record-index l.records);
}
