use Rattle.std.proofs.Common.{◌≡◌, ◌+◌, map, take, length}
use Rattle.bz_layout.specs.declared.sizes.TheConstants.{SHARED_WORDS}
use Rattle.bz_node.specs.Layout.{block, shared_part}
use Rattle.bz_node.proofs.shared.put_records.Given as goal

abbrev pub invariant-loop-i : goal.invariant-loop-i
invariant-loop-i g l = record {
  words : l.shared ≡ shared_part (map g.R.Record.entry (take l.i l.records));
  end : l.«end» + length (block (map g.R.Record.entry (take l.i l.records))) ≡ SHARED_WORDS;
}
