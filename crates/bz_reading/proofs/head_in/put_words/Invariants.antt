use Rattle.std.proofs.Common.{◌≡◌, ◌<◌, map, drop, length}
use Rattle.serde_json.specs.View.{view}
use Rattle.bz_reading.specs.Heads.{filled}
use Rattle.bz_reading.proofs.head_in.put_words.Given as goal

abbrev pub invariant-loop-pair : goal.invariant-loop-pair
invariant-loop-pair l = record {
  left : filled (map view (drop l.pair-index l.pairs)) l.words.items ≡ filled (map view l.pairs) l.initial.words.items;
  some : 0 < length l.words.items;
}
