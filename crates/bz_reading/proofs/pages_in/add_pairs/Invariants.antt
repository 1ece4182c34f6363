use Rattle.std.proofs.Common.{◌≡◌, map, drop}
use Rattle.serde_json.specs.View.{view}
use Rattle.bz_reading.specs.Reading.{pairs_in}
use Rattle.bz_reading.proofs.pages_in.add_pairs.Given as goal

abbrev pub invariant-loop-words : goal.invariant-loop-words
invariant-loop-words l = pairs_in (map view (drop l.words-index l.list)) l.buffer ≡ pairs_in (map view l.list) l.initial.buffer
