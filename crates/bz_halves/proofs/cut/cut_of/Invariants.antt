use Rattle.std.proofs.Common.{◌≡◌, ◌+◌, ◌≤◌, ℕ, ◌*◌, ◌<◌, take}
use Rattle.bz_layout.specs.declared.sizes.TheConstants.{SHARED_WORDS}
use Rattle.bz_layout.specs.declared.thresholds.TheConstants.{LEAF_RECORD_WORDS}
use Rattle.bz_halves.specs.Halves.{record_words}
use Rattle.bz_halves.proofs.cut.cut_of.Given as goal

abbrev pub invariant-loop-i : goal.invariant-loop-i
invariant-loop-i l = record {
  words : l.words ≡ record_words (take l.i l.records);
  fewest : (k : ℕ) → k < l.i → 2 * record_words (take k l.records) < l.live;
  small : l.words ≤ SHARED_WORDS + LEAF_RECORD_WORDS;
}
