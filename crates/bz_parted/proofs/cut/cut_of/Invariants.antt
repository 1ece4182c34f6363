use Rattle.std.proofs.Common.{◌≡◌, ◌+◌, ◌≤◌, ℕ, ◌*◌, ◌<◌, take}
use Rattle.bz_layout.specs.declared.sizes.TheConstants.{SHARED_WORDS}
use Rattle.bz_layout.specs.declared.thresholds.TheConstants.{INNER_RECORD_WORDS}
use Rattle.bz_node.specs.Reading.{children_in}
use Rattle.bz_parted.specs.Parting.{child_words}
use Rattle.bz_parted.proofs.cut.cut_of.Given as goal

abbrev pub invariant-loop-j : goal.invariant-loop-j
invariant-loop-j l = record {
  words : l.left ≡ child_words (take l.j (children_in l.old.0));
  fewest : (k : ℕ) → k < l.j → 2 * child_words (take k (children_in l.old.0)) < l.words;
  small : l.left ≤ SHARED_WORDS + INNER_RECORD_WORDS;
}
