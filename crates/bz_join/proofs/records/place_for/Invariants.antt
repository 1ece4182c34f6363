use Rattle.std.proofs.Common.{ℕ, ◌≤◌, ◌<◌, [], length, get_or}
use Rattle.bz_node.specs.Records.{IsBefore, keys_of}
use Rattle.bz_join.proofs.records.place_for.Given as goal

abbrev pub invariant-loop-place : goal.invariant-loop-place
invariant-loop-place l = record {
  within : l.place ≤ length l.pairs;
  after : (k : ℕ) → l.place ≤ k → k < length l.pairs → IsBefore l.key (get_or (keys_of l.pairs) k []);
}

abbrev pub decreases-loop-place : goal.decreases-loop-place
decreases-loop-place l = l.place
