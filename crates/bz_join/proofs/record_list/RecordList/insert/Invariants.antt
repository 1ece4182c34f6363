use Rattle.std.proofs.Common.{◌-◌, ◌≡◌, ◌<◌, ◌≤◌, [], length, ℕ, ◌+◌, get_or}
use Rattle.bz_key.specs.declared.limits.TheConstants.{PAGE_PAIRS}
use Rattle.bz_join.proofs.record_list.RecordList.insert.Given as goal

-- those before the free place are as they were, and those up to the last one have moved up by one
abbrev pub invariant-loop-free : goal.invariant-loop-free
invariant-loop-free l = record {
  full : length l.initial.self-inside.pairs ≡ PAGE_PAIRS;
  size : length l.self-inside.pairs ≡ length l.initial.self-inside.pairs;
  count : l.self-inside.count ≡ l.initial.self-inside.count;
  from : l.place ≤ l.free;
  to : l.free ≤ l.self-inside.count;
  before : (k : ℕ) → k < l.free → get_or l.self-inside.pairs k ([], []) ≡ get_or l.initial.self-inside.pairs k ([], []);
  after : (k : ℕ) → l.free ≤ k → k < l.self-inside.count → get_or l.self-inside.pairs (k + 1) ([], []) ≡ get_or l.initial.self-inside.pairs k ([], []);
}

abbrev pub decreases-loop-free : goal.decreases-loop-free
decreases-loop-free l = l.free - l.place
