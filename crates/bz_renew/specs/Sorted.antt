-- What is read of a leaf that is to be made anew: its visible records in the order of their keys, and its fences.
use Rattle.std.specs.Prelude.{◌≡◌, ℕ, ◌≤◌, List, map, All, Option, None}
use Rattle.std.specs.Cmp.Lexicographic.{slice_cmp}
use Rattle.std.specs.FinMap.{find}
use Rattle.std.specs.Ordering.{nat_cmp}
use Rattle.bz_layout.specs.declared.sizes.TheConstants.{SHARED_WORDS}
use Rattle.bz_node.specs.Layout.{needed}
use Rattle.bz_node.specs.Reading.{AreInKeyOrder, pairs_in}
use Rattle.bz_node.specs.Records.{pair_entry, IsPair, IsBound, IsLeafList}
use Rattle.bz_slotted.specs.Readers.{found_of, live_of}
use Rattle.bz_slotted.specs.ReadingLaws.{node_of}
use Rattle.bz_slotted.specs.Rules.{node_fault}

-- the fences of the words are these, between whatever bounds they are a leaf
abbrev pub HasFences : List ℕ → Option (List ℕ) → Option (List ℕ) → Type 0
HasFences words low high =
    (nodes : ℕ) (lo hi : Option (List ℕ)) → node_fault nodes (node_of words) (node_of words) 0 lo hi ≡ None → (low ≡ lo) × (high ≡ hi)

-- the records in the order of their keys and the fences; they make a leaf, which has room for them, and say of each key what the
-- words say
pub record IsSortedLeaf (words : List ℕ) (sorted : List (List ℕ × List ℕ)) (low high : Option (List ℕ)) : Type 0 where
  pub order : AreInKeyOrder (pairs_in words) sorted
  pub fences : HasFences words low high
  pub pairs : All IsPair sorted
  pub low_bound : IsBound low
  pub high_bound : IsBound high
  pub leaf : IsLeafList sorted low high
  pub live : needed (map pair_entry sorted) ≡ live_of (node_of words)
  pub room : needed (map pair_entry sorted) ≤ SHARED_WORDS
  pub says : (key : List ℕ) → find (slice_cmp nat_cmp) key sorted ≡ found_of (node_of words) key
