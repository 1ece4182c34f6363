-- Two neighbouring leaves that are made one, told of words: the one has the records of both, from the low fence of the left one up
-- to the high fence of the right one.
use Rattle.std.specs.Prelude.{◌≡◌, ℕ, ◌+◌, ◌^◌, ◌<◌, ◌≤◌, ◌++◌, true, false, List, All, length, Option, Some, None}
use Rattle.std.specs.Cmp.Lexicographic.{slice_cmp}
use Rattle.std.specs.FinMap.{find}
use Rattle.std.specs.Ordering.{nat_cmp}
use Rattle.bz_layout.specs.declared.sizes.TheConstants.{NODE_WORDS}
use Rattle.bz_layout.specs.declared.thresholds.TheConstants.{SPLIT_ABOVE}
use Rattle.bz_node.specs.Reading.{AreInKeyOrder, pairs_in}
use Rattle.bz_node.specs.Records.{leaf_words, IsPair, IsBound, IsLeafList, IsAbove, IsBelow}
use Rattle.bz_tree.specs.Order.{is_before}
use Rattle.bz_slotted.specs.Readers.{found_of, live_of}
use Rattle.bz_slotted.specs.ReadingLaws.{node_of, IsLeafOf}
use Rattle.bz_slotted.specs.Rules.{node_fault}
use Rattle.bz_halves.specs.Halves.{record_words}

-- the records of two leaves, the left one before the separator and the right one from it on, which have room in one that is not to
-- be split
pub record AreNeighbours (left right : List (List ℕ × List ℕ)) (low high : Option (List ℕ)) (sep : List ℕ) : Type 0 where
  pub left_pairs : All IsPair left
  pub right_pairs : All IsPair right
  pub low_bound : IsBound low
  pub high_bound : IsBound high
  pub above : IsAbove low sep
  pub below : IsBelow high sep
  pub left_list : IsLeafList left low (Some sep)
  pub right_list : IsLeafList right (Some sep) high
  pub room : record_words left + record_words right ≤ SPLIT_ABOVE

-- the words of the leaf that has the records of both
abbrev pub joined_words : (left right : List (List ℕ × List ℕ)) → Option (List ℕ) → Option (List ℕ) → List ℕ
joined_words left right low high = leaf_words (left ++ right) low high

-- it breaks no rule as a leaf, takes the words of both, and says of each key before the separator what the left records say, and of
-- any other what the right ones say
pub record AreJoined (nodes : ℕ) (left right : List (List ℕ × List ℕ)) (low high : Option (List ℕ)) (sep : List ℕ) : Type 0 where
  pub list : IsLeafList (left ++ right) low high
  pub words : record_words (left ++ right) ≡ record_words left + record_words right
  pub leaf : IsLeafOf nodes (node_of (joined_words left right low high)) (left ++ right) low high
  pub before : (key : List ℕ) → is_before key sep ≡ true → found_of (node_of (joined_words left right low high)) key ≡ find (slice_cmp nat_cmp) key left
  pub from : (key : List ℕ) → is_before key sep ≡ false → found_of (node_of (joined_words left right low high)) key ≡ find (slice_cmp nat_cmp) key right

abbrev pub NeighboursJoin : Type 0
NeighboursJoin =
    (nodes : ℕ) (left right : List (List ℕ × List ℕ)) (low high : Option (List ℕ)) (sep : List ℕ) → AreNeighbours left right low high sep → AreJoined nodes left right low high sep

-- between some bounds the words of the two are leaves that break no rule, which meet at a separator between the outer bounds; and
-- both together have no more live words than a leaf may keep
pub record MayJoin (left right : List ℕ) : Type 0 where
  pub nodes : ℕ
  pub low : Option (List ℕ)
  pub high : Option (List ℕ)
  pub sep : List ℕ
  pub above : IsAbove low sep
  pub below : IsBelow high sep
  pub left_whole : node_fault nodes (node_of left) (node_of left) 0 low (Some sep) ≡ None
  pub right_whole : node_fault nodes (node_of right) (node_of right) 0 (Some sep) high ≡ None
  pub room : live_of (node_of left) + live_of (node_of right) ≤ SPLIT_ABOVE

-- the words have the records of both in the order of their keys, and the outer fences
pub record HasBoth (left right one : List ℕ) : Type 0 where
  pub left_pairs : List (List ℕ × List ℕ)
  pub right_pairs : List (List ℕ × List ℕ)
  pub low : Option (List ℕ)
  pub high : Option (List ℕ)
  pub left_order : AreInKeyOrder (pairs_in left) left_pairs
  pub right_order : AreInKeyOrder (pairs_in right) right_pairs
  pub is : one ≡ joined_words left_pairs right_pairs low high

-- between whatever bounds the two are leaves that meet at a separator, the one is a leaf between the outer ones; and it says of each
-- key before the separator what the left one says, and of any other what the right one says
pub record IsOneOf (left right one : List ℕ) : Type 0 where
  pub both : HasBoth left right one
  pub whole : (nodes : ℕ) (low high : Option (List ℕ)) (sep : List ℕ) → node_fault nodes (node_of left) (node_of left) 0 low (Some sep) ≡ None → node_fault nodes (node_of right) (node_of right) 0 (Some sep) high ≡ None → node_fault nodes (node_of one) (node_of one) 0 low high ≡ None
  pub before : (nodes : ℕ) (low : Option (List ℕ)) (sep : List ℕ) → node_fault nodes (node_of left) (node_of left) 0 low (Some sep) ≡ None → (key : List ℕ) → is_before key sep ≡ true → found_of (node_of one) key ≡ found_of (node_of left) key
  pub from : (nodes : ℕ) (low : Option (List ℕ)) (sep : List ℕ) → node_fault nodes (node_of left) (node_of left) 0 low (Some sep) ≡ None → (key : List ℕ) → is_before key sep ≡ false → found_of (node_of one) key ≡ found_of (node_of right) key
  pub size : length one ≡ NODE_WORDS
  pub plain : All (λ v. v < 2 ^ 61) one
