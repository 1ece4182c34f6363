-- What is so of the two halves of a leaf, and of the root above them.
use Rattle.std.specs.Prelude.{◌≡◌, ℕ, ◌+◌, ◌<◌, ◌≤◌, ◌++◌, true, false, List, length, map, take, drop, All, Option, Some, None}
use Rattle.std.specs.Cmp.Lexicographic.{slice_cmp}
use Rattle.std.specs.FinMap.{find}
use Rattle.std.specs.Ordering.{nat_cmp}
use Rattle.bz_key.specs.Bytes.{IsKey}
use Rattle.bz_layout.specs.declared.limits.TheConstants.{MAX_NODES}
use Rattle.bz_layout.specs.declared.sizes.TheConstants.{SHARED_WORDS}
use Rattle.bz_layout.specs.declared.thresholds.TheConstants.{SPLIT_ABOVE, INNER_LIMIT}
use Rattle.bz_node.specs.Layout.{needed}
use Rattle.bz_node.specs.Records.{child_entry, IsPair, IsBound, IsLeafList, IsAbove, IsBelow}
use Rattle.bz_slotted.specs.FromShape.Order.{is_before}
use Rattle.bz_slotted.specs.FromShape.Slots.{AreTwo}
use Rattle.bz_slotted.specs.Readers.{count_of, child_of, key_of, found_of}
use Rattle.bz_slotted.specs.ReadingLaws.{node_of, IsLeafOf}
use Rattle.bz_slotted.specs.Rules.{node_fault}
use Rattle.bz_halves.specs.Halves.{record_words, IsCut, separator_of, left_words, right_words}
use Rattle.bz_halves.specs.Roots.{root_children, root_words}

-- the records of a leaf that is to be split, between its fences
pub record IsSplitLeaf (records : List (List ℕ × List ℕ)) (low high : Option (List ℕ)) : Type 0 where
  pub pairs : All IsPair records
  pub low_bound : IsBound low
  pub high_bound : IsBound high
  pub leaf : IsLeafList records low high
  pub many : SPLIT_ABOVE < record_words records
  pub room : record_words records ≤ SHARED_WORDS

-- neither half is empty; both together are the records; the left one ends where the right one begins, at a key between the fences,
-- which is not the lower one; and each leaves room for any record, and one word more
pub record AreLeafHalves (records : List (List ℕ × List ℕ)) (low high : Option (List ℕ)) (cut : ℕ) : Type 0 where
  pub some : 0 < cut
  pub more : cut < length records
  pub joined : take cut records ++ drop cut records ≡ records
  pub separator : IsKey (separator_of records cut)
  pub above : IsAbove low (separator_of records cut)
  pub below : IsBelow high (separator_of records cut)
  pub left : IsLeafList (take cut records) low (Some (separator_of records cut))
  pub right : IsLeafList (drop cut records) (Some (separator_of records cut)) high
  pub words : record_words (take cut records) + record_words (drop cut records) ≡ record_words records
  pub left_room : record_words (take cut records) ≤ SPLIT_ABOVE
  pub right_room : record_words (drop cut records) ≤ SPLIT_ABOVE

abbrev pub LeavesPartInHalves : Type 0
LeavesPartInHalves = (records : List (List ℕ × List ℕ)) (low high : Option (List ℕ)) (cut : ℕ) → IsSplitLeaf records low high → IsCut records cut → AreLeafHalves records low high cut

-- the two halves break no rule as leaves, and say of each key what the records say: the left one of the keys before the
-- separator, the right one of the others
pub record AreLeaves (nodes : ℕ) (records : List (List ℕ × List ℕ)) (low high : Option (List ℕ)) (cut : ℕ) : Type 0 where
  pub left : IsLeafOf nodes (node_of (left_words records low cut)) (take cut records) low (Some (separator_of records cut))
  pub right : IsLeafOf nodes (node_of (right_words records high cut)) (drop cut records) (Some (separator_of records cut)) high
  pub before : (key : List ℕ) → is_before key (separator_of records cut) ≡ true → found_of (node_of (left_words records low cut)) key ≡ find (slice_cmp nat_cmp) key records
  pub from : (key : List ℕ) → is_before key (separator_of records cut) ≡ false → found_of (node_of (right_words records high cut)) key ≡ find (slice_cmp nat_cmp) key records

abbrev pub HalvesAreLeaves : Type 0
HalvesAreLeaves = (nodes : ℕ) (records : List (List ℕ × List ℕ)) (low high : Option (List ℕ)) (cut : ℕ) → IsSplitLeaf records low high → IsCut records cut → AreLeaves nodes records low high cut

-- the new root breaks no rule, has the two slots as children, parted by the separator, and takes one more separator
pub record IsRootOver (nodes left right : ℕ) (separator : List ℕ) : Type 0 where
  pub none : node_fault nodes (node_of (root_words left right separator)) (node_of (root_words left right separator)) 1 None None ≡ None
  pub room : needed (map child_entry (root_children left right separator)) ≤ INNER_LIMIT
  pub two : AreTwo (record { count = count_of (node_of (root_words left right separator)); child = child_of (node_of (root_words left right separator)); key = key_of (node_of (root_words left right separator)) }) left right separator

abbrev pub RootsStandOverTwo : Type 0
RootsStandOverTwo = (nodes left right : ℕ) (separator : List ℕ) → nodes ≤ MAX_NODES → left < nodes → right < nodes → IsKey separator → IsRootOver nodes left right separator
