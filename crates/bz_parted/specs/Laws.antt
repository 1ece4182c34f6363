-- What is so of the two halves of an inner node, and of a root above them.
use Rattle.std.specs.Prelude.{◌≡◌, ℕ, ◌+◌, ◌<◌, ◌≤◌, List, length, map, take, slice_index, slice_index_or, All, Option, Some, None}
use Rattle.bz_key.specs.Bytes.{IsKey}
use Rattle.bz_key.specs.Packing.{packed}
use Rattle.bz_layout.specs.declared.limits.TheConstants.{MAX_NODES}
use Rattle.bz_layout.specs.declared.sizes.TheConstants.{NODE_WORDS, STATUS_AT, SHARED_WORDS}
use Rattle.bz_layout.specs.declared.thresholds.TheConstants.{INNER_LIMIT, MAX_LEVELS}
use Rattle.bz_node.specs.Layout.{needed}
use Rattle.bz_node.specs.Reading.{children_in, IsReadableInner}
use Rattle.bz_node.specs.Records.{child_entry, IsChild, IsBound, IsChildList, IsAbove, IsBelow}
use Rattle.bz_node.specs.declared.child.Child.{Child}
use Rattle.bz_tree.specs.Slots.{Halves, AreTwo}
use Rattle.bz_slotted.specs.ReadingLaws.{node_of, IsInnerOf}
use Rattle.bz_slotted.specs.Rules.{node_fault}
use Rattle.bz_word.specs.Statuses.{status}
use Rattle.bz_halves.specs.Parents.{child_at, HasChildren, children_told}
use Rattle.bz_halves.specs.Roots.{root_children}
use Rattle.bz_parted.specs.Parting.{child_words, IsParting, separator_of, right_half, left_words, right_words}
use Rattle.bz_parted.specs.Roots.{tall_root_words}

-- the children of an inner node that is to be split, between its fences
pub record IsSplitInner (children : List Child) (low high : Option (List ℕ)) : Type 0 where
  pub each : All IsChild children
  pub low_bound : IsBound low
  pub high_bound : IsBound high
  pub list : IsChildList children low high
  pub many : INNER_LIMIT < child_words children
  pub room : child_words children ≤ SHARED_WORDS

-- neither half is empty; the separator is a key between the fences, and is not the lower one; the halves make nodes, the one up to
-- it and the other from it on; together they take the words of all but the separator's; and each takes one more separator
pub record AreInnerHalves (children : List Child) (low high : Option (List ℕ)) (cut : ℕ) : Type 0 where
  pub some : 0 < cut
  pub more : cut < length children
  pub separator : IsKey (separator_of children cut)
  pub goes_up : (child_at children cut).low ≡ Some (separator_of children cut)
  pub above : IsAbove low (separator_of children cut)
  pub below : IsBelow high (separator_of children cut)
  pub left_each : All IsChild (take cut children)
  pub right_each : All IsChild (right_half children cut)
  pub left : IsChildList (take cut children) low (Some (separator_of children cut))
  pub right : IsChildList (right_half children cut) (Some (separator_of children cut)) high
  pub words : child_words (take cut children) + child_words (right_half children cut) + length (packed (separator_of children cut)) ≡ child_words children
  pub left_room : child_words (take cut children) ≤ INNER_LIMIT
  pub right_room : child_words (right_half children cut) ≤ INNER_LIMIT

abbrev pub ChildrenPartInHalves : Type 0
ChildrenPartInHalves = (children : List Child) (low high : Option (List ℕ)) (cut : ℕ) → IsSplitInner children low high → IsParting children cut → AreInnerHalves children low high cut

-- a node up to the limit takes one more child, below any separator
abbrev pub HalvesTakeOneMore : Type 0
HalvesTakeOneMore = (children : List Child) (separator : List ℕ) → IsKey separator → child_words children ≤ INNER_LIMIT → child_words children + 2 + length (packed separator) ≤ SHARED_WORDS

-- all slots are those of a memory, at a level of inner nodes
pub record StandsAtLevel (nodes : ℕ) (children : List Child) (level : ℕ) : Type 0 where
  pub few : nodes ≤ MAX_NODES
  pub slots : (j : ℕ) (d : Child) → j < length children → (slice_index_or children j d).slot < nodes
  pub inner : 0 < level
  pub lowest : level < MAX_LEVELS

-- the two halves break no rule at this level, and have between them the children of a node whose words tell these, in their order:
-- the left one those before the cut with their keys, the right one the others, from the separator on
pub record AreParted (nodes : ℕ) (old : ℕ → ℕ) (children : List Child) (low high : Option (List ℕ)) (level cut : ℕ) : Type 0 where
  pub left : IsInnerOf nodes (node_of (left_words children low level cut)) (take cut children) level low (Some (separator_of children cut))
  pub right : IsInnerOf nodes (node_of (right_words children high level cut)) (right_half children cut) level (Some (separator_of children cut)) high
  pub halves : Halves (children_told old) (children_told (node_of (left_words children low level cut))) (children_told (node_of (right_words children high level cut))) cut (separator_of children cut)

abbrev pub HalvesAreInner : Type 0
HalvesAreInner =
    (nodes : ℕ) (old : ℕ → ℕ) (children : List Child) (low high : Option (List ℕ)) (level cut : ℕ) → IsSplitInner children low high → IsParting children cut → StandsAtLevel nodes children level → HasChildren old children →
    AreParted nodes old children low high level cut

-- the new root breaks no rule at its level, has the two slots as children, parted by the separator, and takes one more separator
pub record IsTallRoot (nodes left right : ℕ) (separator : List ℕ) (level : ℕ) : Type 0 where
  pub none : node_fault nodes (node_of (tall_root_words left right separator level)) (node_of (tall_root_words left right separator level)) level None None ≡ None
  pub room : needed (map child_entry (root_children left right separator)) ≤ INNER_LIMIT
  pub two : AreTwo (children_told (node_of (tall_root_words left right separator level))) left right separator

abbrev pub RootsStandAtLevels : Type 0
RootsStandAtLevels =
    (nodes left right level : ℕ) (separator : List ℕ) → nodes ≤ MAX_NODES → left < nodes → right < nodes → IsKey separator → 0 < level → level < MAX_LEVELS → IsTallRoot nodes left right separator level

-- the words of an inner node are read as its children, each in a slot of a memory, which make a node between its bounds; and they
-- take as many words as its status says
pub record IsReadNode (nodes : ℕ) (words : List ℕ) (low high : Option (List ℕ)) : Type 0 where
  pub readable : IsReadableInner words
  pub each : All IsChild (children_in words)
  pub low_bound : IsBound low
  pub high_bound : IsBound high
  pub list : IsChildList (children_in words) low high
  pub has : HasChildren (node_of words) (children_in words)
  pub slots : (j : ℕ) (d : Child) → j < length (children_in words) → (slice_index_or (children_in words) j d).slot < nodes
  pub taken : child_words (children_in words) ≡ (status (slice_index words STATUS_AT)).count + (status (slice_index words STATUS_AT)).block
  pub room : child_words (children_in words) ≤ SHARED_WORDS

abbrev pub ReadNodesHaveChildren : Type 0
ReadNodesHaveChildren =
    (nodes : ℕ) (raw : ℕ → ℕ) (words : List ℕ) (level : ℕ) (low high : Option (List ℕ)) → nodes ≤ MAX_NODES → 0 < level → length words ≡ NODE_WORDS → node_fault nodes raw (node_of words) level low high ≡ None → IsReadNode nodes words low high
