-- What is so of the children of two inner nodes that are made one.
use Rattle.std.specs.Prelude.{◌≡◌, ℕ, ◌<◌, ◌≤◌, List, slice_index_or, length, All, Option, Some}
use Rattle.bz_key.specs.Bytes.{IsKey}
use Rattle.bz_layout.specs.declared.limits.TheConstants.{MAX_NODES}
use Rattle.bz_layout.specs.declared.sizes.TheConstants.{SHARED_WORDS}
use Rattle.bz_layout.specs.declared.thresholds.TheConstants.{MAX_LEVELS}
use Rattle.bz_node.specs.Records.{IsChild, IsBound, IsChildList, IsAbove, IsBelow}
use Rattle.bz_node.specs.declared.child.Child.{Child}
use Rattle.bz_tree.specs.Slots.{Halves}
use Rattle.bz_slotted.specs.Readers.{count_of}
use Rattle.bz_slotted.specs.ReadingLaws.{node_of, IsInnerOf}
use Rattle.bz_halves.specs.Parents.{HasChildren, children_told}
use Rattle.bz_parted.specs.Parting.{child_words}
use Rattle.bz_united.specs.Uniting.{united, united_words, words_of_both}

-- the children of two nodes that meet at a key between the outer bounds
pub record AreNeighbours (left right : List Child) (low high : Option (List ℕ)) (sep : List ℕ) : Type 0 where
  pub left_each : All IsChild left
  pub right_each : All IsChild right
  pub low_bound : IsBound low
  pub high_bound : IsBound high
  pub key : IsKey sep
  pub above : IsAbove low sep
  pub below : IsBelow high sep
  pub left_list : IsChildList left low (Some sep)
  pub right_list : IsChildList right (Some sep) high

-- together they make a node between these bounds, and take the words of both and of the key
pub record AreUnited (left right : List Child) (low high : Option (List ℕ)) (sep : List ℕ) : Type 0 where
  pub each : All IsChild (united left right sep)
  pub list : IsChildList (united left right sep) low high
  pub words : child_words (united left right sep) ≡ words_of_both left right sep

abbrev pub ChildrenUnite : Type 0
ChildrenUnite = (left right : List Child) (low high : Option (List ℕ)) (sep : List ℕ) → AreNeighbours left right low high sep → AreUnited left right low high sep

-- at a level of inner nodes, with all slots those of a memory, and room for all
pub record StandTogether (nodes : ℕ) (left right : List Child) (sep : List ℕ) (level : ℕ) : Type 0 where
  pub few : nodes ≤ MAX_NODES
  pub left_slots : (j : ℕ) (d : Child) → j < length left → (slice_index_or left j d).slot < nodes
  pub right_slots : (j : ℕ) (d : Child) → j < length right → (slice_index_or right j d).slot < nodes
  pub inner : 0 < level
  pub lowest : level < MAX_LEVELS
  pub room : words_of_both left right sep ≤ SHARED_WORDS

-- they make a node that breaks no rule, and has the children of two whose words tell these
pub record IsUnitedNode (nodes : ℕ) (l r : ℕ → ℕ) (left right : List Child) (low high : Option (List ℕ)) (sep : List ℕ) (level : ℕ) : Type 0 where
  pub inner : IsInnerOf nodes (node_of (united_words left right sep low high level)) (united left right sep) level low high
  pub halves : Halves (children_told (node_of (united_words left right sep low high level))) (children_told l) (children_told r) (count_of l) sep

abbrev pub UnitedNodesAreInner : Type 0
UnitedNodesAreInner =
    (nodes : ℕ) (l r : ℕ → ℕ) (left right : List Child) (low high : Option (List ℕ)) (sep : List ℕ) (level : ℕ) → AreNeighbours left right low high sep → StandTogether nodes left right sep level → HasChildren l left → HasChildren r right →
    IsUnitedNode nodes l r left right low high sep level
