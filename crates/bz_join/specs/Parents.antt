-- A parent of which two neighbouring children are made one: its children, and the node that is made of them.
use Rattle.std.specs.Prelude.{◌≡◌, ℕ, ◌+◌, ◌<◌, ◌≤◌, List, length, map, slice_set, All, Option, None}
use Rattle.std.specs.List.{remove}
use Rattle.bz_layout.specs.declared.limits.TheConstants.{MAX_NODES}
use Rattle.bz_layout.specs.declared.sizes.TheConstants.{NODE_WORDS, SHARED_WORDS}
use Rattle.bz_layout.specs.declared.thresholds.TheConstants.{MAX_LEVELS}
use Rattle.bz_node.specs.Layout.{needed}
use Rattle.bz_node.specs.Reading.{children_in, IsReadableInner}
use Rattle.bz_node.specs.Records.{child_entry, inner_words, IsChild, IsBound, IsChildList}
use Rattle.bz_node.specs.declared.child.Child.{Child}
use Rattle.bz_tree.specs.Slots.{Wider}
use Rattle.bz_slotted.specs.Readers.{count_of, child_of, key_of}
use Rattle.bz_slotted.specs.ReadingLaws.{node_of, IsInnerOf}
use Rattle.bz_slotted.specs.Rules.{node_fault}
use Rattle.bz_halves.specs.Parents.{child_at, children_told, HasChildren}

-- child i and the one after it are one, which is in this slot and has the lower bound of the first of them
abbrev pub joined : List Child → ℕ → ℕ → List Child
joined children i slot = remove (slice_set children i (record { low = (child_at children i).low; slot = slot })) (i + 1)

-- the words of the parent that has these
abbrev pub joined_parent : List Child → ℕ → ℕ → Option (List ℕ) → Option (List ℕ) → ℕ → List ℕ
joined_parent children i slot low high level = inner_words (joined children i slot) low high level

-- the words are those of an inner node that breaks no rule at this level between these bounds, and has a child after child i
pub record HasTwo (nodes : ℕ) (raw : ℕ → ℕ) (words : List ℕ) (level : ℕ) (low high : Option (List ℕ)) (i : ℕ) : Type 0 where
  pub few : nodes ≤ MAX_NODES
  pub size : length words ≡ NODE_WORDS
  pub inner : 0 < level
  pub none : node_fault nodes raw (node_of words) level low high ≡ None
  pub within : i + 1 < count_of (node_of words)

-- then the children with the two made one make a node between the same bounds, and need no more words than it has; it breaks no
-- rule there, and has the children of the old one but for these two, in whose place is the one
pub record IsJoinedParent (nodes : ℕ) (words : List ℕ) (level : ℕ) (low high : Option (List ℕ)) (i slot : ℕ) : Type 0 where
  pub readable : IsReadableInner words
  pub has : HasChildren (node_of words) (children_in words)
  pub low_bound : IsBound low
  pub high_bound : IsBound high
  pub levels : level < MAX_LEVELS
  pub each : All IsChild (joined (children_in words) i slot)
  pub list : IsChildList (joined (children_in words) i slot) low high
  pub room : needed (map child_entry (joined (children_in words) i slot)) ≤ SHARED_WORDS
  pub inner : IsInnerOf nodes (node_of (joined_parent (children_in words) i slot low high level)) (joined (children_in words) i slot) level low high
  pub child : child_of (node_of (joined_parent (children_in words) i slot low high level)) i ≡ slot
  pub narrower : Wider (children_told (node_of (joined_parent (children_in words) i slot low high level))) (children_told (node_of words)) i (child_of (node_of words) i) (child_of (node_of words) (i + 1)) (key_of (node_of words) (i + 1))

abbrev pub ChildrenJoin : Type 0
ChildrenJoin =
    (nodes : ℕ) (raw : ℕ → ℕ) (words : List ℕ) (level : ℕ) (low high : Option (List ℕ)) (i slot : ℕ) → HasTwo nodes raw words level low high i → slot < nodes → IsJoinedParent nodes words level low high i slot

-- at some level and between some bounds the words are such a node
pub record HasTwoChildren (words : List ℕ) (i slot : ℕ) : Type 0 where
  pub nodes : ℕ
  pub raw : ℕ → ℕ
  pub level : ℕ
  pub low : Option (List ℕ)
  pub high : Option (List ℕ)
  pub two : HasTwo nodes raw words level low high i
  pub slot_within : slot < nodes

-- these are the words of the new parent, at whatever level and between whatever bounds the old one is a node
abbrev pub IsJoinedOf : (words : List ℕ) (i slot : ℕ) → List ℕ → Type 0
IsJoinedOf words i slot image =
    (nodes : ℕ) (raw : ℕ → ℕ) (level : ℕ) (low high : Option (List ℕ)) → node_fault nodes raw (node_of words) level low high ≡ None → image ≡ joined_parent (children_in words) i slot low high level
