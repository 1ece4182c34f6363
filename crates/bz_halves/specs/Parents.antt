-- A parent of which one child is parted in two: its children, and the node that is made of them.
use Rattle.std.specs.Prelude.{◌≡◌, ℕ, ◌+◌, ◌<◌, ◌≤◌, ◌==◌, if◌then◌else◌, List, length, map, slice_set, slice_index_or, All, Option, Some, None}
use Rattle.std.specs.List.{insert}
use Rattle.bz_key.specs.Bytes.{IsKey}
use Rattle.bz_key.specs.Packing.{packed}
use Rattle.bz_layout.specs.declared.limits.TheConstants.{MAX_NODES}
use Rattle.bz_layout.specs.declared.sizes.TheConstants.{NODE_WORDS, SHARED_WORDS}
use Rattle.bz_layout.specs.declared.thresholds.TheConstants.{MAX_LEVELS}
use Rattle.bz_node.specs.Layout.{bound_of, needed}
use Rattle.bz_node.specs.Reading.{children_in, IsReadableInner}
use Rattle.bz_node.specs.Records.{child_entry, inner_words, IsChild, IsBound, IsChildList, IsAbove, IsBelow}
use Rattle.bz_node.specs.declared.child.Child.{Child}
use Rattle.bz_slotted.specs.FromShape.Slots.{Children, Wider}
use Rattle.bz_slotted.specs.Readers.{count_of, child_of, key_of}
use Rattle.bz_slotted.specs.ReadingLaws.{node_of, IsInnerOf}
use Rattle.bz_slotted.specs.Rules.{node_fault}

-- child i, or one of no place
abbrev pub child_at : List Child → ℕ → Child
child_at children i = slice_index_or children i (record { low = None; slot = 0 })

-- the bounds between which child i of a parent between these fences stands
abbrev pub low_of : List Child → Option (List ℕ) → ℕ → Option (List ℕ)
low_of children low i = if i == 0 then low else (child_at children i).low

abbrev pub high_of : List Child → Option (List ℕ) → ℕ → Option (List ℕ)
high_of children high i = if i + 1 == length children then high else (child_at children (i + 1)).low

-- child i is parted: the left half stands in its place, with its lower bound, and the right half directly after it, from the
-- separator on
abbrev pub parted : List Child → ℕ → ℕ → ℕ → List ℕ → List Child
parted children i left right separator = insert (slice_set children i (record { low = (child_at children i).low; slot = left })) (i + 1) (record { low = Some separator; slot = right })

-- the words of the parent that has these
abbrev pub parted_words : List Child → ℕ → ℕ → ℕ → List ℕ → Option (List ℕ) → Option (List ℕ) → ℕ → List ℕ
parted_words children i left right separator low high level = inner_words (parted children i left right separator) low high level

-- the children make a node between these fences, and the separator is a key between the bounds of child i, and is not its lower
-- one
pub record MayPart (children : List Child) (low high : Option (List ℕ)) (i : ℕ) (separator : List ℕ) : Type 0 where
  pub each : All IsChild children
  pub low_bound : IsBound low
  pub high_bound : IsBound high
  pub list : IsChildList children low high
  pub within : i < length children
  pub key : IsKey separator
  pub above : IsAbove (low_of children low i) separator
  pub below : IsBelow (high_of children high i) separator

-- then the parted children make one too, and need one metadata word, a pointer and the separator's words more
pub record ArePartedChildren (children : List Child) (low high : Option (List ℕ)) (i left right : ℕ) (separator : List ℕ) : Type 0 where
  pub list : IsChildList (parted children i left right separator) low high
  pub count : length (parted children i left right separator) ≡ length children + 1
  pub words : needed (map child_entry (parted children i left right separator)) ≡ needed (map child_entry children) + 2 + length (packed separator)

abbrev pub ChildrenMayBeParted : Type 0
ChildrenMayBeParted =
    (children : List Child) (low high : Option (List ℕ)) (i left right : ℕ) (separator : List ℕ) → MayPart children low high i separator → ArePartedChildren children low high i left right separator

-- the words of a node tell these children
pub record HasChildren (n : ℕ → ℕ) (children : List Child) : Type 0 where
  pub count : count_of n ≡ length children
  pub child : (j : ℕ) → j < length children → child_of n j ≡ (child_at children j).slot
  pub key : (j : ℕ) → j < length children → key_of n j ≡ bound_of (child_at children j).low

abbrev pub children_told : (ℕ → ℕ) → Children
children_told n = record { count = count_of n; child = child_of n; key = key_of n }

-- the parent that has the parted children breaks no rule at this level between these fences, and has the children of one whose
-- words tell them, but for child i, in whose place are the halves
pub record IsPartedParent (nodes : ℕ) (old : ℕ → ℕ) (children : List Child) (low high : Option (List ℕ)) (level i left right : ℕ) (separator : List ℕ) : Type 0 where
  pub inner : IsInnerOf nodes (node_of (parted_words children i left right separator low high level)) (parted children i left right separator) level low high
  pub wider : Wider (children_told old) (children_told (node_of (parted_words children i left right separator low high level))) i left right separator

-- where there is room for one more, and all slots are those of a memory
pub record HasRoomToPart (nodes : ℕ) (children : List Child) (level left right : ℕ) (separator : List ℕ) : Type 0 where
  pub few : nodes ≤ MAX_NODES
  pub slots : (j : ℕ) (d : Child) → j < length children → (slice_index_or children j d).slot < nodes
  pub left_slot : left < nodes
  pub right_slot : right < nodes
  pub inner : 0 < level
  pub few_levels : level < MAX_LEVELS
  pub room : needed (map child_entry children) + 2 + length (packed separator) ≤ SHARED_WORDS

abbrev pub ParentsOfHalvesAreWhole : Type 0
ParentsOfHalvesAreWhole =
    (nodes : ℕ) (old : ℕ → ℕ) (children : List Child) (low high : Option (List ℕ)) (level i left right : ℕ) (separator : List ℕ) → MayPart children low high i separator → HasRoomToPart nodes children level left right separator →
    HasChildren old children → IsPartedParent nodes old children low high level i left right separator

-- the words of an inner node are read as its children, each in a slot of a memory, and one of them may be parted by this key
pub record IsPartable (nodes : ℕ) (words : List ℕ) (low high : Option (List ℕ)) (i : ℕ) (separator : List ℕ) : Type 0 where
  pub readable : IsReadableInner words
  pub may : MayPart (children_in words) low high i separator
  pub has : HasChildren (node_of words) (children_in words)
  pub slots : (j : ℕ) (d : Child) → j < length (children_in words) → (slice_index_or (children_in words) j d).slot < nodes

-- a key between the bounds of a child, which is not the lower one, parts it, where the node breaks no rule
abbrev pub ReadChildrenMayBeParted : Type 0
ReadChildrenMayBeParted =
    (nodes : ℕ) (raw : ℕ → ℕ) (words : List ℕ) (level : ℕ) (low high : Option (List ℕ)) (i : ℕ) (separator : List ℕ) → nodes ≤ MAX_NODES → 0 < level → length words ≡ NODE_WORDS → node_fault nodes raw (node_of words) level low high ≡ None →
    i < length (children_in words) → IsKey separator → IsAbove (low_of (children_in words) low i) separator → IsBelow (high_of (children_in words) high i) separator → IsPartable nodes words low high i separator
