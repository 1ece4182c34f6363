-- Nodes as lists of words: one that is read, and one made whole.
use Rattle.std.specs.Prelude.{◌≡◌, ℕ, ◌<◌, ◌≤◌, ◌==◌, if◌then◌else◌, List, length, map, slice_index, slice_index_or, All, Option, Some, None}
use Rattle.std.specs.Cmp.Lexicographic.{slice_cmp}
use Rattle.std.specs.FinMap.{find}
use Rattle.std.specs.Ordering.{nat_cmp}
use Rattle.bz_layout.specs.declared.limits.TheConstants.{MAX_NODES}
use Rattle.bz_layout.specs.declared.sizes.TheConstants.{NODE_WORDS, SHARED_WORDS}
use Rattle.bz_layout.specs.declared.thresholds.TheConstants.{MAX_LEVELS}
use Rattle.bz_node.specs.Layout.{bound_of, needed}
use Rattle.bz_node.specs.Reading.{pairs_in, live_in, children_in, high_in, IsReadableLeaf, IsReadableInner, HasHighFence}
use Rattle.bz_node.specs.Records.{pair_entry, child_entry, leaf_words, inner_words, IsPair, IsBound, IsChild, IsLeafList, IsChildList}
use Rattle.bz_node.specs.declared.child.Child.{Child}
use Rattle.bz_slotted.specs.Page.{page}
use Rattle.bz_slotted.specs.Readers.{count_of, child_of, key_of, found_of, live_of}
use Rattle.bz_slotted.specs.Records.{records}
use Rattle.bz_slotted.specs.Rules.{node_fault}

-- a list of words as a node
abbrev pub node_of : List ℕ → ℕ → ℕ
node_of words i = slice_index words i

-- a leaf can be read as pairs; these are its records, and they say of each key what it says
pub record ReadsAsPairs (words : List ℕ) : Type 0 where
  pub readable : IsReadableLeaf words
  pub pairs : pairs_in words ≡ records (page (node_of words))
  pub says : (key : List ℕ) → find (slice_cmp nat_cmp) key (pairs_in words) ≡ found_of (node_of words) key
  pub live : live_in words ≡ live_of (node_of words)

abbrev pub WholeLeavesAreReadable : Type 0
WholeLeavesAreReadable = (nodes : ℕ) (raw : ℕ → ℕ) (words : List ℕ) (lo hi : Option (List ℕ)) → length words ≡ NODE_WORDS → node_fault nodes raw (node_of words) 0 lo hi ≡ None → ReadsAsPairs words

-- child i as the readers say it
abbrev pub child_read : (ℕ → ℕ) → ℕ → Child
child_read n i = record { low = if i == 0 then None else Some (key_of n i); slot = child_of n i }

-- an inner node can be read as children, and these are its children
pub record ReadsAsChildren (words : List ℕ) : Type 0 where
  pub readable : IsReadableInner words
  pub count : length (children_in words) ≡ count_of (node_of words)
  pub children : (i : ℕ) (d : Child) → i < count_of (node_of words) → slice_index_or (children_in words) i d ≡ child_read (node_of words) i

abbrev pub WholeInnersAreReadable : Type 0
WholeInnersAreReadable =
    (nodes : ℕ) (raw : ℕ → ℕ) (words : List ℕ) (l : ℕ) (lo hi : Option (List ℕ)) → nodes ≤ MAX_NODES → 0 < l → length words ≡ NODE_WORDS → node_fault nodes raw (node_of words) l lo hi ≡ None → ReadsAsChildren words

-- the high fence of a node can be read, and is this bound
pub record EndsAt (words : List ℕ) (hi : Option (List ℕ)) : Type 0 where
  pub readable : HasHighFence words
  pub high : high_in words ≡ hi

abbrev pub HighFencesAreRead : Type 0
HighFencesAreRead = (nodes : ℕ) (raw : ℕ → ℕ) (words : List ℕ) (l : ℕ) (lo hi : Option (List ℕ)) → length words ≡ NODE_WORDS → node_fault nodes raw (node_of words) l lo hi ≡ None → EndsAt words hi

-- a leaf breaks no rule between these bounds, and shows these records
pub record IsLeafOf (nodes : ℕ) (n : ℕ → ℕ) (shown : List (List ℕ × List ℕ)) (lo hi : Option (List ℕ)) : Type 0 where
  pub none : node_fault nodes n n 0 lo hi ≡ None
  pub shows : records (page n) ≡ shown
  pub says : (key : List ℕ) → found_of n key ≡ find (slice_cmp nat_cmp) key shown
  pub live : live_of n ≡ needed (map pair_entry shown)

abbrev pub MadeLeavesAreWhole : Type 0
MadeLeavesAreWhole =
    (nodes : ℕ) (shown : List (List ℕ × List ℕ)) (lo hi : Option (List ℕ)) → All IsPair shown → IsBound lo → IsBound hi → IsLeafList shown lo hi → needed (map pair_entry shown) ≤ SHARED_WORDS →
    IsLeafOf nodes (node_of (leaf_words shown lo hi)) shown lo hi

-- an inner node breaks no rule at this level between these bounds, and has these children
pub record IsInnerOf (nodes : ℕ) (n : ℕ → ℕ) (children : List Child) (l : ℕ) (lo hi : Option (List ℕ)) : Type 0 where
  pub none : node_fault nodes n n l lo hi ≡ None
  pub count : count_of n ≡ length children
  pub child : (i : ℕ) (d : Child) → i < length children → child_of n i ≡ (slice_index_or children i d).slot
  pub key : (i : ℕ) (d : Child) → i < length children → key_of n i ≡ bound_of (slice_index_or children i d).low

abbrev pub MadeInnersAreWhole : Type 0
MadeInnersAreWhole =
    (nodes : ℕ) (children : List Child) (l : ℕ) (lo hi : Option (List ℕ)) → All IsChild children → IsBound lo → IsBound hi → IsChildList children lo hi →
    ((i : ℕ) (d : Child) → i < length children → (slice_index_or children i d).slot < nodes) → 0 < l → l < MAX_LEVELS → needed (map child_entry children) ≤ SHARED_WORDS →
    IsInnerOf nodes (node_of (inner_words children lo hi l)) children l lo hi
