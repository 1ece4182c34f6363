-- What is read from a node made whole: what it was made from.
use Rattle.std.specs.Prelude.{◌≡◌, ℕ, ◌<◌, ◌≤◌, ◌^◌, ◌+◌, List, length, map, All, Option, slice_index}
use Rattle.bz_layout.specs.declared.sizes.TheConstants.{NODE_WORDS, STATUS_AT, HEADER_AT, LOW_FENCE_AT, HIGH_FENCE_AT, FENCE_WORDS, META_AT, SHARED_WORDS}
use Rattle.bz_word.specs.Statuses.{status}
use Rattle.bz_word.specs.Headers.{header}
use Rattle.bz_word.specs.declared.meta.Meta.TheVariants.{Visible}
use Rattle.bz_node.specs.declared.child.Child.{Child}
use Rattle.bz_node.specs.Layout.{Entry, fence_words, needed, made_status, made_header}
use Rattle.bz_node.specs.Records.{IsPair, IsBound, IsChild, pair_entry, child_entry, leaf_words, inner_words, keys_of, AreRising, IsLeafList}
use Rattle.bz_node.specs.Reading.{count_in, block_in, meta_in, extent_in, extent_words, part, pairs_in, live_in, children_in, IsReadableLeaf, IsReadableInner, AreInKeyOrder}

-- the words before the metadata, read back
pub record HasFront (words : List ℕ) (level : ℕ) (low high : Option (List ℕ)) (entries : List Entry) : Type 0 where
  pub size : length words ≡ NODE_WORDS
  pub status : status (slice_index words STATUS_AT) ≡ made_status entries
  pub header : header (slice_index words HEADER_AT) ≡ made_header level low high entries
  pub low_fence : part words LOW_FENCE_AT FENCE_WORDS ≡ fence_words low
  pub high_fence : part words HIGH_FENCE_AT FENCE_WORDS ≡ fence_words high

-- every record is visible and lies in the block, each directly or further below the one before; the words
-- between metadata and block are 0
pub record HasPlaces (words : List ℕ) : Type 0 where
  pub visible : (i : ℕ) → i < count_in words → meta_in words i ≡ Visible (extent_in words i)
  pub inside : (i : ℕ) → i < count_in words → NODE_WORDS ≤ (extent_in words i).offset + block_in words
  pub ends : (i : ℕ) → i < count_in words → (extent_in words i).offset + extent_words (extent_in words i) ≤ NODE_WORDS
  pub below : (i j : ℕ) → i < j → j < count_in words → (extent_in words j).offset + extent_words (extent_in words j) ≤ (extent_in words i).offset
  pub free : (i : ℕ) → META_AT + count_in words ≤ i → i + block_in words < NODE_WORDS → slice_index words i ≡ 0

-- a leaf made whole is readable, and has the records, fences and lengths that it was made of
pub record ReadsAsLeaf (words : List ℕ) (made_of : List (List ℕ × List ℕ)) (low high : Option (List ℕ)) : Type 0 where
  pub front : HasFront words 0 low high (map pair_entry made_of)
  pub places : HasPlaces words
  pub readable : IsReadableLeaf words
  pub records : pairs_in words ≡ made_of
  pub live : live_in words ≡ needed (map pair_entry made_of)

abbrev pub LeavesAreRead : Type 0
LeavesAreRead =
    (records : List (List ℕ × List ℕ)) (low high : Option (List ℕ)) → All IsPair records → IsBound low → IsBound high → IsLeafList records low high →
    needed (map pair_entry records) ≤ SHARED_WORDS → ReadsAsLeaf (leaf_words records low high) records low high

-- an inner node made whole is readable, and has the children, fences and level that it was made of
pub record ReadsAsInner (words : List ℕ) (made_of : List Child) (low high : Option (List ℕ)) (level : ℕ) : Type 0 where
  pub front : HasFront words level low high (map child_entry made_of)
  pub places : HasPlaces words
  pub readable : IsReadableInner words
  pub children : children_in words ≡ made_of

abbrev pub InnerNodesAreRead : Type 0
InnerNodesAreRead =
    (children : List Child) (low high : Option (List ℕ)) (level : ℕ) → All IsChild children → IsBound low → IsBound high → level < 2 ^ 8 →
    needed (map child_entry children) ≤ SHARED_WORDS → ReadsAsInner (inner_words children low high level) children low high level

-- records whose keys rise are the one list of them in the order of their keys
abbrev pub OrderIsUnique : Type 0
OrderIsUnique = (records sorted : List (List ℕ × List ℕ)) → AreRising (keys_of records) → AreInKeyOrder records sorted → sorted ≡ records
