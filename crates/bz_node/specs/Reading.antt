-- What the words of a node say: its status, its metadata, and the visible records of a leaf.
use Rattle.std.specs.Prelude.{◌≡◌, ◌≢◌, ℕ, ◌+◌, ◌-◌, ◌^◌, ◌<◌, ◌≤◌, ◌==◌, if◌then◌else◌, Option, Some, None, List, [], ◌∷◌, map, take, drop, slice_index, slice_range, IsSome}
use Rattle.std.specs.List.{sum_by, flat_map, range_with_len}
use Rattle.std.specs.List.Sorted.{IsPermutation}
use Rattle.bz_key.specs.Packing.{packed_len, unpacked, unpacked_key, unpacked_payload}
use Rattle.bz_layout.specs.declared.sizes.TheConstants.{NODE_WORDS, STATUS_AT, HEADER_AT, HIGH_FENCE_AT, META_AT, SHARED_WORDS}
use Rattle.bz_word.specs.Statuses.{status, IsStatusWord}
use Rattle.bz_word.specs.Headers.{header, IsHeaderWord}
use Rattle.bz_word.specs.Metas.{meta, extent, IsMetaWord}
use Rattle.bz_node.specs.Records.{AreRising, keys_of}
use Rattle.bz_node.specs.declared.child.Child.{Child}
use Rattle.bz_word.specs.declared.meta.Extent.{Extent}
use Rattle.bz_word.specs.declared.meta.Meta.{Meta}
use Rattle.bz_word.specs.declared.meta.Meta.TheVariants.{Visible}

-- how many metadata words are in use
abbrev pub count_in : List ℕ → ℕ
count_in words = (status (slice_index words STATUS_AT)).count

-- how many words of the block are in use
abbrev pub block_in : List ℕ → ℕ
block_in words = (status (slice_index words STATUS_AT)).block

-- what the metadata word at a place says
abbrev pub meta_in : List ℕ → ℕ → Meta
meta_in words i = meta (slice_index words (META_AT + i))

-- what the metadata words in use say, in their order
abbrev pub metas_in : List ℕ → List Meta
metas_in words = map meta (take (count_in words) (drop META_AT words))

-- so many words of a node from a place on
abbrev pub part : List ℕ → ℕ → ℕ → List ℕ
part words at count = slice_range words at (at + count)

-- where a record's payload, or its pointer, begins
abbrev pub payload_at : Extent → ℕ
payload_at e = e.offset + packed_len e.key

-- the bytes of a record besides its key
abbrev pub payload_len : Extent → ℕ
payload_len e = e.total - e.key

-- the words of a record's key and of its payload
abbrev pub key_part : List ℕ → Extent → List ℕ
key_part words e = part words e.offset (packed_len e.key)

abbrev pub payload_part : List ℕ → Extent → List ℕ
payload_part words e = part words (payload_at e) (packed_len (payload_len e))

-- the key and the payload of a leaf's record
abbrev pub pair_in : List ℕ → Extent → List ℕ × List ℕ
pair_in words e = (unpacked e.key (key_part words e), unpacked (payload_len e) (payload_part words e))

-- the record that a metadata word makes visible, if it makes one so
abbrev pub shown : List ℕ → Meta → List (List ℕ × List ℕ)
shown words (Visible e) = pair_in words e ∷ []
shown words _ = []

-- the visible records of a leaf, in the order of their metadata words
abbrev pub pairs_in : List ℕ → List (List ℕ × List ℕ)
pairs_in words = flat_map (shown words) (metas_in words)

-- how many words of the block a record takes
abbrev pub extent_words : Extent → ℕ
extent_words e = packed_len e.key + packed_len (payload_len e)

-- the words that a record takes with its metadata word, where it is visible
abbrev pub words_shown : Meta → ℕ
words_shown (Visible e) = 1 + extent_words e
words_shown _ = 0

-- the words that the visible records of a leaf take
abbrev pub live_in : List ℕ → ℕ
live_in words = sum_by words_shown (metas_in words)

-- a node whose status and metadata words in use are plain
pub record IsReadable (words : List ℕ) : Type 0 where
  pub status : IsStatusWord (slice_index words STATUS_AT)
  pub room : count_in words ≤ SHARED_WORDS
  pub metas : (i : ℕ) → i < count_in words → IsMetaWord (slice_index words (META_AT + i))

-- a visible record lies within the node, and its words are the plain packing of a key and of a payload
pub record HasPair (words : List ℕ) (e : Extent) : Type 0 where
  pub inside : payload_at e + packed_len (payload_len e) ≤ NODE_WORDS
  pub key : IsSome (unpacked_key e.key (key_part words e))
  pub payload : IsSome (unpacked_payload (payload_len e) (payload_part words e))

-- a leaf whose words are plain. Its visible records, sorted or not, fit a node and have different keys;
-- nothing is asked of the records that are reserved, deleted or dead
pub record IsReadableLeaf (words : List ℕ) : Type 0 where
  pub node : IsReadable words
  pub live : live_in words ≤ SHARED_WORDS
  pub pairs : (i : ℕ) (e : Extent) → i < count_in words → meta_in words i ≡ Visible e → HasPair words e
  pub distinct : (i j : ℕ) (e f : Extent) → i < j → j < count_in words → meta_in words i ≡ Visible e → meta_in words j ≡ Visible f → (pair_in words e).0 ≢ (pair_in words f).0

-- the record of the metadata word at a place, where it has one
abbrev pub extent_in : List ℕ → ℕ → Extent
extent_in words i = extent (slice_index words (META_AT + i))

-- the key of an inner node's record: a record with no key has none
abbrev pub low_in : List ℕ → Extent → Option (List ℕ)
low_in words e = if e.key == 0 then None else Some (unpacked e.key (key_part words e))

-- the child of the record at a place of an inner node: the pointer is the slot plus 1
abbrev pub child_in : List ℕ → ℕ → Child
child_in words i =
    let e = extent_in words i in
    record { low = low_in words e; slot = slice_index words (payload_at e) - 1 }

-- the children of an inner node, in the order of its records
abbrev pub children_in : List ℕ → List Child
children_in words = map (child_in words) (range_with_len 0 (count_in words))

-- a record of an inner node lies within the node, and its words are the plain packing of a key, if it has
-- one, and a pointer
pub record HasChild (words : List ℕ) (e : Extent) : Type 0 where
  pub inside : payload_at e + 1 ≤ NODE_WORDS
  pub key : e.key ≢ 0 → IsSome (unpacked_key e.key (key_part words e))
  pub pointer : 1 ≤ slice_index words (payload_at e)
  pub slot : slice_index words (payload_at e) ≤ 2 ^ 16

-- an inner node whose words are plain: each record is a visible one
pub record IsReadableInner (words : List ℕ) : Type 0 where
  pub node : IsReadable words
  pub visible : (i : ℕ) → i < count_in words → meta_in words i ≡ Visible (extent_in words i)
  pub children : (i : ℕ) → i < count_in words → HasChild words (extent_in words i)

-- how many bytes the high fence has, and the words of their packing
abbrev pub high_len : List ℕ → ℕ
high_len words = (header (slice_index words HEADER_AT)).high

abbrev pub high_part : List ℕ → List ℕ
high_part words = part words HIGH_FENCE_AT (packed_len (high_len words))

-- the high fence: one of no bytes is none
abbrev pub high_in : List ℕ → Option (List ℕ)
high_in words = if high_len words == 0 then None else Some (unpacked (high_len words) (high_part words))

-- a node whose header is plain, and whose high fence, if it has one, is the plain packing of a key
pub record HasHighFence (words : List ℕ) : Type 0 where
  pub header : IsHeaderWord (slice_index words HEADER_AT)
  pub key : high_len words ≢ 0 → IsSome (unpacked_key (high_len words) (high_part words))

-- a list has these records and no others, each as often, in the order of their keys
pub record AreInKeyOrder (records sorted : List (List ℕ × List ℕ)) : Type 0 where
  pub same : IsPermutation records sorted
  pub rising : AreRising (keys_of sorted)
