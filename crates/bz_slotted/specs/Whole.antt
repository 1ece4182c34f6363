-- The rules of a node as facts, by the number of the record: what no fault means.
use Rattle.std.specs.Prelude.{◌≡◌, ◌≢◌, ℕ, ◌+◌, ◌^◌, ◌<◌, ◌≤◌, ◌⊎◌, true, false, List, Option, Some, None, IsSome}
use Rattle.bz_key.specs.Packing.{packed_len, unpacked_key, unpacked_payload}
use Rattle.bz_key.specs.declared.limits.TheConstants.{KEY_BYTES, PAYLOAD_BYTES}
use Rattle.bz_layout.specs.declared.sizes.TheConstants.{NODE_WORDS, STATUS_AT, HEADER_AT, LOW_FENCE_AT, HIGH_FENCE_AT, FENCE_WORDS, META_AT, SHARED_WORDS}
use Rattle.bz_layout.specs.declared.thresholds.TheConstants.{MAX_LEVELS}
use Rattle.bz_node.specs.Reading.{payload_len}
use Rattle.bz_tree.specs.Order.{is_before, is_above, is_below, is_within}
use Rattle.bz_word.specs.declared.meta.Extent.{Extent}
use Rattle.bz_word.specs.declared.meta.Meta.{Meta}
use Rattle.bz_slotted.specs.Page.{words_at, visible, held, used, extent_of, Page}
use Rattle.bz_slotted.specs.Records.{key_words, payload_words, key_at, weight, live_block, pointer_at}
use Rattle.bz_slotted.specs.Rules.{POINTER_BYTES}

-- the header unpacks, and its level is this one, which a tree may have
pub record IsAtLevel (p : Page) (l : ℕ) : Type 0 where
  pub header : p.word HEADER_AT < 2 ^ 32
  pub level : p.level ≡ l
  pub lowest : l < MAX_LEVELS

-- the fence of so many bytes at a place is this bound
abbrev pub IsFence : (ℕ → ℕ) → ℕ → ℕ → Option (List ℕ) → Type 0
IsFence n at len None = (len ≡ 0) × ((i : ℕ) → i < FENCE_WORDS → n (at + i) ≡ 0)
IsFence n at len (Some key) = unpacked_key len (words_at n at (packed_len len)) ≡ Some key

pub record HasFences (p : Page) (lo hi : Option (List ℕ)) : Type 0 where
  pub low : IsFence p.word LOW_FENCE_AT p.low lo
  pub high : IsFence p.word HIGH_FENCE_AT p.high hi

-- status, metadata and block agree
pub record IsFilled (p : Page) : Type 0 where
  pub status : p.word STATUS_AT < 2 ^ 61
  pub room : p.count + p.block ≤ SHARED_WORDS
  pub sorted : p.sorted ≤ p.count
  pub free : (i : ℕ) → META_AT + p.count ≤ i → i + p.block < NODE_WORDS → p.word i ≡ 0
  pub dead : p.dead + live_block p.meta p.count ≡ p.block

-- an inner node is not frozen and not empty, none of it is dead, all of it is sorted
pub record IsSettled (p : Page) : Type 0 where
  pub thawed : p.frozen ≡ false
  pub some : 0 < p.count
  pub none_dead : p.dead ≡ 0
  pub all_sorted : p.sorted ≡ p.count

-- the lengths of a leaf's record
pub record IsLeafRecord (m : Meta) : Type 0 where
  pub some : 0 < (extent_of m).key
  pub short : (extent_of m).key ≤ KEY_BYTES
  pub more : (extent_of m).key ≤ (extent_of m).total
  pub payload : (extent_of m).total ≤ (extent_of m).key + PAYLOAD_BYTES

-- the lengths of an inner node's record: a key, which the first has not, and a pointer
pub record IsInnerRecord (j : ℕ) (m : Meta) : Type 0 where
  pub pointer : (extent_of m).total ≡ (extent_of m).key + POINTER_BYTES
  pub first : j ≡ 0 → (extent_of m).key ≡ 0
  pub some : 0 < j → 0 < (extent_of m).key
  pub short : (extent_of m).key ≤ KEY_BYTES

-- a record lies in the block
pub record IsInBlock (p : Page) (m : Meta) : Type 0 where
  pub starts : NODE_WORDS ≤ (extent_of m).offset + p.block
  pub ends : (extent_of m).offset + weight m ≤ NODE_WORDS

-- two records have no word in common
abbrev pub Disjoint : Meta → Meta → Type 0
Disjoint m k = ((extent_of m).offset + weight m ≤ (extent_of k).offset) ⊎ ((extent_of k).offset + weight k ≤ (extent_of m).offset)

-- key, or payload, stand as they are resolved, and are a plain packing
pub record IsPlainKey (raw n : ℕ → ℕ) (e : Extent) : Type 0 where
  pub stands : key_words raw e ≡ key_words n e
  pub packs : IsSome (unpacked_key e.key (key_words n e))

pub record IsPlainPayload (raw n : ℕ → ℕ) (e : Extent) : Type 0 where
  pub stands : payload_words raw e ≡ payload_words n e
  pub packs : IsSome (unpacked_payload (payload_len e) (payload_words n e))

-- sorted visible keys rise
abbrev pub KeysRise : Page → Type 0
KeysRise p = (i j : ℕ) → i < j → j < p.sorted → visible (p.meta i) ≡ true → visible (p.meta j) ≡ true → is_before (key_at p i) (key_at p j) ≡ true

-- visible keys differ
abbrev pub KeysDiffer : Page → Type 0
KeysDiffer p = (i j : ℕ) → i < p.count → j < p.count → i ≢ j → visible (p.meta i) ≡ true → visible (p.meta j) ≡ true → key_at p i ≢ key_at p j

-- records that hold words have none in common
abbrev pub RecordsAreApart : Page → Type 0
RecordsAreApart p = (i j : ℕ) → i < p.count → j < p.count → i ≢ j → held (p.meta i) ≡ true → held (p.meta j) ≡ true → Disjoint (p.meta i) (p.meta j)

-- a leaf between these bounds breaks no rule
pub record Whole (raw : ℕ → ℕ) (p : Page) (lo hi : Option (List ℕ)) : Type 0 where
  pub level : IsAtLevel p 0
  pub fences : HasFences p lo hi
  pub filled : IsFilled p
  pub used : (j : ℕ) → j < p.count → used (p.meta j) ≡ true
  pub lengths : (j : ℕ) → j < p.count → IsLeafRecord (p.meta j)
  pub inside : (j : ℕ) → j < p.count → held (p.meta j) ≡ true → IsInBlock p (p.meta j)
  pub apart : RecordsAreApart p
  pub key : (j : ℕ) → j < p.count → visible (p.meta j) ≡ true → IsPlainKey raw p.word (extent_of (p.meta j))
  pub payload : (j : ℕ) → j < p.count → visible (p.meta j) ≡ true → IsPlainPayload raw p.word (extent_of (p.meta j))
  pub order : KeysRise p
  pub range : (j : ℕ) → j < p.count → visible (p.meta j) ≡ true → is_within (key_at p j) lo hi ≡ true
  pub distinct : KeysDiffer p

-- a child pointer is one of so many slots
pub record IsPointer (nodes pointer : ℕ) : Type 0 where
  pub some : 0 < pointer
  pub slot : pointer ≤ nodes

-- an inner node at a level between these bounds breaks no rule
pub record WholeInner (nodes : ℕ) (raw : ℕ → ℕ) (p : Page) (l : ℕ) (lo hi : Option (List ℕ)) : Type 0 where
  pub level : IsAtLevel p l
  pub fences : HasFences p lo hi
  pub filled : IsFilled p
  pub settled : IsSettled p
  pub shows : (j : ℕ) → j < p.count → visible (p.meta j) ≡ true
  pub lengths : (j : ℕ) → j < p.count → IsInnerRecord j (p.meta j)
  pub inside : (j : ℕ) → j < p.count → IsInBlock p (p.meta j)
  pub apart : (i j : ℕ) → i < p.count → j < p.count → i ≢ j → Disjoint (p.meta i) (p.meta j)
  pub key : (j : ℕ) → 0 < j → j < p.count → IsPlainKey raw p.word (extent_of (p.meta j))
  pub rise : (i j : ℕ) → i < j → j < p.count → is_before (key_at p i) (key_at p j) ≡ true
  pub above : (j : ℕ) → 0 < j → j < p.count → is_above (key_at p j) lo ≡ true
  pub below : (j : ℕ) → 0 < j → j < p.count → is_below (key_at p j) hi ≡ true
  pub links : (i : ℕ) → i < p.count → IsPointer nodes (p.word (pointer_at p i))
