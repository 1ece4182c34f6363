-- What swaps and private stores change in a node. Before, its words are `n` and as they stand `r`; after, `m`
-- and `s`. A swap names the status and at most one metadata word, so that the block stands as it stood.
use Rattle.std.specs.Prelude.{◌≡◌, ◌≢◌, ℕ, ◌+◌, ◌^◌, ◌<◌, ◌≤◌, ◌⊎◌, true, false, List, Option}
use Rattle.bz_layout.specs.declared.sizes.TheConstants.{NODE_WORDS, STATUS_AT, META_AT, SHARED_WORDS}
use Rattle.bz_tree.specs.Order.{is_within}
use Rattle.bz_word.specs.declared.meta.Meta.{Meta}
use Rattle.bz_slotted.specs.Page.{meta_of, visible, held, used, extent_of, page}
use Rattle.bz_slotted.specs.Records.{key_in, key_at, weight, shown}
use Rattle.bz_slotted.specs.Whole.{IsLeafRecord, IsInBlock, IsPlainKey, IsPlainPayload, Disjoint}

-- metadata word j says something else, and the delete size follows: publication, delete, the second swap of an
-- update
pub record Rewrites (r s n m : ℕ → ℕ) (lo hi : Option (List ℕ)) (j : ℕ) (mt : Meta) : Type 0 where
  pub others : (i : ℕ) → i ≢ STATUS_AT → i ≢ META_AT + j → m i ≡ n i
  pub raw : (i : ℕ) → META_AT + (page n).count ≤ i → s i ≡ r i
  pub status : m STATUS_AT < 2 ^ 61
  pub count : (page m).count ≡ (page n).count
  pub block : (page m).block ≡ (page n).block
  pub dead : (page m).dead + shown mt ≡ (page n).dead + shown ((page n).meta j)
  pub inside : j < (page n).count
  pub said : meta_of (m (META_AT + j)) ≡ mt
  pub taken : used mt ≡ true
  pub lengths : IsLeafRecord mt
  pub in_block : held mt ≡ true → IsInBlock (page n) mt
  pub apart : (i : ℕ) → i < (page n).count → i ≢ j → held mt ≡ true → held ((page n).meta i) ≡ true → Disjoint ((page n).meta i) mt
  -- a record that becomes visible is plain, and is not sorted, or has the place and the key of a visible one
  pub key : visible mt ≡ true → IsPlainKey r n (extent_of mt)
  pub payload : visible mt ≡ true → IsPlainPayload r n (extent_of mt)
  pub tail : visible mt ≡ true → ((page n).sorted ≤ j) ⊎ ((visible ((page n).meta j) ≡ true) × (key_in n (extent_of mt) ≡ key_at (page n) j))
  pub range : visible mt ≡ true → is_within (key_in n (extent_of mt)) lo hi ≡ true
  pub distinct : (i : ℕ) → i < (page n).count → i ≢ j → visible mt ≡ true → visible ((page n).meta i) ≡ true → key_at (page n) i ≢ key_in n (extent_of mt)

-- the next metadata word takes the next words of the block for a record that is not visible: reservation
pub record Reserves (r s n m : ℕ → ℕ) (mt : Meta) : Type 0 where
  pub others : (i : ℕ) → i ≢ STATUS_AT → i ≢ META_AT + (page n).count → m i ≡ n i
  pub raw : (i : ℕ) → META_AT + (page n).count < i → s i ≡ r i
  pub status : m STATUS_AT < 2 ^ 61
  pub count : (page m).count ≡ (page n).count + 1
  pub block : (page m).block ≡ (page n).block + weight mt
  pub dead : (page m).dead ≡ (page n).dead + weight mt
  pub room : (page n).count + 1 + (page n).block + weight mt ≤ SHARED_WORDS
  pub said : meta_of (m (META_AT + (page n).count)) ≡ mt
  pub holds : held mt ≡ true
  pub hidden : visible mt ≡ false
  pub taken : used mt ≡ true
  pub lengths : IsLeafRecord mt
  pub place : (extent_of mt).offset + weight mt + (page n).block ≡ NODE_WORDS

-- the status alone changes, and the block takes so many words more, which are dead: the first swap of an update
pub record Grows (r s n m : ℕ → ℕ) (words : ℕ) : Type 0 where
  pub others : (i : ℕ) → i ≢ STATUS_AT → m i ≡ n i
  pub raw : (i : ℕ) → META_AT + (page n).count ≤ i → s i ≡ r i
  pub status : m STATUS_AT < 2 ^ 61
  pub count : (page m).count ≡ (page n).count
  pub block : (page m).block ≡ (page n).block + words
  pub dead : (page m).dead ≡ (page n).dead + words
  pub room : (page n).count + (page n).block + words ≤ SHARED_WORDS

-- the status alone changes, and in it the stamp or the frozen bit alone: freeze
pub record Restamps (r s n m : ℕ → ℕ) : Type 0 where
  pub others : (i : ℕ) → i ≢ STATUS_AT → m i ≡ n i
  pub raw : (i : ℕ) → META_AT + (page n).count ≤ i → s i ≡ r i
  pub status : m STATUS_AT < 2 ^ 61
  pub count : (page m).count ≡ (page n).count
  pub block : (page m).block ≡ (page n).block
  pub dead : (page m).dead ≡ (page n).dead

-- words of the block that no visible record holds change: the private stores of a record to come
pub record StoresBeside (r s n m : ℕ → ℕ) : Type 0 where
  pub others : (i : ℕ) → i + (page n).block < NODE_WORDS → m i ≡ n i
  pub records : (j i : ℕ) → j < (page n).count → visible ((page n).meta j) ≡ true → (extent_of ((page n).meta j)).offset ≤ i → i < (extent_of ((page n).meta j)).offset + weight ((page n).meta j) → (m i ≡ n i) × (s i ≡ r i)
