-- What a search knows of a leaf whose words it reads, and what it ends with.
use Rattle.std.specs.Prelude.{◌≡◌, ◌≢◌, ℕ, ◌+◌, ◌-◌, ◌<◌, ◌≤◌, ◌&&◌, not, bytes_eq, if◌then◌else◌, Bool, true, List, Some, None, slice_index}
use Rattle.bz_layout.specs.declared.sizes.TheConstants.{META_AT}
use Rattle.bz_node.specs.Reading.{payload_at}
use Rattle.bz_slotted.specs.Page.{visible, meta_of, Page, page}
use Rattle.bz_slotted.specs.Readers.{found_of}
use Rattle.bz_slotted.specs.Records.{key_in, key_at}
use Rattle.bz_slotted.specs.Tests.{every}
use Rattle.bz_search.specs.Searches.{dead_met as sorted_met, Searches}
use Rattle.bz_search.specs.declared.probe.Probe.{Probe}
use Rattle.bz_task.specs.Outcomes.{IsRecordOf, payload_of}
use Rattle.bz_task.specs.declared.view.Found.{Found}
use Rattle.bz_find.specs.Words.{lies}
use Rattle.bz_find.specs.Steps.{index_of}
use Rattle.bz_find.specs.declared.search.Search.{Search}
use Rattle.bz_find.specs.declared.search.Spot.{Spot}
use Rattle.bz_find.specs.declared.search.Spot.TheVariants.{Tail, Sorted}
use Rattle.bz_find.specs.declared.search.Step.{Step}
use Rattle.bz_find.specs.declared.search.Step.TheVariants.{Meta, Word, Payload, Done}

-- the record is visible and has the key
abbrev pub has_key : Page → List ℕ → ℕ → Bool
has_key p key i = visible (p.meta i) && bytes_eq (key_at p i) key

-- the key is that of a record after the sorted ones
abbrev pub in_tail : Page → List ℕ → Bool
in_tail p key = not (every (p.count - p.sorted) (λ i. not (has_key p key (p.sorted + i))))

-- how many metadata words among those of the sorted records a search for a key meets that name no visible record: where the key
-- is that of a record after the sorted ones, it meets none of them
unfoldable pub dead_met : (ℕ → ℕ) → List ℕ → ℕ
dead_met n key = if in_tail (page n) key then 0 else sorted_met n key

-- the record is not visible, or has another key
abbrev pub IsOther : (ℕ → ℕ) → List ℕ → ℕ → Type 0
IsOther n key i = visible ((page n).meta i) ≡ true → key_at (page n) i ≢ key

-- the counts are the leaf's
pub record HasCounts (n : ℕ → ℕ) (t : Search) : Type 0 where
  pub count : t.count ≡ (page n).count
  pub sorted : t.sorted ≡ (page n).sorted

-- the key is none of those of the records after this one
pub record KnowsTail (n : ℕ → ℕ) (t : Search) (j : ℕ) : Type 0 where
  pub counts : HasCounts n t
  pub none : t.found ≡ None
  pub passed : (i : ℕ) → j < i → i < (page n).count → IsOther n t.key i

-- nor of those after the sorted ones, and these are searched by halving
pub record KnowsSorted (n : ℕ → ℕ) (t : Search) (r : Probe) : Type 0 where
  pub counts : HasCounts n t
  pub none : t.found ≡ None
  pub passed : (i : ℕ) → (page n).sorted ≤ i → i < (page n).count → IsOther n t.key i
  pub searches : Searches n t.key t.dead (Some r)

abbrev pub KnowsSpot : (ℕ → ℕ) → Search → Spot → Type 0
KnowsSpot n t (Tail j) = KnowsTail n t j
KnowsSpot n t (Sorted r) = KnowsSorted n t r

-- the first words from a place on were read, so many
abbrev pub HasRead : (ℕ → ℕ) → Search → ℕ → ℕ → Type 0
HasRead n t from i = (k : ℕ) → k < i → slice_index t.words k ≡ n (from + k)

pub record KnowsKey (n : ℕ → ℕ) (t : Search) (at : Spot) (w i : ℕ) : Type 0 where
  pub spot : KnowsSpot n t at
  pub meta : n (META_AT + index_of at) ≡ w
  pub read : HasRead n t (lies w).offset i

-- the record at an index, with this metadata word, is the key's
pub record KnowsRecord (n : ℕ → ℕ) (t : Search) (j w : ℕ) : Type 0 where
  pub counts : HasCounts n t
  pub counted : j < (page n).count
  pub meta : n (META_AT + j) ≡ w
  pub visible : visible (meta_of w) ≡ true
  pub same : key_in n (lies w) ≡ t.key
  pub met : t.dead ≡ dead_met n t.key

pub record KnowsPayload (n : ℕ → ℕ) (t : Search) (j w i : ℕ) : Type 0 where
  pub of : KnowsRecord n t j w
  pub read : HasRead n t (payload_at (lies w)) i

-- the search has ended with the key's record, or with none where the leaf has none
pub record HasFound (n : ℕ → ℕ) (t : Search) : Type 0 where
  pub counts : HasCounts n t
  pub met : t.dead ≡ dead_met n t.key
  pub says : found_of n t.key ≡ payload_of t.found
  pub shows : (found : Found) → t.found ≡ Some found → IsRecordOf t.key n found

abbrev pub KnowsAt : (ℕ → ℕ) → Search → Step → Type 0
KnowsAt n t (Meta at) = KnowsSpot n t at
KnowsAt n t (Word at w i) = KnowsKey n t at w i
KnowsAt n t (Payload j w i) = KnowsPayload n t j w i
KnowsAt n t Done = HasFound n t

abbrev pub Knows : (ℕ → ℕ) → Search → Type 0
Knows n t = KnowsAt n t t.step
