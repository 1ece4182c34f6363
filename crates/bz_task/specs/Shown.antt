-- Which words of a node readers read, and when a node is the same to them.
use Rattle.std.specs.Prelude.{◌≡◌, ◌≢◌, ℕ, ◌+◌, ◌<◌, ◌≤◌, ◌⊎◌, true}
use Rattle.bz_layout.specs.Addresses.{node_address}
use Rattle.bz_layout.specs.declared.config.Config.{Config}
use Rattle.bz_layout.specs.declared.sizes.TheConstants.{NODE_WORDS, STATUS_AT, META_AT, ROOT_AT, ROOT_STATUS_AT}
use Rattle.bz_content.specs.FromSlotted.Page.{visible, extent_of, page}
use Rattle.bz_content.specs.FromSlotted.Records.{weight, pointer_at}
use Rattle.bz_task.specs.Instant.{Instant, words}

-- place i is one of the block words of record j, which is visible
pub record IsOfRecord (n : ℕ → ℕ) (i j : ℕ) : Type 0 where
  pub counted : j < (page n).count
  pub visible : visible ((page n).meta j) ≡ true
  pub from : (extent_of ((page n).meta j)).offset ≤ i
  pub to : i < (extent_of ((page n).meta j)).offset + weight ((page n).meta j)

-- place i is status, header, fence or metadata word, a free word between metadata and block, a word of an inner node, or
-- one of a visible record
abbrev pub IsShown : (ℕ → ℕ) → ℕ → Type 0
IsShown n i = (i < META_AT + (page n).count) ⊎ ((i + (page n).block < NODE_WORDS) ⊎ ((0 < (page n).level) ⊎ ((j : ℕ) × IsOfRecord n i j)))

-- a word of a node to which a link has led, which readers read
pub record IsShownWord (c : Config) (x : Instant) (a : ℕ) : Type 0 where
  pub slot : ℕ
  pub place : ℕ
  pub address : a ≡ node_address c slot + place
  pub within : place < NODE_WORDS
  pub reached : x.reached slot ≡ true
  pub shown : IsShown (words c x slot) place

-- an address whose value readers read: the root pointer, the root status, or such a word
abbrev pub IsRead : Config → Instant → ℕ → Type 0
IsRead c x a = (a ≡ ROOT_AT) ⊎ ((a ≡ ROOT_STATUS_AT) ⊎ IsShownWord c x a)

-- the words that readers read are as they were
abbrev pub SameWords : (n m : ℕ → ℕ) → Type 0
SameWords n m = (i : ℕ) → IsShown n i → m i ≡ n i

abbrev pub SameShownNode : Config → Instant → Instant → ℕ → Type 0
SameShownNode c x y k = SameWords (words c x k) (words c y k)

-- the same but for the status, of which count and block are as they were
pub record SameRecords (n m : ℕ → ℕ) : Type 0 where
  pub count : (page m).count ≡ (page n).count
  pub block : (page m).block ≡ (page n).block
  pub words : (i : ℕ) → i ≢ STATUS_AT → IsShown n i → m i ≡ n i

-- of an inner node nothing is another but the status, of which count and block are as they were, and child pointers
pub record SameSeparators (n m : ℕ → ℕ) : Type 0 where
  pub count : (page m).count ≡ (page n).count
  pub block : (page m).block ≡ (page n).block
  pub front : (i : ℕ) → i ≢ STATUS_AT → i < META_AT + (page n).count → m i ≡ n i
  pub words : (i : ℕ) → META_AT + (page n).count ≤ i → ((j : ℕ) → j < (page n).count → i ≢ pointer_at (page n) j) → m i ≡ n i

-- root pointer and root status are as they were
pub record SameRoot (x y : Instant) : Type 0 where
  pub pointer : y.value ROOT_AT ≡ x.value ROOT_AT
  pub status : y.value ROOT_STATUS_AT ≡ x.value ROOT_STATUS_AT
