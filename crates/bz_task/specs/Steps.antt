-- The lawful steps: all that an act, an eviction or a mark may do to the nodes. This is one definition for every worker.
use Rattle.std.specs.Prelude.{◌≡◌, ◌≢◌, ℕ, ◌+◌, ◌-◌, ◌%◌, ◌^◌, ◌<◌, ◌≤◌, ◌⊎◌, true, false}
use Rattle.bz_layout.specs.declared.config.Config.{Config}
use Rattle.bz_layout.specs.declared.sizes.TheConstants.{STATUS_AT, META_AT, SHARED_WORDS, ROOT_AT}
use Rattle.bz_content.specs.FromSlotted.Page.{page}
use Rattle.bz_word.specs.Statuses.{status, status_word}
use Rattle.bz_task.specs.Good.{IsGood}
use Rattle.bz_task.specs.Instant.{Instant, words, page_at}
use Rattle.bz_task.specs.Shown.{SameShownNode, SameRecords, SameSeparators, SameRoot}

-- the stamp after the next change
abbrev pub next_stamp : ℕ → ℕ
next_stamp stamp = (stamp + 1) % 2 ^ 32

-- a node's status word, frozen, with the next stamp
abbrev pub frozen_word : ℕ → ℕ
frozen_word st = status_word (record (status st) { frozen = true; stamp = next_stamp (status st).stamp })

-- a swap changed a node, whose words were n and are m
pub record Moves (n m : ℕ → ℕ) : Type 0 where
  pub thawed : (page n).frozen ≡ false
  pub stamp : (page m).stamp ≡ next_stamp (page n).stamp
  -- header and fences stay
  pub front : (i : ℕ) → i ≢ STATUS_AT → i < META_AT → m i ≡ n i
  -- a freeze changes the status alone
  pub freeze : (page m).frozen ≡ true → SameRecords n m
  -- of an inner node child pointers alone are changed in place
  pub inner : 0 < (page n).level → SameSeparators n m
  -- records are added and never taken away, and the block never shrinks; while no record is added, a free word stays free
  pub count : (page n).count ≤ (page m).count
  pub block : (page n).block ≤ (page m).block
  pub spare : (page m).count ≡ (page n).count → (page n).count + (page n).block < SHARED_WORDS → (page m).count + (page m).block < SHARED_WORDS

abbrev pub NodeMoves : Config → Instant → Instant → ℕ → Type 0
NodeMoves c x y k = Moves (words c x k) (words c y k)

-- the root is the one that it was, or that one is frozen
abbrev pub ReplacedRootIsFrozen : Config → Instant → Instant → Type 0
ReplacedRootIsFrozen c x y = (y.value ROOT_AT ≡ x.value ROOT_AT) ⊎ ((page_at c y (x.value ROOT_AT - 1)).frozen ≡ true)

-- no swap takes effect: a read, an ask, a fence, an eviction, an act of a swap, a private store
pub record IsQuiet (c : Config) (x y : Instant) : Type 0 where
  pub effects : y.effects ≡ x.effects
  pub reached : (k : ℕ) → y.reached k ≡ x.reached k
  pub nodes : (k : ℕ) → x.reached k ≡ true → SameShownNode c x y k
  pub root : SameRoot x y

-- a swap takes effect: each reached node stays or is changed, and a root that is replaced is frozen
pub record IsEffect (c : Config) (x y : Instant) : Type 0 where
  pub effects : y.effects ≡ x.effects + 1
  pub reached : (k : ℕ) → x.reached k ≡ true → y.reached k ≡ true
  pub nodes : (k : ℕ) → x.reached k ≡ true → SameShownNode c x y k ⊎ NodeMoves c x y k
  pub root : ReplacedRootIsFrozen c x y

abbrev pub IsStep : Config → Instant → Instant → Type 0
IsStep c x y = IsQuiet c x y ⊎ IsEffect c x y

-- the memory at each moment of a time: good, and a lawful step from the one before
pub record IsHistory (c : Config) (at : ℕ → Instant) (first last : ℕ) : Type 0 where
  pub good : (m : ℕ) → first ≤ m → m ≤ last → IsGood c (at m)
  pub step : (m : ℕ) → first ≤ m → m < last → IsStep c (at m) (at (m + 1))
