-- The parent of a leaf that is split, read word by word: while its status is as it was, these are the words of one moment, and the
-- leaf's place may be parted there.
use Rattle.std.specs.Prelude.{◌≡◌, ℕ, ◌<◌, ◌≤◌, ◌⊎◌, true, List, Option, None, length, slice_index}
use Rattle.bz_gaps.specs.FreeWords.{IsFree}
use Rattle.bz_key.specs.Bytes.{IsKey}
use Rattle.bz_layout.specs.declared.limits.TheConstants.{MAX_NODES}
use Rattle.bz_layout.specs.declared.sizes.TheConstants.{NODE_WORDS, STATUS_AT}
use Rattle.bz_layout.specs.declared.thresholds.TheConstants.{MAX_LEVELS}
use Rattle.bz_node.specs.Reading.{children_in}
use Rattle.bz_node.specs.Records.{IsAbove, IsBelow}
use Rattle.bz_slotted.specs.ReadingLaws.{node_of}
use Rattle.bz_slotted.specs.Rules.{node_fault}
use Rattle.bz_halves.specs.Parents.{child_at, IsPartable}
use Rattle.bz_task.specs.Instant.{words, form_at, is_inside}
use Rattle.bz_task.specs.Scene.{Past, Scene, IsScene, here}
use Rattle.bz_task.specs.declared.path.Link.{Link}
use Rattle.bz_renew.specs.FrozenLeaves.{WasFrozenLeaf}
use Rattle.bz_split.specs.BelowSplits.{AreLinksDown}

-- word i of slot k was this at a moment from m on
pub record WasWord (k i v m : ℕ) (p : Past) : Type 0 where
  pub moment : ℕ
  pub order : m ≤ moment
  pub now : moment ≤ p.now
  pub word : words p.config (p.at moment) k i ≡ v

-- of the words of a node word i is the one of slot k at a moment from m on; or it is free, and 0
abbrev pub WasReadOrFree : (k i m : ℕ) (read : List ℕ) (p : Past) → Type 0
WasReadOrFree k i m read p = WasWord k i (slice_index read i) m p ⊎ (IsFree (node_of read) i × (slice_index read i ≡ 0))

-- the status of slot k was this, and the words after it, before a place, were read from moment m on, but for the free ones; and none
-- from there on
pub record WereRead (k m status place : ℕ) (read : List ℕ) (p : Past) : Type 0 where
  pub size : length read ≡ NODE_WORDS
  pub first : slice_index read STATUS_AT ≡ status
  pub rest : (i : ℕ) → 0 < i → i < place → WasReadOrFree k i m read p
  pub blank : (i : ℕ) → place ≤ i → slice_index read i ≡ 0

-- these are the words of an inner node that breaks no rule at this level between these bounds; child i, which is in this slot, may
-- be parted by this key, and no other child is in that slot
pub record IsParentOf (nodes slot : ℕ) (sep read : List ℕ) (level i : ℕ) (low high : Option (List ℕ)) : Type 0 where
  pub raw : ℕ → ℕ
  pub few : nodes ≤ MAX_NODES
  pub size : length read ≡ NODE_WORDS
  pub inner : 0 < level
  pub lowest : level < MAX_LEVELS
  pub none : node_fault nodes raw (node_of read) level low high ≡ None
  pub partable : IsPartable nodes read low high i sep
  pub there : (child_at (children_in read) i).slot ≡ slot
  pub only : (j : ℕ) → j < length (children_in read) → (child_at (children_in read) j).slot ≡ slot → j ≡ i

-- at moment m the parent was in the tree, had these words, and stood at a level between bounds; the lower link's slot was child i
pub record WasParent (upper lower : Link) (m i : ℕ) (sep read : List ℕ) (p : Past) : Type 0 where
  pub level : ℕ
  pub low : Option (List ℕ)
  pub high : Option (List ℕ)
  pub parent : IsParentOf p.config.nodes lower.slot sep read level i low high
  pub reached : (p.at m).reached upper.slot ≡ true
  pub inside : is_inside p.config (p.at m) upper.slot ≡ true
  pub were : words p.config (p.at m) upper.slot ≡ node_of read
  pub level_is : (form_at p.config (p.at m)).level upper.slot ≡ level
  pub low_is : (form_at p.config (p.at m)).low upper.slot ≡ low
  pub high_is : (form_at p.config (p.at m)).high upper.slot ≡ high

-- where all words but the free ones were read after the status, and the status is found again, they are those of the moment of the
-- status; and a key between the bounds that the leaf had when it was frozen, which is not the lower one, parts it there
abbrev pub ReadParentsWere : Type 0
ReadParentsWere =
    (s : Scene) (upper lower : Link) (m : ℕ) (sep read : List ℕ) → IsScene s → (links : AreLinksDown upper lower s.past) → WasFrozenLeaf lower.slot m s.past →
    (here s).value lower.guard ≡ lower.status → WereRead upper.slot links.guard.guarded lower.status NODE_WORDS read s.past →
    IsKey sep → IsAbove ((form_at s.past.config (s.past.at m)).low lower.slot) sep → IsBelow ((form_at s.past.config (s.past.at m)).high lower.slot) sep →
    WasParent upper lower links.guard.guarded links.under.child.child sep read s.past
