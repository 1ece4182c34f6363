-- The parent and a neighbour of a leaf, read word by word: what they are where their statuses are found again.
use Rattle.std.specs.Prelude.{◌≡◌, ℕ, ◌^◌, ◌<◌, ◌≤◌, ◌⊎◌, true, List, Option, None, length, slice_index}
use Rattle.bz_layout.specs.declared.limits.TheConstants.{MAX_NODES}
use Rattle.bz_layout.specs.declared.sizes.TheConstants.{NODE_WORDS, STATUS_AT}
use Rattle.bz_slotted.specs.Readers.{count_of, child_of, found_of}
use Rattle.bz_slotted.specs.ReadingLaws.{node_of, ReadsAsChildren}
use Rattle.bz_slotted.specs.Rules.{node_fault}
use Rattle.bz_content.specs.Restructures.{children_of}
use Rattle.bz_task.specs.Instant.{words, form_at, is_inside}
use Rattle.bz_task.specs.Scene.{Past, Scene, IsScene, here}
use Rattle.bz_task.specs.declared.path.Link.{Link}
use Rattle.bz_split.specs.BelowSplits.{AreLinksDown}
use Rattle.bz_gaps.specs.FreeWords.{IsFree}
use Rattle.bz_merge.specs.Merges.{low_in, high_in, WasLeafOnce}

-- word i of slot k was this at a moment from m on
pub record WasWord (k i v m : ℕ) (p : Past) : Type 0 where
  pub moment : ℕ
  pub order : m ≤ moment
  pub now : moment ≤ p.now
  pub word : words p.config (p.at moment) k i ≡ v

-- of the words of a node word i is the one of slot k at a moment from m on; or it is free, and 0
abbrev pub WasReadOrFree : (k i m : ℕ) (read : List ℕ) (p : Past) → Type 0
WasReadOrFree k i m read p = WasWord k i (slice_index read i) m p ⊎ (IsFree (node_of read) i × (slice_index read i ≡ 0))

-- the words of slot k before a place were read but for the free ones, the status at moment m and the others from then on
pub record WereRead (k m status place : ℕ) (read : List ℕ) (p : Past) : Type 0 where
  pub size : length read ≡ NODE_WORDS
  pub first : slice_index read STATUS_AT ≡ status
  pub rest : (i : ℕ) → 0 < i → i < place → WasReadOrFree k i m read p

-- at moment m slot k had these words, which break no rule at its level between its bounds, and can be read as children
pub record WasParentNode (k m : ℕ) (read : List ℕ) (p : Past) : Type 0 where
  pub raw : ℕ → ℕ
  pub level : ℕ
  pub low : Option (List ℕ)
  pub high : Option (List ℕ)
  pub few : p.config.nodes ≤ MAX_NODES
  pub size : length read ≡ NODE_WORDS
  pub inner : 0 < level
  pub none : node_fault p.config.nodes raw (node_of read) level low high ≡ None
  pub reads : ReadsAsChildren read
  pub were : words p.config (p.at m) k ≡ node_of read
  pub level_is : (form_at p.config (p.at m)).level k ≡ level
  pub low_is : (form_at p.config (p.at m)).low k ≡ low
  pub high_is : (form_at p.config (p.at m)).high k ≡ high
  pub reached : (j : ℕ) → j < count_of (node_of read) → (p.at m).reached (child_of (node_of read) j) ≡ true

-- child i of the words is in this slot, and no other
pub record IsChildAt (read : List ℕ) (slot i : ℕ) : Type 0 where
  pub within : i < count_of (node_of read)
  pub there : child_of (node_of read) i ≡ slot
  pub only : (j : ℕ) → j < count_of (node_of read) → child_of (node_of read) j ≡ slot → j ≡ i

-- where all words of the parent were read but for the free ones, and its status is found again, they are those of the moment of the
-- status, and tell where the leaf is
abbrev pub ParentsReadWere : Type 0
ParentsReadWere =
    (s : Scene) (upper lower : Link) (read : List ℕ) → IsScene s → (links : AreLinksDown upper lower s.past) → WasLeafOnce lower.slot s.past → (here s).value lower.guard ≡ lower.status →
    WereRead upper.slot links.guard.guarded lower.status NODE_WORDS read s.past → WasParentNode upper.slot links.guard.guarded read s.past × IsChildAt read lower.slot links.under.child.child

-- slot c was a leaf of the tree at moment m, between these bounds
pub record StoodBetween (c m : ℕ) (low high : Option (List ℕ)) (p : Past) : Type 0 where
  pub since : p.since ≤ m
  pub now : m ≤ p.now
  pub slot : c < p.config.nodes
  pub inside : is_inside p.config (p.at m) c ≡ true
  pub leaf : (form_at p.config (p.at m)).level c ≡ 0
  pub low_is : (form_at p.config (p.at m)).low c ≡ low
  pub high_is : (form_at p.config (p.at m)).high c ≡ high

-- as child j of a parent with these words it stood between these
abbrev pub StoodAsChild : (k g : ℕ) (read : List ℕ) (p : Past) → WasParentNode k g read p → ℕ → ℕ → ℕ → Type 0
StoodAsChild k g read p parent c j m = StoodBetween c m (low_in (children_of (node_of read)) parent.low j) (high_in (children_of (node_of read)) parent.high j) p

-- then it hung from slot k, as its child j
pub record HungFrom (c k j m : ℕ) (p : Past) : Type 0 where
  pub up : (form_at p.config (p.at m)).up c ≡ k
  pub index : (form_at p.config (p.at m)).index c ≡ j

-- while the parent's status is as it was read, its children stand in the tree as leaves, each at its place below the parent
abbrev pub ChildrenStand : Type 0
ChildrenStand =
    (s : Scene) (upper lower : Link) (read : List ℕ) (c j : ℕ) → IsScene s → (links : AreLinksDown upper lower s.past) → WasLeafOnce lower.slot s.past → (here s).value lower.guard ≡ lower.status →
    (parent : WasParentNode upper.slot links.guard.guarded read s.past) → j < count_of (node_of read) → child_of (node_of read) j ≡ c → StoodAsChild upper.slot links.guard.guarded read s.past parent c j s.past.now × HungFrom c upper.slot j s.past.now s.past

-- a leaf as it was read
pub record SeenLeaf : Type 0 where
  pub slot : ℕ
  pub status : ℕ
  pub image : List ℕ

-- it was a leaf of the tree at moment m, with this status; and its words are a leaf between its bounds, and say of each key what it
-- said
pub record WasSeen (l : SeenLeaf) (m : ℕ) (low high : Option (List ℕ)) (p : Past) : Type 0 where
  pub stood : StoodBetween l.slot m low high p
  pub status : words p.config (p.at m) l.slot STATUS_AT ≡ l.status
  pub plain : l.status < 2 ^ 61
  pub whole : node_fault p.config.nodes (node_of l.image) (node_of l.image) 0 low high ≡ None
  pub says : (key : List ℕ) → found_of (words p.config (p.at m) l.slot) key ≡ found_of (node_of l.image) key
  pub size : length l.image ≡ NODE_WORDS

-- where a leaf stood at a moment between the load of its status and the next one, which found it again, the words that were read
-- after the first are those of that moment
abbrev pub LeavesReadWere : Type 0
LeavesReadWere =
    (s : Scene) (l : SeenLeaf) (n m : ℕ) (low high : Option (List ℕ)) → IsScene s → s.past.since ≤ n → n ≤ m → (s.past.at n).reached l.slot ≡ true → words s.past.config (s.past.at n) l.slot STATUS_AT ≡ l.status →
    l.status < 2 ^ 61 → WereRead l.slot n l.status NODE_WORDS l.image s.past → StoodBetween l.slot m low high s.past → words s.past.config (here s) l.slot STATUS_AT ≡ l.status → WasSeen l m low high s.past

-- at a moment two leaves hung side by side from one node, as its children i and j; and the second one said then what was read of it
pub record HungBeside (own i : ℕ) (other : SeenLeaf) (j : ℕ) (p : Past) : Type 0 where
  pub moment : ℕ
  pub parent : ℕ
  pub low : Option (List ℕ)
  pub high : Option (List ℕ)
  pub stood : StoodBetween own moment low high p
  pub hung : HungFrom own parent i moment p
  pub other_low : Option (List ℕ)
  pub other_high : Option (List ℕ)
  pub other_seen : WasSeen other moment other_low other_high p
  pub other_hung : HungFrom other.slot parent j moment p
