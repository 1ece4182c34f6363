-- What follows of lawful steps for a node that has been reached, and of what tasks have learnt.
use Rattle.std.specs.Prelude.{◌≡◌, ◌≢◌, ℕ, ◌+◌, ◌-◌, ◌^◌, ◌<◌, ◌≤◌, true, false, List, Option, None}
use Rattle.bz_layout.specs.Addresses.{node_address}
use Rattle.bz_layout.specs.Slots.{FreeSlots}
use Rattle.bz_layout.specs.declared.config.Config.{Config}
use Rattle.bz_layout.specs.declared.sizes.TheConstants.{NODE_WORDS, STATUS_AT, HEADER_AT, META_AT, ROOT_AT}
use Rattle.bz_content.specs.FromSlotted.Readers.{found_of}
use Rattle.bz_content.specs.FromSlotted.Records.{pointer_at}
use Rattle.bz_content.specs.FromSlotted.Rules.{node_fault}
use Rattle.bz_word.specs.declared.entry.Entry.{Entry}
use Rattle.bz_content.specs.Image.{node}
use Rattle.bz_content.specs.Resolving.{resolve}
use Rattle.bz_task.specs.Good.{IsGood}
use Rattle.bz_task.specs.Instant.{Instant, words, durable, page_at, form_at, is_inside}
use Rattle.bz_task.specs.Outcomes.{IsPath, IsView, IsKeyView}
use Rattle.bz_task.specs.OwnActs.{gained}
use Rattle.bz_task.specs.Scene.{Past, Scene, Continues, HasFilled}
use Rattle.bz_task.specs.Shown.{IsShown, SameWords, SameShownNode, SameRecords, SameSeparators}
use Rattle.bz_task.specs.Steps.{IsHistory}
use Rattle.bz_task.specs.Swaps.{swapped, SwapsTo}
use Rattle.bz_task.specs.declared.path.Path.{Path}
use Rattle.bz_task.specs.declared.view.KeyView.{KeyView}
use Rattle.bz_task.specs.declared.view.LeafView.{LeafView}

-- moments of a time, in their order
pub record AreMoments (first last m i : ℕ) : Type 0 where
  pub since : first ≤ m
  pub order : m ≤ i
  pub until : i ≤ last

-- while its status has the value that was read, a reached node is as it was, at every moment between
abbrev pub NodesStay : Type 0
NodesStay =
    (c : Config) (at : ℕ → Instant) (first last m i j k : ℕ) → IsHistory c at first last → AreMoments first last m j → m ≤ i → i ≤ j →
    (at m).reached k ≡ true → words c (at j) k STATUS_AT ≡ words c (at m) k STATUS_AT → SameShownNode c (at m) (at i) k

-- once it is frozen, it stays as it was
abbrev pub FrozenNodesStay : Type 0
FrozenNodesStay =
    (c : Config) (at : ℕ → Instant) (first last m j k : ℕ) → IsHistory c at first last → AreMoments first last m j →
    (at m).reached k ≡ true → (page_at c (at m) k).frozen ≡ true → SameShownNode c (at m) (at j) k

-- of an inner node separators and children's places stay
abbrev pub SeparatorsStay : Type 0
SeparatorsStay =
    (c : Config) (at : ℕ → Instant) (first last m j k : ℕ) → IsHistory c at first last → AreMoments first last m j →
    (at m).reached k ≡ true → 0 < (page_at c (at m) k).level → SameSeparators (words c (at m) k) (words c (at j) k)

-- header and fences stay, and the node stays reached
pub record KeepsFront (c : Config) (x y : Instant) (k : ℕ) : Type 0 where
  pub reached : y.reached k ≡ true
  pub front : (i : ℕ) → i ≢ STATUS_AT → i < META_AT → words c y k i ≡ words c x k i

abbrev pub FrontsStay : Type 0
FrontsStay =
    (c : Config) (at : ℕ → Instant) (first last m j k : ℕ) → IsHistory c at first last → AreMoments first last m j → (at m).reached k ≡ true →
    KeepsFront c (at m) (at j) k

-- so its level and its range are the same whenever it is in the tree
pub record SamePlace (c : Config) (x y : Instant) (k : ℕ) : Type 0 where
  pub level : (form_at c y).level k ≡ (form_at c x).level k
  pub low : (form_at c y).low k ≡ (form_at c x).low k
  pub high : (form_at c y).high k ≡ (form_at c x).high k

abbrev pub RangesStay : Type 0
RangesStay =
    (c : Config) (at : ℕ → Instant) (first last m j k : ℕ) → IsHistory c at first last → AreMoments first last m j → k ≢ c.nodes →
    is_inside c (at m) k ≡ true → is_inside c (at j) k ≡ true → SamePlace c (at m) (at j) k

-- what a node of the tree is later, it was, but for the status, at some moment at which it was still in the tree
pub record WasInside (c : Config) (at : ℕ → Instant) (m j k : ℕ) : Type 0 where
  pub was : ℕ
  pub since : m ≤ was
  pub until : was ≤ j
  pub inside : is_inside c (at was) k ≡ true
  pub same : SameRecords (words c (at was) k) (words c (at j) k)

abbrev pub NodesWereInside : Type 0
NodesWereInside =
    (c : Config) (at : ℕ → Instant) (first last m j k : ℕ) → IsHistory c at first last → AreMoments first last m j → k ≢ c.nodes →
    is_inside c (at m) k ≡ true → WasInside c at m j k

-- the root is in the tree, and holds every key
pub record HasRoot (c : Config) (x : Instant) (k : ℕ) : Type 0 where
  pub pointer : x.value ROOT_AT ≡ k + 1
  pub slot : k < c.nodes
  pub inside : is_inside c x k ≡ true
  pub reached : x.reached k ≡ true
  pub low : (form_at c x).low k ≡ None
  pub high : (form_at c x).high k ≡ None

abbrev pub RootsAreReached : Type 0
RootsAreReached = (c : Config) (x : Instant) → IsGood c x → HasRoot c x (x.value ROOT_AT - 1)

-- a node of the tree has a lawful header, with the level at which it stands
pub record HasHeader (c : Config) (x : Instant) (k : ℕ) : Type 0 where
  pub header : words c x k HEADER_AT < 2 ^ 32
  pub level : (page_at c x k).level ≡ (form_at c x).level k

abbrev pub HeadersSayTheLevel : Type 0
HeadersSayTheLevel = (c : Config) (x : Instant) (k : ℕ) → IsGood c x → k ≢ c.nodes → is_inside c x k ≡ true → HasHeader c x k

-- where the records are the same, so are the places that readers read
abbrev pub SameRecordsShowTheSame : Type 0
SameRecordsShowTheSame = (n m : ℕ → ℕ) → SameRecords n m → (i : ℕ) → (IsShown n i → IsShown m i) × (IsShown m i → IsShown n i)

-- a word of a slot before and after a swap: as reads answer it, as it resolves, and as it stands
pub record SlotWord (c : Config) (entries : List Entry) (x y : Instant) (k i : ℕ) : Type 0 where
  pub before : words c x k i ≡ x.value (node_address c k + i)
  pub resolved : durable c x k i ≡ resolve x.image (node_address c k + i)
  pub value : words c y k i ≡ swapped entries x.value (node_address c k + i)
  pub durable_value : durable c y k i ≡ swapped entries (resolve x.image) (node_address c k + i)

-- the words of a slot before and after a swap; past its last there is nothing
pub record SlotWords (c : Config) (entries : List Entry) (x y : Instant) (k : ℕ) : Type 0 where
  pub within : (i : ℕ) → i < NODE_WORDS → SlotWord c entries x y k i
  pub past : (i : ℕ) → NODE_WORDS ≤ i → words c y k i ≡ words c x k i
  pub durable_past : (i : ℕ) → NODE_WORDS ≤ i → durable c y k i ≡ durable c x k i
  pub raw : (i : ℕ) → node c y.image k i ≡ node c x.image k i

abbrev pub SwapsShowInSlots : Type 0
SwapsShowInSlots = (c : Config) (entries : List Entry) (x y : Instant) (k : ℕ) → SwapsTo c entries x y → SlotWords c entries x y k

-- a leaf of the tree: what it is as a slotted page
pub record IsLeafInTree (c : Config) (x : Instant) (k : ℕ) : Type 0 where
  pub slot : k < c.nodes
  pub inside : is_inside c x k ≡ true
  pub reached : x.reached k ≡ true
  pub leaf : (form_at c x).level k ≡ 0
  pub flat : (page_at c x k).level ≡ 0
  pub whole : node_fault c.nodes (node c x.image k) (durable c x k) 0 ((form_at c x).low k) ((form_at c x).high k) ≡ None

-- words that are those of a leaf to its readers are a leaf by themselves, and say of each key what the leaf says
pub record SaysAlike (nodes : ℕ) (n m : ℕ → ℕ) (low high : Option (List ℕ)) : Type 0 where
  pub whole : node_fault nodes m m 0 low high ≡ None
  pub found : (key : List ℕ) → found_of m key ≡ found_of n key

abbrev pub SeenLeavesAreWhole : Type 0
SeenLeavesAreWhole =
    (nodes : ℕ) (raw n m : ℕ → ℕ) (low high : Option (List ℕ)) → node_fault nodes raw n 0 low high ≡ None → SameWords n m → SaysAlike nodes n m low high

-- what stands where, of a leaf of the tree
abbrev pub LeavesAreInTrees : Type 0
LeavesAreInTrees = (c : Config) (x : Instant) (k : ℕ) → IsGood c x → k < c.nodes → is_inside c x k ≡ true → (form_at c x).level k ≡ 0 → IsLeafInTree c x k

-- the child of a node of the tree is in the tree
abbrev pub ChildrenAreInTrees : Type 0
ChildrenAreInTrees =
    (c : Config) (x : Instant) (k i to : ℕ) → IsGood c x → k ≢ c.nodes → is_inside c x k ≡ true → 0 < (page_at c x k).level → i < (page_at c x k).count →
    words c x k (pointer_at (page_at c x k) i) ≡ to + 1 → is_inside c x to ≡ true

-- a leaf of the tree whose status was read, and was not frozen, is in the tree and as it was while it has this status
pub record StillLeaf (c : Config) (x y : Instant) (k : ℕ) : Type 0 where
  pub leaf : IsLeafInTree c y k
  pub same : SameShownNode c x y k

abbrev pub ThawedLeavesStay : Type 0
ThawedLeavesStay =
    (c : Config) (at : ℕ → Instant) (first last m j k : ℕ) → IsHistory c at first last → AreMoments first last m j → k < c.nodes →
    is_inside c (at m) k ≡ true → (form_at c (at m)).level k ≡ 0 → (page_at c (at m) k).frozen ≡ false → words c (at j) k STATUS_AT ≡ words c (at m) k STATUS_AT →
    StillLeaf c (at m) (at j) k

-- paths and views stay what they are
abbrev pub PathsStay : Type 0
PathsStay = (key : List ℕ) (path : Path) (p q : Past) → IsPath key path p → Continues p q → IsPath key path q

abbrev pub ViewsStay : Type 0
ViewsStay = (key : List ℕ) (view : LeafView) (p q : Past) → IsView key view p → Continues p q → IsView key view q

abbrev pub KeyViewsStay : Type 0
KeyViewsStay = (key : List ℕ) (view : KeyView) (p q : Past) → IsKeyView key view p → Continues p q → IsKeyView key view q

-- where no slot is taken, all that were taken have been stored into
abbrev pub NothingIsGained : Type 0
NothingIsGained = (s : Scene) (free : FreeSlots) → HasFilled s → HasFilled (gained s free free)
