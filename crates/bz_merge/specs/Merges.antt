-- The swap of a merge: the link to the parent goes to a new parent, which has one leaf in the place of two neighbours; the guard of
-- that link gets its next stamp, and the old parent is frozen.
use Rattle.std.specs.Prelude.{◌≡◌, ◌≢◌, ℕ, ◌+◌, ◌<◌, ◌≤◌, ◌==◌, if◌then◌else◌, true, false, List, Option, Some}
use Rattle.bz_tree.specs.Order.{is_before}
use Rattle.bz_tree.specs.Slots.{Children, Wider}
use Rattle.bz_slotted.specs.Readers.{child_of, found_of}
use Rattle.bz_slotted.specs.ReadingLaws.{node_of}
use Rattle.bz_content.specs.Restructures.{children_of}
use Rattle.bz_task.specs.Instant.{Instant, words, page_at, form_at, is_inside}
use Rattle.bz_task.specs.Scene.{Past, Scene, IsScene, here}
use Rattle.bz_task.specs.Swaps.{Change, Stand, SwapsTo, IsGoodSwap}
use Rattle.bz_task.specs.declared.path.Link.{Link}
use Rattle.bz_renew.specs.LinkSwaps.{IsFresh}
use Rattle.bz_split.specs.BelowSplits.{AreLinksDown, below_swap}
use Rattle.bz_split.specs.RootSplits.{StandsReady}

-- the bounds of child i of a node between these
abbrev pub low_in : Children → Option (List ℕ) → ℕ → Option (List ℕ)
low_in children low i = if i == 0 then low else Some (children.key i)

abbrev pub high_in : Children → Option (List ℕ) → ℕ → Option (List ℕ)
high_in children high i = if i + 1 == children.count then high else Some (children.key (i + 1))

-- the slot was a leaf of the tree at a moment since the look-up began
pub record WasLeafOnce (k : ℕ) (p : Past) : Type 0 where
  pub moment : ℕ
  pub since : p.since ≤ moment
  pub now : moment ≤ p.now
  pub slot : k < p.config.nodes
  pub inside : is_inside p.config (p.at moment) k ≡ true
  pub leaf : (form_at p.config (p.at moment)).level k ≡ 0

-- the slot was frozen at a moment since the look-up began, and said then of each key what these words say
pub record StoodFrozen (k : ℕ) (image : List ℕ) (p : Past) : Type 0 where
  pub moment : ℕ
  pub since : p.since ≤ moment
  pub now : moment ≤ p.now
  pub reached : (p.at moment).reached k ≡ true
  pub frozen : (page_at p.config (p.at moment) k).frozen ≡ true
  pub says : (key : List ℕ) → found_of (words p.config (p.at moment) k) key ≡ found_of (node_of image) key

-- when its status was read, slot k had the children a and b, one after the other
pub record HadNeighbours (k g i a b : ℕ) (p : Past) : Type 0 where
  pub first : child_of (words p.config (p.at g) k) i ≡ a
  pub second : child_of (words p.config (p.at g) k) (i + 1) ≡ b
  pub counted : i + 1 < (children_of (words p.config (p.at g) k)).count

-- two slots are the worker's own and durable: the new parent, which breaks no rule in the place that the parent had at moment g, and
-- has the parent's children but for the two, in whose place is the leaf; and the leaf, which breaks no rule between the outer bounds
-- of the two, and says of each key what the one of them says that has the key
pub record AreReadyMerged (parent g i a b q c : ℕ) (left right : List ℕ) (s : Scene) : Type 0 where
  pub two : q ≢ c
  pub parent_fresh : IsFresh s q
  pub leaf_fresh : IsFresh s c
  pub parent_whole : StandsReady s q ((form_at s.past.config (s.past.at g)).level parent) ((form_at s.past.config (s.past.at g)).low parent) ((form_at s.past.config (s.past.at g)).high parent)
  pub child : child_of (words s.past.config (here s) q) i ≡ c
  pub narrower : Wider (children_of (words s.past.config (here s) q)) (children_of (words s.past.config (s.past.at g) parent)) i a b ((children_of (words s.past.config (s.past.at g) parent)).key (i + 1))
  pub leaf_whole : StandsReady s c 0 (low_in (children_of (words s.past.config (s.past.at g) parent)) ((form_at s.past.config (s.past.at g)).low parent) i) (high_in (children_of (words s.past.config (s.past.at g) parent)) ((form_at s.past.config (s.past.at g)).high parent) (i + 1))
  pub before : (key : List ℕ) → is_before key ((children_of (words s.past.config (s.past.at g) parent)).key (i + 1)) ≡ true → found_of (words s.past.config (here s) c) key ≡ found_of (node_of left) key
  pub from : (key : List ℕ) → is_before key ((children_of (words s.past.config (s.past.at g) parent)).key (i + 1)) ≡ false → found_of (words s.past.config (here s) c) key ≡ found_of (node_of right) key

-- the two leaves were frozen, below the parent to which the upper link leads; and the new nodes are ready
pub record IsMerge (upper lower : Link) (i a b q c : ℕ) (left right : List ℕ) (s : Scene) : Type 0 where
  pub links : AreLinksDown upper lower s.past
  pub leaf : WasLeafOnce lower.slot s.past
  pub had : HadNeighbours upper.slot links.guard.guarded i a b s.past
  pub first : StoodFrozen a left s.past
  pub second : StoodFrozen b right s.past
  pub ready : AreReadyMerged upper.slot links.guard.guarded i a b q c left right s

-- then the swap is lawful for everybody and changes no content
abbrev pub MergesAreGood : Type 0
MergesAreGood =
    (change : Change) (s : Scene) (y : Instant) (upper lower : Link) (i a b q c : ℕ) (left right : List ℕ) → IsScene s → IsMerge upper lower i a b q c left right s →
    Stand (below_swap s.past.config upper lower q) (here s) → SwapsTo s.past.config (below_swap s.past.config upper lower q) (here s) y →
    IsGoodSwap false change (below_swap s.past.config upper lower q) s y
