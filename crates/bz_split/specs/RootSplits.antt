-- The swap of a root leaf's split: the root pointer goes to a new root over the leaf's two halves, and the root status gets its
-- next stamp.
use Rattle.std.specs.Prelude.{◌≡◌, ℕ, true, false, List, Option, Some, None}
use Rattle.bz_tree.specs.Order.{is_before}
use Rattle.bz_tree.specs.Slots.{AreTwo}
use Rattle.bz_tree.specs.Split.{AreThree}
use Rattle.bz_slotted.specs.Readers.{found_of}
use Rattle.bz_slotted.specs.Rules.{node_fault}
use Rattle.bz_content.specs.Restructures.{children_of}
use Rattle.bz_task.specs.Instant.{Instant, words, form_at}
use Rattle.bz_task.specs.Outcomes.{IsUnderRoot}
use Rattle.bz_task.specs.Scene.{Scene, IsScene, here}
use Rattle.bz_task.specs.Swaps.{Change, Stand, SwapsTo, IsGoodSwap}
use Rattle.bz_task.specs.declared.path.Link.{Link}
use Rattle.bz_renew.specs.FrozenLeaves.{WasFrozenLeaf}
use Rattle.bz_renew.specs.LinkSwaps.{IsFresh}
use Rattle.bz_renew.specs.Renewals.{renewal}

-- three slots are all the worker's own, and durable: the root, the left half and the right half
pub record AreFreshThree (q l r : ℕ) (s : Scene) : Type 0 where
  pub three : AreThree q l r
  pub root : IsFresh s q
  pub left : IsFresh s l
  pub right : IsFresh s r

-- slot k breaks no rule at this level between these bounds, as reads answer it
abbrev pub StandsReady : Scene → ℕ → ℕ → Option (List ℕ) → Option (List ℕ) → Type 0
StandsReady s k level low high = node_fault s.past.config.nodes (words s.past.config (here s) k) (words s.past.config (here s) k) level low high ≡ None

-- the new root breaks no rule, and has the halves as children, parted by the separator; the halves break no rule between the
-- bounds that the leaf `old` had at this moment, and say of each key what that leaf said
pub record AreReadyHalves (old root left right m : ℕ) (sep : List ℕ) (s : Scene) : Type 0 where
  pub fresh : AreFreshThree root left right s
  pub root_whole : StandsReady s root 1 None None
  pub two : AreTwo (children_of (words s.past.config (here s) root)) left right sep
  pub left_whole : StandsReady s left 0 ((form_at s.past.config (s.past.at m)).low old) (Some sep)
  pub right_whole : StandsReady s right 0 (Some sep) ((form_at s.past.config (s.past.at m)).high old)
  pub before : (key : List ℕ) → is_before key sep ≡ true → found_of (words s.past.config (here s) left) key ≡ found_of (words s.past.config (s.past.at m) old) key
  pub from : (key : List ℕ) → is_before key sep ≡ false → found_of (words s.past.config (here s) right) key ≡ found_of (words s.past.config (s.past.at m) old) key

-- the link is the root pointer; the leaf was frozen, and its halves are ready
pub record IsRootSplit (link : Link) (root left right m : ℕ) (sep : List ℕ) (s : Scene) : Type 0 where
  pub under : IsUnderRoot link
  pub leaf : WasFrozenLeaf link.slot m s.past
  pub halves : AreReadyHalves link.slot root left right m sep s

-- then the swap is lawful for everybody and changes no content
abbrev pub RootLeafSplitsAreGood : Type 0
RootLeafSplitsAreGood =
    (change : Change) (s : Scene) (y : Instant) (link : Link) (root left right m : ℕ) (sep : List ℕ) → IsScene s → IsRootSplit link root left right m sep s →
    Stand (renewal link root) (here s) → SwapsTo s.past.config (renewal link root) (here s) y → IsGoodSwap false change (renewal link root) s y
