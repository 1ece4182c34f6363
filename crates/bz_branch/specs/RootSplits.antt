-- The swap of the split of an inner root: the root pointer goes to a new root over the node's two halves; the root status gets its
-- next stamp, and the node is frozen. Its entries are those of the split of a leaf below the root.
use Rattle.std.specs.Prelude.{ℕ, ◌+◌, false, List, Some, None}
use Rattle.bz_tree.specs.Slots.{Halves, AreTwo}
use Rattle.bz_content.specs.Restructures.{children_of}
use Rattle.bz_task.specs.Instant.{Instant, words, form_at}
use Rattle.bz_task.specs.Outcomes.{IsUnderRoot}
use Rattle.bz_task.specs.Scene.{Scene, IsScene, here}
use Rattle.bz_task.specs.Swaps.{Change, Stand, SwapsTo, IsGoodSwap}
use Rattle.bz_task.specs.declared.path.Link.{Link}
use Rattle.bz_below.specs.FromSplit.BelowSplits.{below_swap}
use Rattle.bz_below.specs.FromSplit.RootSplits.{AreFreshThree, StandsReady}
use Rattle.bz_branch.specs.Nodes.{IsOpenLink}

-- three slots are the worker's own and durable: the new root, which breaks no rule one level above that of the node, and has the
-- halves as children; and these, which break no rule at the level and between the bounds that the node had at moment h, and have its
-- children between them, the left one the first m
pub record AreReadyInnerHalves (node h m q l r : ℕ) (sep : List ℕ) (s : Scene) : Type 0 where
  pub fresh : AreFreshThree q l r s
  pub root_whole : StandsReady s q ((form_at s.past.config (s.past.at h)).level node + 1) None None
  pub two : AreTwo (children_of (words s.past.config (here s) q)) l r sep
  pub left_whole : StandsReady s l ((form_at s.past.config (s.past.at h)).level node) ((form_at s.past.config (s.past.at h)).low node) (Some sep)
  pub right_whole : StandsReady s r ((form_at s.past.config (s.past.at h)).level node) (Some sep) ((form_at s.past.config (s.past.at h)).high node)
  pub halves : Halves (children_of (words s.past.config (s.past.at h) node)) (children_of (words s.past.config (here s) l)) (children_of (words s.past.config (here s) r)) m sep

-- the upper link is the root pointer; the links were read, and the halves of the root and the new root are ready
pub record IsInnerRootSplit (upper lower : Link) (q l r m : ℕ) (sep : List ℕ) (s : Scene) : Type 0 where
  pub under : IsUnderRoot upper
  pub node : IsOpenLink upper.slot lower s.past
  pub ready : AreReadyInnerHalves upper.slot node.guard.guarded m q l r sep s

-- then the swap is lawful for everybody and changes no content
abbrev pub InnerRootSplitsAreGood : Type 0
InnerRootSplitsAreGood =
    (change : Change) (s : Scene) (y : Instant) (upper lower : Link) (q l r m : ℕ) (sep : List ℕ) → IsScene s → IsInnerRootSplit upper lower q l r m sep s →
    Stand (below_swap s.past.config upper lower q) (here s) → SwapsTo s.past.config (below_swap s.past.config upper lower q) (here s) y →
    IsGoodSwap false change (below_swap s.past.config upper lower q) s y
