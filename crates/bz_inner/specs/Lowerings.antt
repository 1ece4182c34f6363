-- The swap by which a root with one child gives way to it: the root pointer goes to the child, the root status gets its next stamp, and
-- the old root is frozen. Its entries are those of the split of a leaf below the root.
use Rattle.std.specs.Prelude.{◌<◌, false}
use Rattle.bz_task.specs.Instant.{Instant}
use Rattle.bz_task.specs.Outcomes.{IsUnderRoot}
use Rattle.bz_task.specs.Scene.{Scene, IsScene, here}
use Rattle.bz_task.specs.Swaps.{Change, Stand, SwapsTo, IsGoodSwap}
use Rattle.bz_task.specs.declared.path.Link.{Link}
use Rattle.bz_branch.specs.FromSplit.BelowSplits.{below_swap}
use Rattle.bz_branch.specs.Nodes.{IsOpenLink}
use Rattle.bz_inner.specs.Lone.{HasOneChild}

-- the upper link is the root pointer; the lower one stands in the node to which that leads, whose status was no frozen node's, and was
-- that of a node with one child
pub record IsLowering (upper lower : Link) (s : Scene) : Type 0 where
  pub under : IsUnderRoot upper
  pub node : IsOpenLink upper.slot lower s.past
  pub slot : lower.slot < s.past.config.nodes
  pub one : HasOneChild lower.status

-- then the swap is lawful for everybody and changes no content
abbrev pub LoweringsAreGood : Type 0
LoweringsAreGood =
    (change : Change) (s : Scene) (y : Instant) (upper lower : Link) → IsScene s → IsLowering upper lower s →
    Stand (below_swap s.past.config upper lower lower.slot) (here s) → SwapsTo s.past.config (below_swap s.past.config upper lower lower.slot) (here s) y →
    IsGoodSwap false change (below_swap s.past.config upper lower lower.slot) s y
