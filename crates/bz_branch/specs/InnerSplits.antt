-- The swap of the split of an inner node below a parent: the link to the parent goes to a new parent, which has the node's two
-- halves in its place; the guard of that link gets its next stamp, and the old parent and the node are frozen.
use Rattle.std.specs.Prelude.{ℕ, false, List, [], ◌∷◌, Some}
use Rattle.bz_layout.specs.declared.config.Config.{Config}
use Rattle.bz_tree.specs.Slots.{Wider, Halves}
use Rattle.bz_word.specs.declared.entry.Entry.{Entry}
use Rattle.bz_content.specs.Restructures.{children_of}
use Rattle.bz_task.specs.Instant.{Instant, words, form_at}
use Rattle.bz_task.specs.Scene.{Scene, IsScene, here}
use Rattle.bz_task.specs.Swaps.{Change, Stand, SwapsTo, IsGoodSwap}
use Rattle.bz_task.specs.declared.path.Link.{Link}
use Rattle.bz_renew.specs.Freezings.{Freezing, renewal_with}
use Rattle.bz_below.specs.FromSplit.BelowSplits.{parent_freezing, AreLinksDown}
use Rattle.bz_below.specs.FromSplit.RootSplits.{AreFreshThree, StandsReady}
use Rattle.bz_branch.specs.Nodes.{IsOpenLink}

-- the node, to which the middle link leads, and its status as it was read before the lower link, that to a child of it; and the
-- parent, in which the middle link stands
abbrev pub both_freezings : Link → Link → Link → List Freezing
both_freezings upper middle lower = parent_freezing middle lower ∷ parent_freezing upper middle ∷ []

-- the four entries: the upper link and its guard, and the statuses of the parent and of the node
abbrev pub inner_swap : Config → Link → Link → Link → ℕ → List Entry
inner_swap c upper middle lower to = renewal_with c upper to (both_freezings upper middle lower)

-- three slots are the worker's own and durable: the new parent, which breaks no rule in the place that the parent had at moment g,
-- and has the parent's children but for child i, in whose place are the halves; and these, which break no rule at the level and
-- between the bounds that the node had at moment h, and have its children between them, the left one the first m
pub record AreReadyInner (parent node g h i m q l r : ℕ) (sep : List ℕ) (s : Scene) : Type 0 where
  pub fresh : AreFreshThree q l r s
  pub parent_whole : StandsReady s q ((form_at s.past.config (s.past.at g)).level parent) ((form_at s.past.config (s.past.at g)).low parent) ((form_at s.past.config (s.past.at g)).high parent)
  pub wider : Wider (children_of (words s.past.config (s.past.at g) parent)) (children_of (words s.past.config (here s) q)) i l r sep
  pub left_whole : StandsReady s l ((form_at s.past.config (s.past.at h)).level node) ((form_at s.past.config (s.past.at h)).low node) (Some sep)
  pub right_whole : StandsReady s r ((form_at s.past.config (s.past.at h)).level node) (Some sep) ((form_at s.past.config (s.past.at h)).high node)
  pub halves : Halves (children_of (words s.past.config (s.past.at h) node)) (children_of (words s.past.config (here s) l)) (children_of (words s.past.config (here s) r)) m sep

-- the links were read, and the halves of the node and the new parent are ready
pub record IsInnerSplit (upper middle lower : Link) (q l r m : ℕ) (sep : List ℕ) (s : Scene) : Type 0 where
  pub down : AreLinksDown upper middle s.past
  pub node : IsOpenLink middle.slot lower s.past
  pub ready : AreReadyInner upper.slot middle.slot down.guard.guarded node.guard.guarded down.under.child.child m q l r sep s

-- then the swap is lawful for everybody and changes no content
abbrev pub InnerSplitsAreGood : Type 0
InnerSplitsAreGood =
    (change : Change) (s : Scene) (y : Instant) (upper middle lower : Link) (q l r m : ℕ) (sep : List ℕ) → IsScene s → IsInnerSplit upper middle lower q l r m sep s →
    Stand (inner_swap s.past.config upper middle lower q) (here s) → SwapsTo s.past.config (inner_swap s.past.config upper middle lower q) (here s) y →
    IsGoodSwap false change (inner_swap s.past.config upper middle lower q) s y
