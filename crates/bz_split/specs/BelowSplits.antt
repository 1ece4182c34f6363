-- The swap of the split of a leaf below a parent: the link to the parent goes to a new parent, which has the leaf's two halves in
-- its place; the guard of that link gets its next stamp, and the old parent is frozen.
use Rattle.std.specs.Prelude.{◌≡◌, ℕ, true, false, List, [], ◌∷◌, Some}
use Rattle.bz_layout.specs.declared.config.Config.{Config}
use Rattle.bz_tree.specs.Order.{is_before}
use Rattle.bz_tree.specs.Slots.{Wider}
use Rattle.bz_slotted.specs.Readers.{found_of}
use Rattle.bz_word.specs.Statuses.{status}
use Rattle.bz_word.specs.declared.entry.Entry.{Entry}
use Rattle.bz_content.specs.Restructures.{children_of}
use Rattle.bz_task.specs.Instant.{Instant, words, form_at}
use Rattle.bz_task.specs.Outcomes.{IsUnderNode, IsGuarded}
use Rattle.bz_task.specs.Scene.{Past, Scene, IsScene, here}
use Rattle.bz_task.specs.Swaps.{Change, Stand, SwapsTo, IsGoodSwap}
use Rattle.bz_task.specs.declared.path.Link.{Link}
use Rattle.bz_renew.specs.Freezings.{Freezing, renewal_with}
use Rattle.bz_renew.specs.FrozenLeaves.{WasFrozenLeaf}
use Rattle.bz_split.specs.RootSplits.{AreFreshThree, StandsReady}

-- the parent, to which the upper link leads, and its status as it was read before the lower link, that to the leaf
abbrev pub parent_freezing : Link → Link → Freezing
parent_freezing upper lower = record { slot = upper.slot; status = lower.status }

-- the three entries: the upper link and its guard, and the parent's status
abbrev pub below_swap : Config → Link → Link → ℕ → List Entry
below_swap c upper lower to = renewal_with c upper to (parent_freezing upper lower ∷ [])

-- both guards were read, and were no frozen nodes'; the lower link stands in the node to which the upper one leads
pub record AreLinksDown (upper lower : Link) (p : Past) : Type 0 where
  pub upper_guard : IsGuarded p upper
  pub upper_thawed : (status upper.status).frozen ≡ false
  pub guard : IsGuarded p lower
  pub thawed : (status lower.status).frozen ≡ false
  pub under : IsUnderNode p lower guard.guarded
  pub parent : under.parent ≡ upper.slot

-- three slots are the worker's own and durable: the new parent, which breaks no rule in the place that the parent had when its
-- status was read, and has the parent's children but for child i, in whose place are the halves; and these, which break no rule
-- between the bounds that the leaf had at moment m, and say of each key what the leaf said
pub record AreReadyBelow (parent leaf g i m q l r : ℕ) (sep : List ℕ) (s : Scene) : Type 0 where
  pub fresh : AreFreshThree q l r s
  pub parent_whole : StandsReady s q ((form_at s.past.config (s.past.at g)).level parent) ((form_at s.past.config (s.past.at g)).low parent) ((form_at s.past.config (s.past.at g)).high parent)
  pub wider : Wider (children_of (words s.past.config (s.past.at g) parent)) (children_of (words s.past.config (here s) q)) i l r sep
  pub left_whole : StandsReady s l 0 ((form_at s.past.config (s.past.at m)).low leaf) (Some sep)
  pub right_whole : StandsReady s r 0 (Some sep) ((form_at s.past.config (s.past.at m)).high leaf)
  pub before : (key : List ℕ) → is_before key sep ≡ true → found_of (words s.past.config (here s) l) key ≡ found_of (words s.past.config (s.past.at m) leaf) key
  pub from : (key : List ℕ) → is_before key sep ≡ false → found_of (words s.past.config (here s) r) key ≡ found_of (words s.past.config (s.past.at m) leaf) key

-- the leaf was frozen, and its halves and the new parent are ready
pub record IsBelowSplit (upper lower : Link) (q l r m : ℕ) (sep : List ℕ) (s : Scene) : Type 0 where
  pub links : AreLinksDown upper lower s.past
  pub leaf : WasFrozenLeaf lower.slot m s.past
  pub ready : AreReadyBelow upper.slot lower.slot links.guard.guarded links.under.child.child m q l r sep s

-- then the swap is lawful for everybody and changes no content
abbrev pub LeafSplitsBelowAreGood : Type 0
LeafSplitsBelowAreGood =
    (change : Change) (s : Scene) (y : Instant) (upper lower : Link) (q l r m : ℕ) (sep : List ℕ) → IsScene s → IsBelowSplit upper lower q l r m sep s →
    Stand (below_swap s.past.config upper lower q) (here s) → SwapsTo s.past.config (below_swap s.past.config upper lower q) (here s) y →
    IsGoodSwap false change (below_swap s.past.config upper lower q) s y
