-- What becomes of the leaves of the tree by a swap.
use Rattle.std.specs.Prelude.{◌≡◌, ◌≢◌, ◌⊎◌, ℕ, ◌+◌, ◌<◌, ◌≤◌, true, false, List}
use Rattle.bz_layout.specs.declared.thresholds.TheConstants.{SPLIT_ABOVE, MERGE_BELOW}
use Rattle.bz_leaves.specs.Leaves.{is_leaf, leaves_in}
use Rattle.bz_any_task.specs.FromMerge.Merges.{StoodFrozen}
use Rattle.bz_renew.specs.FrozenLeaves.{WasFrozenLeaf}
use Rattle.bz_slotted.specs.Readers.{live_of}
use Rattle.bz_slotted.specs.ReadingLaws.{node_of}
use Rattle.bz_content.specs.Content.{view_in}
use Rattle.bz_task.specs.Instant.{Instant, durable, form_at, is_inside}
use Rattle.bz_task.specs.Scene.{Past, Scene, here}

-- how many there are now, and how many after it
abbrev pub leaves_now : Scene → ℕ
leaves_now s = leaves_in s.past.config (here s).image

abbrev pub leaves_then : Scene → Instant → ℕ
leaves_then s y = leaves_in s.past.config y.image

-- each slot of the tree then is one of it now, or one to which no link has led: none comes back that the tree has left
abbrev pub BringsNoneBack : Scene → Instant → Type 0
BringsNoneBack s y = (k : ℕ) → is_inside s.past.config y k ≡ true → (is_inside s.past.config (here s) k ≡ true) ⊎ ((here s).reached k ≡ false)

-- slot k is a leaf of the tree now
abbrev pub IsLeafNow : Scene → ℕ → Type 0
IsLeafNow s k = is_leaf (view_in s.past.config (here s).image) k ≡ true

-- there are as many, and the tree leaves none of them
pub record KeepsTheLeaves (s : Scene) (y : Instant) : Type 0 where
  pub same : leaves_then s y ≡ leaves_now s
  pub back : BringsNoneBack s y
  pub stay : (k : ℕ) → IsLeafNow s k → is_inside s.past.config y k ≡ true

-- there are as many, and the tree leaves none of them but the one in slot k
pub record RenewsLeaf (k : ℕ) (s : Scene) (y : Instant) : Type 0 where
  pub same : leaves_then s y ≡ leaves_now s
  pub back : BringsNoneBack s y
  pub only : (j : ℕ) → IsLeafNow s j → is_inside s.past.config y j ≡ false → j ≡ k

-- at a moment since the call began slot k was a frozen leaf of the tree, with more live words than a leaf may keep
pub record WasCrowdedLeaf (k : ℕ) (p : Past) : Type 0 where
  pub moment : ℕ
  pub frozen : WasFrozenLeaf k moment p
  pub many : SPLIT_ABOVE < live_of (durable p.config (p.at moment) k)

-- at one it was a leaf, frozen or not, with fewer than a leaf needs to stand alone
pub record WasSmallLeaf (k : ℕ) (p : Past) : Type 0 where
  pub moment : ℕ
  pub since : p.since ≤ moment
  pub now : moment ≤ p.now
  pub inside : is_inside p.config (p.at moment) k ≡ true
  pub leaf : (form_at p.config (p.at moment)).level k ≡ 0
  pub few : live_of (durable p.config (p.at moment) k) < MERGE_BELOW

-- there is one more: two for the leaf in slot k, which had too many live words, and which the tree leaves
pub record SplitsLeaf (k : ℕ) (s : Scene) (y : Instant) : Type 0 where
  pub more : leaves_then s y ≡ leaves_now s + 1
  pub leaf : IsLeafNow s k
  pub crowded : WasCrowdedLeaf k s.past
  pub gone : is_inside s.past.config y k ≡ false
  pub back : BringsNoneBack s y

-- there is one less: one for the leaves in the slots k and j. The first one had too few live words to stand alone, and the tree leaves it.
-- Both were frozen at moments since the call began, and said then what these words say; and these have together no more live words than a
-- leaf may keep
pub record MergesLeaves (k j : ℕ) (own other : List ℕ) (s : Scene) (y : Instant) : Type 0 where
  pub less : leaves_then s y + 1 ≡ leaves_now s
  pub two : k ≢ j
  pub leaf : IsLeafNow s k
  pub beside : IsLeafNow s j
  pub small : WasSmallLeaf k s.past
  pub frozen : StoodFrozen k own s.past
  pub beside_frozen : StoodFrozen j other s.past
  pub room : live_of (node_of own) + live_of (node_of other) ≤ SPLIT_ABOVE
  pub gone : is_inside s.past.config y k ≡ false
  pub back : BringsNoneBack s y
