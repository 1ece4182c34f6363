-- A leaf that was frozen at a moment since the look-up began: it stands as it stood. And what a view of one shows.
use Rattle.std.specs.Prelude.{◌≡◌, ℕ, ◌<◌, ◌≤◌, true, List, None}
use Rattle.bz_slotted.specs.Readers.{found_of, live_of}
use Rattle.bz_slotted.specs.ReadingLaws.{node_of}
use Rattle.bz_slotted.specs.Rules.{node_fault}
use Rattle.bz_word.specs.Statuses.{status}
use Rattle.bz_task.specs.Instant.{words, durable, page_at, form_at, is_inside}
use Rattle.bz_task.specs.Laws.{SamePlace}
use Rattle.bz_task.specs.Outcomes.{IsView}
use Rattle.bz_task.specs.Scene.{Past, Scene, IsScene, here}
use Rattle.bz_task.specs.declared.view.LeafView.{LeafView}

-- the slot was a leaf of the tree, and frozen, at this moment since the look-up began
pub record WasFrozenLeaf (k m : ℕ) (p : Past) : Type 0 where
  pub since : p.since ≤ m
  pub now : m ≤ p.now
  pub slot : k < p.config.nodes
  pub inside : is_inside p.config (p.at m) k ≡ true
  pub leaf : (form_at p.config (p.at m)).level k ≡ 0
  pub frozen : (page_at p.config (p.at m) k).frozen ≡ true

-- it is frozen still; and where it is in the tree still, it is a leaf between the same bounds, of which the image says what
-- reads answered then
pub record StandsStill (k m : ℕ) (s : Scene) : Type 0 where
  pub frozen : (page_at s.past.config (here s) k).frozen ≡ true
  pub place : is_inside s.past.config (here s) k ≡ true → SamePlace s.past.config (s.past.at m) (here s) k
  pub leaf : is_inside s.past.config (here s) k ≡ true → (form_at s.past.config (here s)).level k ≡ 0
  pub says : is_inside s.past.config (here s) k ≡ true → (key : List ℕ) → found_of (durable s.past.config (here s) k) key ≡ found_of (words s.past.config (s.past.at m) k) key

abbrev pub FrozenLeavesStandStill : Type 0
FrozenLeavesStandStill = (s : Scene) (k m : ℕ) → IsScene s → WasFrozenLeaf k m s.past → StandsStill k m s

-- the viewed slot was a frozen leaf; the view is a leaf between that leaf's bounds, says of each key what reads of it said, and has as many
-- live words as it had in the image
pub record ShowsFrozenLeaf (view : LeafView) (p : Past) : Type 0 where
  pub leaf : WasFrozenLeaf view.slot view.at p
  pub whole : node_fault p.config.nodes (node_of view.image.0) (node_of view.image.0) 0 ((form_at p.config (p.at view.at)).low view.slot) ((form_at p.config (p.at view.at)).high view.slot) ≡ None
  pub says : (key : List ℕ) → found_of (node_of view.image.0) key ≡ found_of (words p.config (p.at view.at) view.slot) key
  pub live : live_of (node_of view.image.0) ≡ live_of (durable p.config (p.at view.at) view.slot)

abbrev pub ViewsShowFrozenLeaves : Type 0
ViewsShowFrozenLeaves = (key : List ℕ) (view : LeafView) (s : Scene) → IsScene s → IsView key view s.past → (status view.status).frozen ≡ true → ShowsFrozenLeaf view s.past
