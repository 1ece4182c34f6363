-- Inner nodes on the way to a key that were found above their limit, one of each level.
use Rattle.std.specs.Prelude.{◌≡◌, ℕ, ◌<◌, ◌≤◌, true, List, length, map, slice_index}
use Rattle.bz_layout.specs.declared.sizes.TheConstants.{NODE_WORDS}
use Rattle.bz_layout.specs.declared.thresholds.TheConstants.{INNER_LIMIT, MAX_LEVELS}
use Rattle.bz_node.specs.Layout.{needed}
use Rattle.bz_node.specs.Reading.{children_in}
use Rattle.bz_node.specs.Records.{child_entry}
use Rattle.bz_tree.specs.Order.{is_within}
use Rattle.bz_task.specs.Instant.{durable, form_at, is_inside}
use Rattle.bz_task.specs.Scene.{Past}

-- at a moment since the look-up began the node in this slot was in the tree, at this level
pub record StoodAt (slot level : ℕ) (p : Past) : Type 0 where
  pub moment : ℕ
  pub since : p.since ≤ moment
  pub now : moment ≤ p.now
  pub inside : is_inside p.config (p.at moment) slot ≡ true
  pub at_level : (form_at p.config (p.at moment)).level slot ≡ level

-- and at one it had the key in its range and these words, and its entries took more than an inner node may keep
pub record WasFull (key : List ℕ) (slot level : ℕ) (p : Past) : Type 0 where
  pub moment : ℕ
  pub since : p.since ≤ moment
  pub now : moment ≤ p.now
  pub within : slot < p.config.nodes
  pub inside : is_inside p.config (p.at moment) slot ≡ true
  pub at_level : (form_at p.config (p.at moment)).level slot ≡ level
  pub range : is_within key ((form_at p.config (p.at moment)).low slot) ((form_at p.config (p.at moment)).high slot) ≡ true
  pub words : List ℕ
  pub size : length words ≡ NODE_WORDS
  pub has : (i : ℕ) → durable p.config (p.at moment) slot i ≡ slice_index words i
  pub many : INNER_LIMIT < needed (map child_entry (children_in words))

-- some node of this level was full
pub record WasLevelFull (key : List ℕ) (level : ℕ) (p : Past) : Type 0 where
  pub slot : ℕ
  pub full : WasFull key slot level p

-- the node in the slot stood at a level, and each level above the leaves up to that was full
pub record AreFullUpTo (key : List ℕ) (slot : ℕ) (p : Past) : Type 0 where
  pub level : ℕ
  pub within : slot < p.config.nodes
  pub stood : StoodAt slot level p
  pub each : (l : ℕ) → 0 < l → l ≤ level → WasLevelFull key l p

-- so was each level that inner nodes may have
abbrev pub AreAllFull : List ℕ → Past → Type 0
AreAllFull key p = (l : ℕ) → 0 < l → l < MAX_LEVELS → WasLevelFull key l p
