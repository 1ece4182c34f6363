-- The way from the root down to a node, and what is known of the node at its end.
use Rattle.std.specs.Prelude.{◌≡◌, ℕ, ◌+◌, ◌<◌, ◌≤◌, true, false, List, Some, slice_get}
use Rattle.bz_layout.specs.Addresses.{node_address}
use Rattle.bz_layout.specs.declared.config.Config.{Config}
use Rattle.bz_layout.specs.declared.sizes.TheConstants.{STATUS_AT}
use Rattle.bz_layout.specs.declared.thresholds.TheConstants.{MAX_LEVELS}
use Rattle.bz_tree.specs.Order.{is_before, is_at_least, is_below}
use Rattle.bz_slotted.specs.Page.{page}
use Rattle.bz_slotted.specs.Readers.{key_of}
use Rattle.bz_word.specs.Statuses.{status}
use Rattle.bz_task.specs.Instant.{Instant, page_at, form_at, is_inside}
use Rattle.bz_task.specs.Outcomes.{IsUnderRoot, IsLink}
use Rattle.bz_task.specs.Scene.{Past}
use Rattle.bz_task.specs.declared.path.Link.{Link}
use Rattle.bz_task.specs.declared.path.Path.{Path}

-- the slot is in the tree, with the key in its range
pub record HasKey (key : List ℕ) (c : Config) (x : Instant) (k : ℕ) : Type 0 where
  pub slot : k < c.nodes
  pub inside : is_inside c x k ≡ true
  pub low : is_at_least key ((form_at c x).low k) ≡ true
  pub high : is_below key ((form_at c x).high k) ≡ true

-- the key belongs to child i of a node with these words: it is not before this child's key, and before the next one's
pub record Chooses (key : List ℕ) (n : ℕ → ℕ) (i : ℕ) : Type 0 where
  pub counted : i < (page n).count
  pub from : 0 < i → is_before key (key_of n i) ≡ false
  pub to : i + 1 < (page n).count → is_before key (key_of n (i + 1)) ≡ true

-- no status that guards a link below the root's was frozen when it was read
abbrev pub AreThawed : Path → Type 0
AreThawed path = (i : ℕ) (link : Link) → 0 < i → i < path.depth → slice_get path.links i ≡ Some link → (status link.status).frozen ≡ false

-- links from the root's down to a slot's, each under the node of the one before
pub record IsWay (key : List ℕ) (path : Path) (k : ℕ) (p : Past) : Type 0 where
  pub some : 0 < path.depth
  pub links : (i : ℕ) (link : Link) → i < path.depth → slice_get path.links i ≡ Some link → IsLink key p link
  pub first : (link : Link) → slice_get path.links 0 ≡ Some link → IsUnderRoot link
  pub below : (i : ℕ) (link next : Link) → i + 1 < path.depth → slice_get path.links i ≡ Some link → slice_get path.links (i + 1) ≡ Some next → next.guard ≡ node_address p.config link.slot + STATUS_AT
  pub last : (i : ℕ) (link : Link) → i + 1 ≡ path.depth → slice_get path.links i ≡ Some link → link.slot ≡ k
  pub thawed : AreThawed path

-- the way leads to a slot that was in the tree, with the key in its range, at a moment since the look-up began; the levels
-- above it are at least as many as the links to nodes above
pub record Arrives (key : List ℕ) (path : Path) (k : ℕ) (p : Past) : Type 0 where
  pub way : IsWay key path k p
  pub met : ℕ
  pub since : p.since ≤ met
  pub until : met ≤ p.now
  pub has : HasKey key p.config (p.at met) k
  pub reached : (p.at met).reached k ≡ true
  pub low : (page_at p.config (p.at met) k).level + path.depth ≤ MAX_LEVELS

-- and that is an inner node
pub record ArrivesAtInner (key : List ℕ) (path : Path) (k : ℕ) (p : Past) : Type 0 where
  pub node : Arrives key path k p
  pub inner : 0 < (page_at p.config (p.at node.met) k).level

-- the way leads to an inner node whose status was frozen at a moment since it was met
pub record MeetsFrozen (key : List ℕ) (path : Path) (p : Past) : Type 0 where
  pub slot : ℕ
  pub node : ArrivesAtInner key path slot p
  pub moment : ℕ
  pub order : node.node.met ≤ moment
  pub now : moment ≤ p.now
  pub frozen : (page_at p.config (p.at moment) slot).frozen ≡ true
