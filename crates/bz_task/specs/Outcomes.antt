-- What a path, a view of a leaf and a view of a key are: facts of moments since the look-up began, which no later step can change.
use Rattle.std.specs.Prelude.{◌≡◌, ℕ, ◌+◌, ◌^◌, ◌<◌, ◌≤◌, ◌⊎◌, true, List, Option, Some, None, slice_get, slice_index}
use Rattle.bz_layout.specs.Addresses.{node_address}
use Rattle.bz_layout.specs.declared.sizes.TheConstants.{NODE_WORDS, STATUS_AT, META_AT, ROOT_AT, ROOT_STATUS_AT}
use Rattle.bz_layout.specs.declared.thresholds.TheConstants.{MAX_LEVELS}
use Rattle.bz_tree.specs.Order.{is_within}
use Rattle.bz_content.specs.FromSlotted.Page.{visible, meta_of, extent_of, page}
use Rattle.bz_content.specs.FromSlotted.Readers.{found_of}
use Rattle.bz_content.specs.FromSlotted.ReadingLaws.{node_of}
use Rattle.bz_content.specs.FromSlotted.Records.{key_in, payload_in}
use Rattle.bz_content.specs.FromSlotted.Rules.{node_fault}
use Rattle.bz_content.specs.Content.{leaf_in}
use Rattle.bz_task.specs.Instant.{words, durable, page_at, form_at, is_inside}
use Rattle.bz_task.specs.Requests.{IsPointerPlace}
use Rattle.bz_task.specs.Scene.{Past}
use Rattle.bz_task.specs.Shown.{IsShown}
use Rattle.bz_task.specs.declared.path.Link.{Link}
use Rattle.bz_task.specs.declared.path.Path.{Path}
use Rattle.bz_task.specs.declared.view.Found.{Found}
use Rattle.bz_task.specs.declared.view.KeyView.{KeyView}
use Rattle.bz_task.specs.declared.view.LeafView.{LeafView}

-- the link and its guard are those of the root
pub record IsUnderRoot (link : Link) : Type 0 where
  pub pointer : link.link ≡ ROOT_AT
  pub guard : link.guard ≡ ROOT_STATUS_AT

-- the link is a child pointer of a node that was reached at this moment, and its guard that node's status
pub record IsUnderNode (p : Past) (link : Link) (m : ℕ) : Type 0 where
  pub parent : ℕ
  pub place : ℕ
  pub reached : (p.at m).reached parent ≡ true
  pub within : place < NODE_WORDS
  pub child : IsPointerPlace (page_at p.config (p.at m) parent) place
  pub pointer : link.link ≡ node_address p.config parent + place
  pub guard : link.guard ≡ node_address p.config parent + STATUS_AT

-- the guard was read, and then the link
pub record IsGuarded (p : Past) (link : Link) : Type 0 where
  pub guarded : ℕ
  pub read : ℕ
  pub since : p.since ≤ guarded
  pub order : guarded ≤ read
  pub now : read ≤ p.now
  pub under : IsUnderRoot link ⊎ IsUnderNode p link guarded
  pub status : (p.at guarded).value link.guard ≡ link.status
  pub slot : (p.at read).value link.link ≡ link.slot + 1

-- at some moment since the look-up began the node was in the tree, with the key in its range, and the link led to it
pub record IsLink (key : List ℕ) (p : Past) (link : Link) : Type 0 where
  pub was : ℕ
  pub since : p.since ≤ was
  pub now : was ≤ p.now
  pub inside : is_inside p.config (p.at was) link.slot ≡ true
  pub slot : link.slot < p.config.nodes
  pub range : is_within key ((form_at p.config (p.at was)).low link.slot) ((form_at p.config (p.at was)).high link.slot) ≡ true
  pub led : (p.at was).value link.link ≡ link.slot + 1
  pub guarded : IsGuarded p link

-- the last node is a leaf
pub record EndsAtLeaf (p : Past) (link : Link) : Type 0 where
  pub was : ℕ
  pub since : p.since ≤ was
  pub now : was ≤ p.now
  pub reached : (p.at was).reached link.slot ≡ true
  pub leaf : (page_at p.config (p.at was) link.slot).level ≡ 0

-- links from the root's to a leaf's, each under the node of the one before
pub record IsPath (key : List ℕ) (path : Path) (p : Past) : Type 0 where
  pub some : 0 < path.depth
  pub few : path.depth ≤ MAX_LEVELS
  pub links : (i : ℕ) (link : Link) → i < path.depth → slice_get path.links i ≡ Some link → IsLink key p link
  pub first : (link : Link) → slice_get path.links 0 ≡ Some link → IsUnderRoot link
  pub below : (i : ℕ) (link next : Link) → i + 1 < path.depth → slice_get path.links i ≡ Some link → slice_get path.links (i + 1) ≡ Some next → next.guard ≡ node_address p.config link.slot + STATUS_AT
  pub leaf : (i : ℕ) (link : Link) → i + 1 ≡ path.depth → slice_get path.links i ≡ Some link → EndsAtLeaf p link

-- the words of the key's leaf at a moment directly after a load of the task's own: those that readers read
pub record IsView (key : List ℕ) (view : LeafView) (p : Past) : Type 0 where
  pub since : p.since ≤ view.at
  pub now : view.at ≤ p.now
  pub loads : p.loads view.at ≡ true
  pub leaf : leaf_in p.config (p.at view.at).image key ≡ view.slot
  pub slot : view.slot < p.config.nodes
  pub status : words p.config (p.at view.at) view.slot STATUS_AT ≡ view.status
  pub plain : view.status < 2 ^ 61
  pub words : (i : ℕ) → i < NODE_WORDS → IsShown (words p.config (p.at view.at) view.slot) i → slice_index view.image.0 i ≡ words p.config (p.at view.at) view.slot i
  -- as a leaf by itself the view breaks no rule, so that it can be read
  pub whole : node_fault p.config.nodes (node_of view.image.0) (node_of view.image.0) 0 ((form_at p.config (p.at view.at)).low view.slot) ((form_at p.config (p.at view.at)).high view.slot) ≡ None

-- the key's record among those of a leaf with these words: its metadata word, where that stands, and its payload
pub record IsRecordOf (key : List ℕ) (n : ℕ → ℕ) (found : Found) : Type 0 where
  pub counted : found.index < (page n).count
  pub word : n (META_AT + found.index) ≡ found.meta
  pub visible : visible (meta_of found.meta) ≡ true
  pub same : key_in n (extent_of (meta_of found.meta)) ≡ key
  pub payload : payload_in n (extent_of (meta_of found.meta)) ≡ found.payload

-- what a leaf says that has this record of a key, or none
abbrev pub payload_of : Option Found → Option (List ℕ)
payload_of None = None
payload_of (Some found) = Some found.payload

-- the record of the key in its leaf, or that there is none, in the durable image at a moment directly after a load of the
-- task's own
pub record IsKeyView (key : List ℕ) (view : KeyView) (p : Past) : Type 0 where
  pub since : p.since ≤ view.at
  pub now : view.at ≤ p.now
  pub loads : p.loads view.at ≡ true
  pub leaf : leaf_in p.config (p.at view.at).image key ≡ view.slot
  pub slot : view.slot < p.config.nodes
  pub status : words p.config (p.at view.at) view.slot STATUS_AT ≡ view.status
  pub plain : view.status < 2 ^ 61
  pub says : found_of (durable p.config (p.at view.at) view.slot) key ≡ payload_of view.found
  pub shows : (found : Found) → view.found ≡ Some found → IsRecordOf key (durable p.config (p.at view.at) view.slot) found
