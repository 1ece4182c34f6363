-- What the swap of a renewal does where its link stands: at the root pointer, or at a child pointer of an inner node.
use Rattle.std.specs.Prelude.{◌≡◌, ℕ, ◌+◌, ◌<◌, true, false, List, [], ◌∷◌}
use Rattle.bz_layout.specs.Addresses.{node_address}
use Rattle.bz_layout.specs.declared.sizes.TheConstants.{NODE_WORDS}
use Rattle.bz_tree.specs.Walk.{is_among}
use Rattle.bz_task.specs.FromSwap.SwapMemory.{is_target}
use Rattle.bz_word.specs.Statuses.{status}
use Rattle.bz_task.specs.FromContent.Content.{image_of}
use Rattle.bz_task.specs.FromContent.Swaps.{TurnsLink}
use Rattle.bz_task.specs.Instant.{Instant, page_at, form_at, is_inside}
use Rattle.bz_task.specs.Outcomes.{IsUnderRoot, IsUnderNode, IsGuarded}
use Rattle.bz_task.specs.Requests.{IsTarget}
use Rattle.bz_task.specs.Scene.{Scene, IsScene, here}
use Rattle.bz_task.specs.Steps.{ReplacedRootIsFrozen}
use Rattle.bz_task.specs.Swaps.{Stand, SwapsTo}
use Rattle.bz_task.specs.declared.path.Link.{Link}
use Rattle.bz_renew.specs.Freezings.{Freezing, slots_of, renewal_with, AreFreezable}
use Rattle.bz_renew.specs.LinkSwaps.{IsChanged}
use Rattle.bz_renew.specs.Renewals.{renewal}

-- the link's slot is in the tree, as child i of slot p, and that child becomes `new`; but for the slots that go, only the slots
-- `changed` change, and they do as nodes may
pub record TurnsAt (link : Link) (new : ℕ) (gone : List ℕ) (s : Scene) (y : Instant) (p i : ℕ) (changed : List ℕ) : Type 0 where
  pub inside : is_inside s.past.config (here s) link.slot ≡ true
  pub up : (form_at s.past.config (here s)).up link.slot ≡ p
  pub index : (form_at s.past.config (here s)).index link.slot ≡ i
  pub turns : TurnsLink s.past.config (image_of (here s).image) (image_of y.image) p i new gone
  pub targets : (a : ℕ) → is_target (renewal link new) a ≡ true → IsTarget s a
  pub others : (k i : ℕ) → is_among changed k ≡ false → i < NODE_WORDS → is_target (renewal link new) (node_address s.past.config k + i) ≡ false
  pub changes : (k : ℕ) → is_among changed k ≡ true → IsChanged s y k
  -- where the slot that goes is frozen
  pub root : ((page_at s.past.config y link.slot).frozen ≡ true) → ReplacedRootIsFrozen s.past.config (here s) y
  pub stays : is_among changed link.slot ≡ false

abbrev pub RootLinksTurn : Type 0
RootLinksTurn =
    (s : Scene) (y : Instant) (link : Link) (new : ℕ) (gone : List ℕ) → IsScene s → IsUnderRoot link → new < s.past.config.nodes → Stand (renewal link new) (here s) →
    SwapsTo s.past.config (renewal link new) (here s) y → TurnsAt link new gone s y s.past.config.nodes 0 []

abbrev pub ChildLinksTurn : Type 0
ChildLinksTurn =
    (s : Scene) (y : Instant) (link : Link) (new : ℕ) (gone : List ℕ) → IsScene s → (guard : IsGuarded s.past link) → (status link.status).frozen ≡ false →
    (under : IsUnderNode s.past link guard.guarded) → new < s.past.config.nodes → Stand (renewal link new) (here s) →
    SwapsTo s.past.config (renewal link new) (here s) y → TurnsAt link new gone s y under.parent under.child.child (under.parent ∷ [])

-- the same of a renewal that freezes nodes besides, which change with the others and are frozen afterwards
pub record TurnsWith (link : Link) (new : ℕ) (freezings : List Freezing) (gone : List ℕ) (s : Scene) (y : Instant) (p i : ℕ) (changed : List ℕ) : Type 0 where
  pub inside : is_inside s.past.config (here s) link.slot ≡ true
  pub up : (form_at s.past.config (here s)).up link.slot ≡ p
  pub index : (form_at s.past.config (here s)).index link.slot ≡ i
  pub turns : TurnsLink s.past.config (image_of (here s).image) (image_of y.image) p i new gone
  pub targets : (a : ℕ) → is_target (renewal_with s.past.config link new freezings) a ≡ true → IsTarget s a
  pub others : (k i : ℕ) → is_among changed k ≡ false → i < NODE_WORDS → is_target (renewal_with s.past.config link new freezings) (node_address s.past.config k + i) ≡ false
  pub changes : (k : ℕ) → is_among changed k ≡ true → IsChanged s y k
  pub root : ((page_at s.past.config y link.slot).frozen ≡ true) → ReplacedRootIsFrozen s.past.config (here s) y
  pub freezes : (k : ℕ) → is_among (slots_of freezings) k ≡ true → (page_at s.past.config y k).frozen ≡ true

-- the nodes that are frozen may be, and they are among those that go
pub record AreGoing (freezings : List Freezing) (gone : List ℕ) (s : Scene) : Type 0 where
  pub freezable : AreFreezable freezings s
  pub go : (k : ℕ) → is_among (slots_of freezings) k ≡ true → is_among gone k ≡ true

abbrev pub RootLinksTurnWith : Type 0
RootLinksTurnWith =
    (s : Scene) (y : Instant) (link : Link) (new : ℕ) (freezings : List Freezing) (gone : List ℕ) → IsScene s → IsUnderRoot link → new < s.past.config.nodes → AreGoing freezings gone s →
    Stand (renewal_with s.past.config link new freezings) (here s) → SwapsTo s.past.config (renewal_with s.past.config link new freezings) (here s) y →
    TurnsWith link new freezings gone s y s.past.config.nodes 0 (slots_of freezings)

-- below an inner node, which is not one of those that are frozen
abbrev pub ChildLinksTurnWith : Type 0
ChildLinksTurnWith =
    (s : Scene) (y : Instant) (link : Link) (new : ℕ) (freezings : List Freezing) (gone : List ℕ) → IsScene s → (guard : IsGuarded s.past link) → (status link.status).frozen ≡ false →
    (under : IsUnderNode s.past link guard.guarded) → is_among (slots_of freezings) under.parent ≡ false → new < s.past.config.nodes → AreGoing freezings gone s →
    Stand (renewal_with s.past.config link new freezings) (here s) → SwapsTo s.past.config (renewal_with s.past.config link new freezings) (here s) y →
    TurnsWith link new freezings gone s y under.parent under.child.child (under.parent ∷ slots_of freezings)
