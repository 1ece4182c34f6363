-- The guard of the link to the parent, which is looked at once before slots are taken, and once more when the nodes are durable: the
-- swap names what is found then. What a path told of the link still tells where it stands.
use Rattle.std.specs.Prelude.{◌≡◌, ◌≢◌, ℕ, ◌+◌, ◌≤◌, ◌^◌, ◌<◌, ◌⊎◌, true, false, slice_index}
use Rattle.bz_layout.specs.Addresses.{node_address}
use Rattle.bz_layout.specs.declared.sizes.TheConstants.{NODE_WORDS}
use Rattle.bz_word.specs.Statuses.{status}
use Rattle.bz_task.specs.Outcomes.{IsUnderRoot, IsUnderNode, IsGuarded}
use Rattle.bz_task.specs.Scene.{Past, Scene, IsScene}
use Rattle.bz_task.specs.declared.path.Link.{Link}
use Rattle.bz_renew.specs.Nodes.{Nodes}

-- the link, with another value of its guard
abbrev pub with_guard : Link → ℕ → Link
with_guard link word = record link { status = word }

-- at a moment from m on a load of the task's own found the guard, and it was no frozen node's
pub record WasThawed (link : Link) (m : ℕ) (p : Past) : Type 0 where
  pub again : ℕ
  pub order : m ≤ again
  pub now : again ≤ p.now
  pub loads : p.loads again ≡ true
  pub thawed : (status ((p.at again).value link.guard)).frozen ≡ false

-- at a moment since the look-up began a load of the task's own found this as the guard, no frozen node's; the link stood where it does,
-- and every word of these nodes was durable
pub record WasNamed (link : Link) (word : ℕ) (nodes : Nodes) (p : Past) : Type 0 where
  pub named : ℕ
  pub since : p.since ≤ named
  pub now : named ≤ p.now
  pub loads : p.loads named ≡ true
  pub plain : word < 2 ^ 61
  pub thawed : (status word).frozen ≡ false
  pub value : (p.at named).value link.guard ≡ word
  pub under : IsUnderRoot link ⊎ IsUnderNode p link named
  pub durable : (n i : ℕ) → n < nodes.count → i < NODE_WORDS → (p.at named).image (node_address p.config (nodes.slot n) + i) ≡ slice_index (nodes.image n) i

-- a link that was read stands now where it stood when its guard was read
abbrev pub LinksStandOn : Type 0
LinksStandOn = (s : Scene) (link : Link) → IsScene s → IsGuarded s.past link → IsUnderRoot link ⊎ IsUnderNode s.past link s.past.now

-- and where the guard was no frozen node's, it led to another node than the one in which it stands
abbrev pub LinksLeaveTheirNodes : Type 0
LinksLeaveTheirNodes =
    (s : Scene) (link : Link) → IsScene s → (guard : IsGuarded s.past link) → (status link.status).frozen ≡ false → (under : IsUnderNode s.past link guard.guarded) →
    under.parent ≢ link.slot
