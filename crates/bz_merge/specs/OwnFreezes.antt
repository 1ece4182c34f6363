-- What a merge's own freezes leave: each takes effect in one step, directly after a scene in which all that it read was known, and changes no
-- word but the status of its leaf.
use Rattle.std.specs.Prelude.{◌≡◌, ◌≢◌, ℕ, ◌+◌, ◌≤◌, ◌⊎◌, true, false, slice_index}
use Rattle.bz_layout.specs.Addresses.{node_address}
use Rattle.bz_layout.specs.declared.sizes.TheConstants.{STATUS_AT}
use Rattle.bz_word.specs.Statuses.{status}
use Rattle.bz_task.specs.Scene.{Past, Scene, IsScene, here}
use Rattle.bz_merge.specs.Plans.{Merging, viewed_leaf, beside_leaf, IsPlanned}
use Rattle.bz_merge.specs.Siblings.{SeenLeaf}

-- an earlier scene of the same call
pub record IsEarlier (s : Scene) (p : Past) : Type 0 where
  pub good : IsScene s
  pub config : p.config ≡ s.past.config
  pub since : p.since ≡ s.past.since
  pub now : s.past.now + 1 ≤ p.now
  pub at : (m : ℕ) → m ≤ s.past.now → p.at m ≡ s.past.at m

-- directly after this scene, in which the merge was planned, its own freeze of a leaf took effect, which had not been frozen
pub record FrozeAfter (r : Merging) (l : SeenLeaf) (s : Scene) (p : Past) : Type 0 where
  pub thawed : (status l.status).frozen ≡ false
  pub planned : IsPlanned r s.past
  pub earlier : IsEarlier s p
  pub effects : (p.at (s.past.now + 1)).effects ≡ (here s).effects + 1
  pub others : (a : ℕ) → a ≢ node_address s.past.config l.slot + STATUS_AT → (p.at (s.past.now + 1)).value a ≡ (here s).value a

-- the merge froze the viewed leaf
pub record FrozeViewed (r : Merging) (p : Past) : Type 0 where
  pub before : Scene
  pub froze : FrozeAfter r (viewed_leaf r) before p

-- or it had been frozen when it was viewed
abbrev pub ViewedWasFrozen : Merging → Past → Type 0
ViewedWasFrozen r p = ((status r.status).frozen ≡ true) ⊎ FrozeViewed r p

-- the merge froze the neighbour, after the viewed leaf
pub record FrozeBeside (r : Merging) (p : Past) : Type 0 where
  pub before : Scene
  pub froze : FrozeAfter r (beside_leaf r) before p
  pub viewed : ViewedWasFrozen r before.past

-- or it had been frozen when it was read
abbrev pub BothWereFrozen : Merging → Past → Type 0
BothWereFrozen r p = (((status (slice_index r.beside STATUS_AT)).frozen ≡ true) × ViewedWasFrozen r p) ⊎ FrozeBeside r p
