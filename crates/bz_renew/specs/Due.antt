-- When a frozen leaf may be made anew.
use Rattle.std.specs.Prelude.{◌≡◌, ℕ, ◌-◌, ◌^◌, ◌<◌, Bool, true, false, Some, slice_get}
use Rattle.bz_word.specs.Statuses.{status}
use Rattle.bz_task.specs.declared.path.Link.{Link}
use Rattle.bz_task.specs.declared.path.Path.{Path}
use Rattle.bz_task.specs.declared.view.LeafView.{LeafView}

-- the last link of the path leads to this slot, and its guard, as it was read, was no frozen node's
abbrev pub LeadsTo : Path → ℕ → Type 0
LeadsTo path k = (link : Link) → slice_get path.links (path.depth - 1) ≡ Some link → (link.slot ≡ k) × ((status link.status).frozen ≡ false)

-- the word is the status of a node that is frozen, or of one that is not
pub record IsStatusOf (frozen : Bool) (st : ℕ) : Type 0 where
  pub plain : st < 2 ^ 61
  pub is : (status st).frozen ≡ frozen

-- the status that was viewed is that of a frozen node, and the last link of the path leads to the viewed slot; its guard is no
-- frozen node's
pub record IsDueBy (link : Link) (view : LeafView) : Type 0 where
  pub viewed : IsStatusOf true view.status
  pub guard : IsStatusOf false link.status
  pub leads : link.slot ≡ view.slot

abbrev pub IsDue : Path → LeafView → Type 0
IsDue path view = (link : Link) → slice_get path.links (path.depth - 1) ≡ Some link → IsDueBy link view
