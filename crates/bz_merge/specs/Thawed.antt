-- Where a merge may begin: below a parent that was not frozen.
use Rattle.std.specs.Prelude.{◌≡◌, ℕ, ◌-◌, false, Some, slice_get}
use Rattle.bz_task.specs.declared.path.Link.{Link}
use Rattle.bz_task.specs.declared.path.Path.{Path}
use Rattle.bz_renew.specs.Due.{IsStatusOf}

-- the guard of the link before the last, as it was read, was no frozen node's
abbrev pub IsThawedAbove : Path → Type 0
IsThawedAbove path = (link : Link) → slice_get path.links (path.depth - 2) ≡ Some link → IsStatusOf false link.status

-- the link leads to this slot, and its guard, as it was read, was the status of a node that is not frozen
pub record IsLedToBy (link : Link) (k : ℕ) : Type 0 where
  pub guard : IsStatusOf false link.status
  pub leads : link.slot ≡ k

-- the last link of the path does
abbrev pub IsLedTo : Path → ℕ → Type 0
IsLedTo path k = (link : Link) → slice_get path.links (path.depth - 1) ≡ Some link → IsLedToBy link k
