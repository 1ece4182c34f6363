-- When the split of an inner node below a parent may begin.
use Rattle.std.specs.Prelude.{◌≡◌, ◌+◌, ◌≤◌, ℕ, false, Some, slice_get}
use Rattle.bz_task.specs.declared.path.Link.{Link}
use Rattle.bz_task.specs.declared.path.Path.{Path}
use Rattle.bz_renew.specs.Due.{IsStatusOf}
use Rattle.bz_branch.specs.Due.{IsFullStatus}

-- the guards of the link to the parent and of that to the node, as they were read, were no frozen nodes'; and that of the link below
-- them, the node's own status, was that of a node that may be split
pub record AreDue (upper middle lower : Link) : Type 0 where
  pub upper_thawed : IsStatusOf false upper.status
  pub thawed : IsStatusOf false middle.status
  pub full : IsFullStatus lower.status

-- the path has these three links, from a place on: the second of them leads to the node
pub record IsDue (path : Path) (place : ℕ) : Type 0 where
  pub deep : place + 3 ≤ path.depth
  pub links : (upper middle lower : Link) → slice_get path.links place ≡ Some upper → slice_get path.links (place + 1) ≡ Some middle → slice_get path.links (place + 2) ≡ Some lower → AreDue upper middle lower
