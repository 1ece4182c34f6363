-- When the split of an inner root may begin.
use Rattle.std.specs.Prelude.{◌≡◌, ◌≤◌, false, Some, slice_get}
use Rattle.bz_task.specs.declared.path.Link.{Link}
use Rattle.bz_task.specs.declared.path.Path.{Path}
use Rattle.bz_renew.specs.Due.{IsStatusOf}
use Rattle.bz_branch.specs.Due.{IsFullStatus}

-- the guard of the root link, as it was read, was no frozen node's; and that of the link below it, the root's own status, was that of
-- a node that may be split
pub record AreDue (upper lower : Link) : Type 0 where
  pub thawed : IsStatusOf false upper.status
  pub full : IsFullStatus lower.status

-- the path has two links or more, and its first two are such
pub record IsDue (path : Path) : Type 0 where
  pub deep : 2 ≤ path.depth
  pub links : (upper lower : Link) → slice_get path.links 0 ≡ Some upper → slice_get path.links 1 ≡ Some lower → AreDue upper lower
