-- A root with one child, as a path tells it: the status of the root is the guard of the path's second link.
use Rattle.std.specs.Prelude.{◌≡◌, ℕ, ◌^◌, ◌<◌, ◌≤◌, Some, slice_get}
use Rattle.bz_word.specs.Statuses.{status}
use Rattle.bz_task.specs.declared.path.Link.{Link}
use Rattle.bz_task.specs.declared.path.Path.{Path}

-- the word is the status of a node with one child
pub record HasOneChild (st : ℕ) : Type 0 where
  pub plain : st < 2 ^ 61
  pub one : (status st).count ≡ 1

-- the path has a link in the root, whose status, as it was read, was that of a node with one child
pub record IsLone (path : Path) : Type 0 where
  pub deep : 2 ≤ path.depth
  pub one : (lower : Link) → slice_get path.links 1 ≡ Some lower → HasOneChild lower.status
