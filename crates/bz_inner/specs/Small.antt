-- A small inner node under the root, as a path tells it: its status is the guard of the path's third link.
use Rattle.std.specs.Prelude.{◌≡◌, ℕ, ◌+◌, ◌^◌, ◌<◌, ◌≤◌, Some, slice_get}
use Rattle.bz_layout.specs.declared.thresholds.TheConstants.{MERGE_BELOW}
use Rattle.bz_word.specs.Statuses.{status}
use Rattle.bz_task.specs.declared.path.Link.{Link}
use Rattle.bz_task.specs.declared.path.Path.{Path}

-- the word is the status of a node with too few words to stand alone
pub record IsSmallStatus (st : ℕ) : Type 0 where
  pub plain : st < 2 ^ 61
  pub few : (status st).count + (status st).block < MERGE_BELOW

-- the path has a link in an inner node under the root, whose status, as it was read, was such a one
pub record IsSmall (path : Path) : Type 0 where
  pub deep : 3 ≤ path.depth
  pub few : (lower : Link) → slice_get path.links 2 ≡ Some lower → IsSmallStatus lower.status
