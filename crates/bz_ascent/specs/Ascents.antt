-- How far up a path a split has come.
use Rattle.std.specs.Prelude.{◌≡◌, ℕ, ◌+◌, ◌<◌, List, Some, slice_get}
use Rattle.bz_task.specs.Outcomes.{IsPath}
use Rattle.bz_task.specs.Scene.{Past}
use Rattle.bz_task.specs.declared.path.Path.{Path}
use Rattle.bz_ascent.specs.Full.{AreFullUpTo}
use Rattle.bz_ascent.specs.declared.ascent.Ascent.{Ascent}

-- the node is the leaf, to which the last link leads
pub record IsAtLeaf (a : Ascent) (key : List ℕ) (path : Path) : Type 0 where
  pub key_is : a.key ≡ key
  pub path_is : a.path ≡ path
  pub last : a.place + 1 ≡ path.depth
  pub node : slice_get path.links a.place ≡ Some a.node

-- it is the one above, to which the link before leads
pub record IsOneUp (a next : Ascent) : Type 0 where
  pub key_is : next.key ≡ a.key
  pub path_is : next.path ≡ a.path
  pub before : next.place + 1 ≡ a.place
  pub node : slice_get a.path.links next.place ≡ Some next.node

-- the path is one to the leaf of the key; and each level up to the node's was full
pub record IsAscent (a : Ascent) (p : Past) : Type 0 where
  pub path : IsPath a.key a.path p
  pub within : a.place < a.path.depth
  pub node : slice_get a.path.links a.place ≡ Some a.node
  pub full : AreFullUpTo a.key a.node.slot p
