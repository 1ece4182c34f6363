-- In a quiet time the tree stands: so a leaf that was found is the leaf of its key in the image now.
use Rattle.std.specs.Prelude.{◌≡◌, ◌≢◌, ℕ, true, List}
use Rattle.bz_layout.specs.declared.config.Config.{Config}
use Rattle.bz_content.specs.Content.{leaf_in}
use Rattle.bz_task.specs.Instant.{Instant, is_inside}
use Rattle.bz_task.specs.Laws.{SamePlace}
use Rattle.bz_task.specs.Outcomes.{IsPath}
use Rattle.bz_task.specs.Scene.{Scene, IsScene, here}
use Rattle.bz_task.specs.declared.path.Link.{Link}
use Rattle.bz_task.specs.declared.path.Path.{Path}
use Rattle.bz_leaf.specs.Facts.{IsLastLink}
use Rattle.bz_undisturbed.specs.Undisturbed.{IsUndisturbed}
use Rattle.bz_undisturbed.specs.Quiet.{IsQuietSince, IsIn}

-- the same slots are in the tree, at their levels and with their ranges of keys, and each key has the same leaf
pub record SameTree (c : Config) (x y : Instant) : Type 0 where
  pub inside : (k : ℕ) → is_inside c y k ≡ is_inside c x k
  pub place : (k : ℕ) → k ≢ c.nodes → is_inside c x k ≡ true → SamePlace c x y k
  pub leaf : (key : List ℕ) → leaf_in c y.image key ≡ leaf_in c x.image key

-- at each two moments of a quiet time, whichever is the later one
abbrev pub TreesStand : Type 0
TreesStand = (s : Scene) (m i j : ℕ) → IsScene s → IsQuietSince m s.past → IsIn m s.past i → IsIn m s.past j → SameTree s.past.config (s.past.at i) (s.past.at j)

-- so the leaf at the end of a path that was found while the worker was alone is the leaf of the key now
abbrev pub PathsLeadToLeaves : Type 0
PathsLeadToLeaves = (s : Scene) (key : List ℕ) (path : Path) (link : Link) → IsScene s → IsUndisturbed 0 s.past → IsPath key path s.past → IsLastLink path link → leaf_in s.past.config (here s).image key ≡ link.slot
