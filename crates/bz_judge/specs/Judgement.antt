-- What a check answers of an image.
use Rattle.std.specs.FinMap.{len}
use Rattle.std.specs.Prelude.{◌≡◌, ℕ, ◌+◌, length, Some, None}
use Rattle.bz_content.specs.Content.{image_fault, view_in}
use Rattle.bz_content.specs.Map.{map_in}
use Rattle.bz_content.specs.declared.outcomes.CheckError.{CheckError}
use Rattle.bz_content.specs.declared.outcomes.CheckError.TheVariants.{Shape, Memory}
use Rattle.bz_content.specs.declared.outcomes.Shape.{Shape as Found}
use Rattle.bz_layout.specs.declared.config.Config.{Config}
use Rattle.bz_tree.specs.Walk.{walk}

-- an image has no fault and this shape: as many pairs as the map that it holds, its levels those below the superblock, and the
-- walk comes to the superblock and to so many nodes
pub record IsShapeOf (c : Config) (raw : ℕ → ℕ) (s : Found) : Type 0 where
  pub none : image_fault c raw ≡ None
  pub pairs : s.pairs ≡ len (map_in c raw)
  pub levels : s.levels ≡ (view_in c raw).height
  pub reached : s.reached + 1 ≡ length (walk (view_in c raw))

-- an image that is refused has this first fault; want of memory says nothing of it
abbrev pub IsFirstFault : Config → (ℕ → ℕ) → CheckError → Type 0
IsFirstFault c raw (Shape fault) = image_fault c raw ≡ Some fault
IsFirstFault c raw Memory = Unit {0}
