-- Images in which some words outside the descriptors have become what they stand for: what they say of the tree and of each
-- key stays.
use Rattle.std.specs.Prelude.{◌≡◌, ◌⊎◌, ℕ, List, None}
use Rattle.bz_content.specs.Content.{image_fault, view_in, content_in}
use Rattle.bz_layout.specs.declared.config.Config.{Config}
use Rattle.bz_tree.specs.Walk.{form}
use Rattle.bz_recover.specs.Sweep.{IsShared, IsImage}

-- both images are lawful and resolve to the same values, and each word outside the descriptors stands as it stood or is its
-- value
pub record ResolvesSome (c : Config) (values x y : ℕ → ℕ) : Type 0 where
  pub before : IsImage c values x
  pub after : IsImage c values y
  pub words : (a : ℕ) → IsShared c a → (y a ≡ x a) ⊎ (y a ≡ values a)

-- the image breaks no rule, its tree has the same slots, and it holds the same for each key
pub record SaysTheSame (c : Config) (x y : ℕ → ℕ) : Type 0 where
  pub well_formed : image_fault c y ≡ None
  pub inside : (k : ℕ) → (form (view_in c y)).inside k ≡ (form (view_in c x)).inside k
  pub content : (key : List ℕ) → content_in c y key ≡ content_in c x key

abbrev pub ResolvingKeepsTheContent : Type 0
ResolvingKeepsTheContent = (c : Config) (values x y : ℕ → ℕ) → image_fault c x ≡ None → ResolvesSome c values x y → SaysTheSame c x y
