-- How the leaf of a key stands in an image.
use Rattle.std.specs.Prelude.{◌≡◌, ℕ, List}
use Rattle.bz_content.specs.Content.{leaf_in}
use Rattle.bz_content.specs.Image.{node}
use Rattle.bz_content.specs.Resolving.{resolve}
use Rattle.bz_layout.specs.declared.config.Config.{Config}
use Rattle.bz_slotted.specs.Page.{Page, page}
use Rattle.bz_slotted.specs.Records.{live_words}
use Rattle.bz_judge.specs.declared.leaf.LeafState.{LeafState}

-- the leaf of a key
abbrev pub leaf_held : Config → (ℕ → ℕ) → List ℕ → Page
leaf_held c raw key = page (node c (resolve raw) (leaf_in c raw key))

-- whether it is frozen, and how many live words it has
pub record IsLeafState (c : Config) (raw : ℕ → ℕ) (key : List ℕ) (s : LeafState) : Type 0 where
  pub frozen : s.frozen ≡ (leaf_held c raw key).frozen
  pub live : s.live ≡ live_words (leaf_held c raw key)
