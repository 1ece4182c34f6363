-- The end of the way down: the leaf of a key.
use Rattle.std.specs.Prelude.{◌≡◌, ◌<◌, ℕ, List, Option, None, slice_index}
use Rattle.bz_content.specs.Content.{leaf_in, leaf_end_in}
use Rattle.bz_content.specs.Image.{node}
use Rattle.bz_content.specs.Resolving.{resolve}
use Rattle.bz_layout.specs.declared.config.Config.{Config}
use Rattle.bz_slotted.specs.Rules.{node_fault}
use Rattle.bz_tree.specs.Walk.{Visit}

-- this is the visit to the leaf of a key, and the leaf breaks no rule up to the end of its range
pub record IsLeafVisit (c : Config) (image : List ℕ) (key : List ℕ) (u : Visit) : Type 0 where
  pub below : u.slot < c.nodes
  pub leaf : u.slot ≡ leaf_in c (slice_index image) key
  pub high : u.high ≡ leaf_end_in c (slice_index image) key
  pub low : Option (List ℕ)
  pub none : node_fault c.nodes (node c (slice_index image) u.slot) (node c (resolve (slice_index image)) u.slot) 0 low u.high ≡ None
