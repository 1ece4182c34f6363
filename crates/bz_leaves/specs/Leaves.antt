-- The leaves of a tree, and how many there are.
use Rattle.std.specs.Prelude.{ℕ, ◌==◌, ◌&&◌, Bool, count_by}
use Rattle.std.specs.List.{range_with_len}
use Rattle.bz_layout.specs.declared.config.Config.{Config}
use Rattle.bz_tree.specs.View.{View}
use Rattle.bz_tree.specs.Walk.{form}
use Rattle.bz_content.specs.Content.{image_of}
use Rattle.bz_content.specs.Image.{Image}
use Rattle.bz_content.specs.View.{view_of}

-- slot k is a leaf of the tree: it is reached, at level 0
abbrev pub is_leaf : View → ℕ → Bool
is_leaf v k = (form v).inside k && ((form v).level k == 0)

-- how many of the memory's slots are leaves of the tree
unfoldable pub leaf_count : Config → Image → ℕ
leaf_count c x = count_by (is_leaf (view_of c x)) (range_with_len 0 c.nodes)

-- and in an image that is told by its words as they stand
abbrev pub leaves_in : Config → (ℕ → ℕ) → ℕ
leaves_in c raw = leaf_count c (image_of raw)
