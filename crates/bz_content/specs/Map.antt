-- The content of an image as a map: the union of the records of its reached leaves.
use Rattle.std.specs.Prelude.{ℕ, List}
use Rattle.std.specs.Cmp.Lexicographic.{slice_cmp}
use Rattle.std.specs.FinMap.{FinMap}
use Rattle.std.specs.Ordering.{nat_cmp}
use Rattle.bz_layout.specs.declared.config.Config.{Config}
use Rattle.bz_tree.specs.Content.{Pairs, map_of}
use Rattle.bz_slotted.specs.Page.{page}
use Rattle.bz_slotted.specs.Records.{records}
use Rattle.bz_content.specs.Content.{image_of}
use Rattle.bz_content.specs.Image.{Image, node}
use Rattle.bz_content.specs.View.{view_of}

-- the records that the leaf in a slot shows
abbrev pub records_in : Config → Image → ℕ → Pairs
records_in c x k = records (page (node c x.words k))

-- the content of an image
abbrev pub map_of_image : Config → Image → FinMap (slice_cmp nat_cmp) (List ℕ)
map_of_image c x = map_of (view_of c x) (records_in c x)

-- the content of an image's words
abbrev pub map_in : Config → (ℕ → ℕ) → FinMap (slice_cmp nat_cmp) (List ℕ)
map_in c raw = map_of_image c (image_of raw)
