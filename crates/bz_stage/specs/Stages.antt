-- The stage of a key, in an image, for the words that a call will ask for: how many rounds that no other worker disturbs it takes at
-- most until there is room for them. A round ends the call, or freezes the leaf, or makes one node anew.
use Rattle.std.specs.Prelude.{ℕ, ◌+◌, if◌then◌else◌, List}
use Rattle.bz_layout.specs.declared.config.Config.{Config}
use Rattle.bz_slotted.specs.Page.{Page, page}
use Rattle.bz_slotted.specs.Readers.{level_of}
use Rattle.bz_content.specs.Content.{image_of}
use Rattle.bz_content.specs.Image.{Image, node, root}
use Rattle.bz_leaves.specs.Neighbours.{leaf_page}
use Rattle.bz_content.specs.View.{view_of}
use Rattle.bz_stage.specs.Paths.{on_path, run_from}
use Rattle.bz_stage.specs.Rooms.{has_room, is_crowded, is_full}

-- the node of a level on the way to the key's leaf
abbrev pub page_on_path : Config → Image → List ℕ → ℕ → Page
page_on_path c x key level = page (node c x.words (on_path (view_of c x) key level))

-- how many levels of inner nodes there are: the level of the root
abbrev pub root_level : Config → Image → ℕ
root_level c x = level_of (node c x.words (root x.words))

-- how many nodes directly above the key's leaf are full, one after the other from its parent upwards
abbrev pub full_above : Config → Image → List ℕ → ℕ
full_above c x key = run_from (λ level. is_full (page_on_path c x key level)) 1 (root_level c x)

-- the stage of a frozen leaf below so many full nodes: a copy, or as many splits of inner nodes and one of the leaf
abbrev pub frozen_stage : Page → ℕ → ℕ
frozen_stage leaf full = 1 + (if is_crowded leaf then full else 0)

-- the stage of a leaf below so many full nodes: where it lacks the words, it is frozen first
abbrev pub stage_of : Page → ℕ → ℕ → ℕ
stage_of leaf full words =
    if has_room leaf words then 0
    else if leaf.frozen then frozen_stage leaf full
    else 1 + frozen_stage leaf full

-- the stage of a key in an image
abbrev pub stage : Config → Image → List ℕ → ℕ → ℕ
stage c x key words = stage_of (leaf_page c x key) (full_above c x key) words

-- and in an image that is told by its words as they stand
abbrev pub stage_in : Config → (ℕ → ℕ) → List ℕ → ℕ → ℕ
stage_in c raw key words = stage c (image_of raw) key words
