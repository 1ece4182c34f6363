-- How many reads a get may ask for, by the image in which its key is looked up: those of the inner nodes above the leaf of the key, and
-- those of that leaf.
use Rattle.std.specs.Prelude.{ℕ, zero, suc, ◌+◌, ◌-◌, ◌≤◌, List}
use Rattle.bz_content.specs.Content.{view_in, leaf_in}
use Rattle.bz_content.specs.Image.{node}
use Rattle.bz_content.specs.Resolving.{resolve}
use Rattle.bz_descend.specs.SeekFacts.{reads_of, path_reads}
use Rattle.bz_any_task.specs.FromFind.Facts.{find_reads}
use Rattle.bz_layout.specs.declared.config.Config.{Config}
use Rattle.bz_layout.specs.declared.thresholds.TheConstants.{DESCEND_READS_AT_ROOT}
use Rattle.bz_tree.specs.Form.{Form}
use Rattle.bz_tree.specs.View.{View}
use Rattle.bz_tree.specs.Walk.{form}
use Rattle.bz_task.specs.Outcomes.{IsPath}
use Rattle.bz_task.specs.Scene.{Scene, IsScene}
use Rattle.bz_task.specs.declared.path.Link.{Link}
use Rattle.bz_task.specs.declared.path.Path.{Path}
use Rattle.bz_leaf.specs.Facts.{IsLastLink}
use Rattle.bz_undisturbed.specs.Undisturbed.{IsUndisturbed}
use Rattle.bz_undisturbed.specs.Quiet.{IsIn}

-- the most reads of so many inner nodes above a slot of a tree, from its parent up: of each by how many records it has
unfoldable pub reads_above : View → Form → ℕ → ℕ → ℕ
reads_above v f k zero = 0
reads_above v f k (suc n) = reads_of (v.count (f.up k)) + reads_above v f (f.up k) n

-- the most reads of the way to the leaf of a key: root status, root pointer and the root's header, and those of the inner nodes, which
-- stand on all levels between the superblock's and the leaf's
unfoldable pub way_reads : Config → (ℕ → ℕ) → List ℕ → ℕ
way_reads c raw key = let v = view_in c raw in DESCEND_READS_AT_ROOT + reads_above v (form v) (leaf_in c raw key) (v.height - 1)

-- and of a get
unfoldable pub get_reads : Config → (ℕ → ℕ) → List ℕ → ℕ
get_reads c raw key = way_reads c raw key + find_reads (node c (resolve raw) (leaf_in c raw key)) key

-- where nobody's swap took effect since the look-up began, a path is as long as the way to the leaf of its key at each moment since
abbrev pub PathsReadFew : Type 0
PathsReadFew =
    (s : Scene) (key : List ℕ) (path : Path) (link : Link) (j : ℕ) → IsScene s → IsUndisturbed 0 s.past → IsPath key path s.past → IsLastLink path link → IsIn s.past.since s.past j → path_reads path ≤ way_reads s.past.config (s.past.at j).image key
