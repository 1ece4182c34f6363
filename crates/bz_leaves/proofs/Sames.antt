-- Where the tree is the same, so is the number of its leaves; and what is counted.
use Rattle.std.proofs.Common.{◌≡◌, ℕ, ◌<◌, ◌≤◌, ◌==◌, ◌&&◌, true, List, [], arith, ap}
use Rattle.std.specs.Prelude.{count_by}
use Rattle.std.specs.List.{range_with_len}
use Rattle.std.proofs.lemmas.List.FromFn.{length-range_with_len}
use Rattle.std.proofs.lemmas.List.Sums.{count_by-le-length}
use Rattle.bz_layout.specs.declared.config.Config.{Config}
use Rattle.bz_tree.proofs.Descents.{leaf-found}
use Rattle.bz_tree.proofs.TreeForms.{fits}
use Rattle.bz_tree.specs.Descent.{leaf_of}
use Rattle.bz_tree.specs.Form.{Holds}
use Rattle.bz_tree.specs.Walk.{form_of, IsTree, Visit}
use Rattle.bz_content.specs.Image.{Image}
use Rattle.bz_content.specs.Swaps.{form_in}
use Rattle.bz_content.specs.View.{view_of}
use Rattle.bz_content.proofs.Proved.{quiet_swaps_keep_the_content, rewrites_change_one_key}
use Rattle.bz_leaves.proofs.Counts.{count-some}
use Rattle.bz_leaves.proofs.Exchanges.{leaf-is, not-top}
use Rattle.bz_leaves.proofs.Slots.{slot-below}
use Rattle.bz_leaves.specs.Laws.{LeavesAreCounted, SameTreesHaveAsManyLeaves, QuietSwapsKeepTheLeaves, RewritesKeepTheLeaves}
use Rattle.bz_leaves.specs.Leaves.{is_leaf, leaf_count}

pub same-trees : SameTreesHaveAsManyLeaves
unfolding leaf_count
same-trees c x y same = ap (λ (us : List Visit). count_by (λ k. (form_of us).inside k && ((form_of us).level k == 0)) (range_with_len 0 c.nodes)) same.walk

pub quiet : QuietSwapsKeepTheLeaves
quiet c x y k t on h = same-trees c x y (quiet_swaps_keep_the_content c x y k t on h).0

pub rewrites : RewritesKeepTheLeaves
rewrites c x y k j mt t on h = same-trees c x y (rewrites_change_one_key c x y k j mt t on h).tree

of-key : (c : Config) (x : Image) (key : List ℕ) → IsTree (view_of c x) → is_leaf (view_of c x) (leaf_of (view_of c x) key) ≡ true
of-key c x key t =
    let l : Holds (form_in c x) key (leaf_of (view_of c x) key) = leaf-found (view_of c x) (form_in c x) key t.honest (fits (view_of c x) t) in
    leaf-is c x (leaf_of (view_of c x) key) l.inside l.leaf

some : (c : Config) (x : Image) → IsTree (view_of c x) → 0 < leaf_count c x
unfolding leaf_count
some c x t =
    let l : Holds (form_in c x) [] (leaf_of (view_of c x) []) = leaf-found (view_of c x) (form_in c x) [] t.honest (fits (view_of c x) t) in
    count-some (is_leaf (view_of c x)) c.nodes (leaf_of (view_of c x) []) (slot-below c x t (leaf_of (view_of c x) []) l.inside (not-top c x (leaf_of (view_of c x) []) t l.leaf)) (of-key c x [] t)

few : (c : Config) (x : Image) → leaf_count c x ≤ c.nodes
unfolding leaf_count
few c x = omega (arith, count_by-le-length (is_leaf (view_of c x)) (range_with_len 0 c.nodes), length-range_with_len 0 c.nodes)

pub leaves-counted : LeavesAreCounted
leaves-counted = record { of_key = of-key; some = some; few = few }
