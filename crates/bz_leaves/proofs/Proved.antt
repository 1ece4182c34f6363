-- What this crate proves, as lemmas that other crates cite by these names.
use Rattle.bz_leaves.proofs.Consolidations.{consolidations}
use Rattle.bz_leaves.proofs.Examples.{leaves-are-told}
use Rattle.bz_leaves.proofs.LeafWords.{leaf-words}
use Rattle.bz_leaves.proofs.Merges.{merges}
use Rattle.bz_leaves.proofs.Sames.{leaves-counted, quiet, rewrites, same-trees}
use Rattle.bz_leaves.proofs.Splits.{root-splits, splits}
use Rattle.bz_leaves.specs.Examples.{LeavesAreTold}
use Rattle.bz_leaves.specs.Laws.{ConsolidationsKeepTheLeaves, LeafSplitsAddOne, LeavesAreCounted, MergesTakeOne, QuietSwapsKeepTheLeaves, RewritesKeepTheLeaves, RootLeafSplitsAddOne, SameTreesHaveAsManyLeaves, WordsOfLeavesDoNotCount}

-- the leaves of a small tree
pub leaves_are_told : LeavesAreTold
leaves_are_told = leaves-are-told

-- what is counted: the leaf of each key, and no more than there are slots
pub leaves_are_counted : LeavesAreCounted
leaves_are_counted = leaves-counted

-- where the tree is the same, so is the number
pub same_trees_have_as_many_leaves : SameTreesHaveAsManyLeaves
same_trees_have_as_many_leaves = same-trees

-- nor is it another where words of leaves alone are others
pub words_of_leaves_do_not_count : WordsOfLeavesDoNotCount
words_of_leaves_do_not_count = leaf-words

-- a reservation, the first swap of an update, a freeze and private stores leave the number
pub quiet_swaps_keep_the_leaves : QuietSwapsKeepTheLeaves
quiet_swaps_keep_the_leaves = quiet

-- so do a publication, a delete and the second swap of an update
pub rewrites_keep_the_leaves : RewritesKeepTheLeaves
rewrites_keep_the_leaves = rewrites

-- and a consolidation
pub consolidations_keep_the_leaves : ConsolidationsKeepTheLeaves
consolidations_keep_the_leaves = consolidations

-- the split of a leaf below an inner node adds one, that of an inner node none
pub leaf_splits_add_one : LeafSplitsAddOne
leaf_splits_add_one = splits

-- so it is at the root
pub root_leaf_splits_add_one : RootLeafSplitsAddOne
root_leaf_splits_add_one = root-splits

-- a merge takes one away
pub merges_take_one : MergesTakeOne
merges_take_one = merges
