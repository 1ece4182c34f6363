-- What this crate proves, as lemmas that other crates cite by these names.
use Rattle.bz_tree.proofs.Frames.{leaf-swaps, unreached-slots}
use Rattle.bz_tree.proofs.MergeTrees.{merges}
use Rattle.bz_tree.proofs.QuietChanges.{quiet-slots}
use Rattle.bz_tree.proofs.TreeForms.{content-is-union, forms-fit, leaves-tile, map-is-content, slots-once, trees-have-forms, walks-by-stack}
use Rattle.bz_tree.proofs.Trees.{consolidations, root-splits, splits}
use Rattle.bz_tree.specs.SwapLaws.{ConsolidationsKeepTheContent, LeafSwapsKeepTheTree, MergesKeepTheContent, QuietSlotsKeepTheTree, RootSplitsKeepTheContent, SplitsKeepTheContent, UnreachedSlotsDoNotMatter}
use Rattle.bz_tree.specs.TreeLaws.{ContentIsTheUnion, FormsFitTrees, LeavesTileTheKeys, MapIsTheContent, SlotsComeOnce, TreesHaveForms, WalksByStack}

-- an image that a form fits has no fault, and the form that its walk shows agrees with that one
pub forms_fit_trees : FormsFitTrees
forms_fit_trees = forms-fit

-- where there is no fault, the form that the walk shows fits
pub trees_have_forms : TreesHaveForms
trees_have_forms = trees-have-forms

-- where there is no fault, the walk comes to no slot twice
pub slots_come_once : SlotsComeOnce
slots_come_once = slots-once

-- each key is in the range of exactly one reached leaf, and the descent for the key ends there
pub leaves_tile_the_keys : LeavesTileTheKeys
leaves_tile_the_keys = leaves-tile

-- the content is the union of what the reached leaves say
pub content_is_the_union : ContentIsTheUnion
content_is_the_union = content-is-union

-- the content as a map answers each key as the descent does
pub map_is_the_content : MapIsTheContent
map_is_the_content = map-is-content

-- a walk can be made step by step, with a stack of visits
pub walks_by_stack : WalksByStack
walks_by_stack = walks-by-stack

-- changes of slots that are not reached change neither the tree nor the content
pub unreached_slots_do_not_matter : UnreachedSlotsDoNotMatter
unreached_slots_do_not_matter = unreached-slots

-- where every reached slot says what it said, tree and content are the same
pub quiet_slots_keep_the_tree : QuietSlotsKeepTheTree
quiet_slots_keep_the_tree = quiet-slots

-- a swap on one leaf leaves the tree, and changes the content at keys of that leaf alone
pub leaf_swaps_keep_the_tree : LeafSwapsKeepTheTree
leaf_swaps_keep_the_tree = leaf-swaps

-- a consolidation, at the root or below an inner slot, keeps the content
pub consolidations_keep_the_content : ConsolidationsKeepTheContent
consolidations_keep_the_content = consolidations

-- a split of a leaf or an inner slot below an inner slot keeps the content
pub splits_keep_the_content : SplitsKeepTheContent
splits_keep_the_content = splits

-- a split of the root keeps the content
pub root_splits_keep_the_content : RootSplitsKeepTheContent
root_splits_keep_the_content = root-splits

-- a merge of two leaves keeps the content
pub merges_keep_the_content : MergesKeepTheContent
merges_keep_the_content = merges
