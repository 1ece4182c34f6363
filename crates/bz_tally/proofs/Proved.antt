-- What this crate proves, as lemmas that other crates cite by these names.
use Rattle.bz_tally.proofs.Changes.{changes-keep}
use Rattle.bz_tally.proofs.Copies.{copies}
use Rattle.bz_tally.proofs.Deletes.{deletes-take-one, deletes-tell-few}
use Rattle.bz_tally.proofs.HalvingBelow.{halves-below}
use Rattle.bz_tally.proofs.HalvingInner.{halves-inner}
use Rattle.bz_tally.proofs.Lasts.{merges-count-at-last}
use Rattle.bz_tally.proofs.LevelSwaps.{inner-merged, root-lowered}
use Rattle.bz_tally.proofs.Merges.{merges-count}
use Rattle.bz_tally.proofs.PartingRoot.{root-parts}
use Rattle.bz_tally.proofs.RootHalving.{root-halves}
use Rattle.bz_tally.proofs.Tasks.{leaves-come-and-go, swaps-count}
use Rattle.bz_tally.specs.Deletes.{DeletesTakeOneRecord, DeletesTellFew}
use Rattle.bz_tally.specs.Laws.{ChangesKeepTheLeaves, CopiesKeepTheLeaves, InnerMergesKeepTheLeaves, InnerRootSplitsKeepTheLeaves, InnerSplitsKeepTheLeaves, LeafSplitsCount, LeavesComeAndGo, LoweringsKeepTheLeaves, MergesCount, MergesCountAtLast, RootLeafSplitsCount, SwapsCount}

-- the swaps of inserts, updates, deletes and freezes leave the number
pub changes_keep_the_leaves : ChangesKeepTheLeaves
changes_keep_the_leaves = changes-keep

-- so does that of a consolidation
pub copies_keep_the_leaves : CopiesKeepTheLeaves
copies_keep_the_leaves = copies

-- that of the split of a leaf below a parent adds one
pub leaf_splits_count : LeafSplitsCount
leaf_splits_count = halves-below

-- that of the split of an inner node below a parent leaves the number
pub inner_splits_keep_the_leaves : InnerSplitsKeepTheLeaves
inner_splits_keep_the_leaves = halves-inner

-- that of the split of a root leaf adds one
pub root_leaf_splits_count : RootLeafSplitsCount
root_leaf_splits_count = root-halves

-- that of the split of an inner root leaves the number
pub inner_root_splits_keep_the_leaves : InnerRootSplitsKeepTheLeaves
inner_root_splits_keep_the_leaves = root-parts

-- so do that of a merge of two inner nodes, and that of a lowering of the root
pub inner_merges_keep_the_leaves : InnerMergesKeepTheLeaves
inner_merges_keep_the_leaves = inner-merged

pub lowerings_keep_the_leaves : LoweringsKeepTheLeaves
lowerings_keep_the_leaves = root-lowered

-- that of a merge's link takes one away, and its freezes leave the number
pub merges_count : MergesCount
merges_count = merges-count

-- so the swap of whichever task makes of the number what its kind makes of it
pub swaps_count : SwapsCount
swaps_count = swaps-count

-- one leaf more comes only by the split of a leaf, and one less only by the merge of two
pub leaves_come_and_go : LeavesComeAndGo
leaves_come_and_go = leaves-come-and-go

-- with the last swap that a merge can still ask for there is one leaf less, and with those before it there are as many
pub merges_count_at_last : MergesCountAtLast
merges_count_at_last = merges-count-at-last

-- the swap of a delete leaves the leaf of its key all live words but those of one record, and the tree as it stands
pub deletes_take_one_record : DeletesTakeOneRecord
deletes_take_one_record = deletes-take-one

-- where it leaves fewer live words than a leaf needs to stand alone, the delete tells so
pub deletes_tell_few : DeletesTellFew
deletes_tell_few = deletes-tell-few
