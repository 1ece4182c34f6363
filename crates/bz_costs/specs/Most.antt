-- The greatest weight of a task of each kind, which is that at its begin.
use Rattle.std.specs.Prelude.{ℕ, ◌+◌, ◌≤◌}
use Rattle.bz_below.specs.Duties.{left_below}
use Rattle.bz_below.specs.Facts.{below_acts}
use Rattle.bz_any_task.specs.FromConsol.Facts.{consol_acts}
use Rattle.bz_any_task.specs.FromCrown.Facts.{crown_acts}
use Rattle.bz_descend.specs.SeekFacts.{seek_reads}
use Rattle.bz_any_task.specs.FromFind.Facts.{find_acts}
use Rattle.bz_any_task.specs.FromFork.Facts.{fork_acts}
use Rattle.bz_freeze.specs.Facts.{freeze_left}
use Rattle.bz_freeze.specs.declared.phase.FreezePhase.TheVariants as freeze
use Rattle.bz_any_task.specs.FromInsert.Facts.{insert_acts}
use Rattle.bz_any_task.specs.FromInner.JoinFacts.{joining_acts}
use Rattle.bz_any_task.specs.FromInner.LowerFacts.{LOWER_ACTS}
use Rattle.bz_layout.specs.declared.swaps.TheConstants.{DELETE_SWAPS, FREEZE_SWAPS, INSERT_SWAPS, MERGE_SWAPS, RENEWAL_SWAPS, UPDATE_SWAPS}
use Rattle.bz_layout.specs.declared.thresholds.TheConstants.{CONSOLIDATION_SLOTS, MERGE_SLOTS, SPLIT_SLOTS}
use Rattle.bz_leaf.specs.Facts.{leaf_acts}
use Rattle.bz_any_task.specs.FromMerge.Facts.{merge_acts}
use Rattle.bz_mutate.specs.DeleteFacts.{delete_left}
use Rattle.bz_mutate.specs.UpdateFacts.{update_acts}
use Rattle.bz_mutate.specs.declared.delete_phase.DeletePhase.TheVariants as delete
use Rattle.bz_below.specs.FromSplit.Facts.{split_acts}
use Rattle.bz_any_task.specs.declared.running.AnyTask.{AnyTask}
use Rattle.bz_any_task.specs.declared.running.AnyTask.TheVariants.{Seeking, Finding, Reading, Inserting, Updating, Deleting, Freezing, Consolidating, Splitting, SplittingBelow, SplittingInner, SplittingInnerRoot, Merging, MergingInner, Lowering}
use Rattle.bz_costs.specs.Resources.{Resource}
use Rattle.bz_costs.specs.Weights.{weight}

-- the way to the leaf of a key: its reads, and its end
abbrev pub most_of_seek : Resource → ℕ
most_of_seek r = weight r (seek_reads + 1) 0 0

-- a look-up of a key in a leaf
abbrev pub most_of_find : Resource → ℕ
most_of_find r = weight r find_acts 0 0

-- a leaf that is read whole
abbrev pub most_of_leaf : Resource → ℕ
most_of_leaf r = weight r leaf_acts 0 0

-- the changes of a record
abbrev pub most_of_insert : Resource → ℕ
most_of_insert r = weight r insert_acts INSERT_SWAPS 0

abbrev pub most_of_update : Resource → ℕ
most_of_update r = weight r update_acts UPDATE_SWAPS 0

abbrev pub most_of_delete : Resource → ℕ
most_of_delete r = weight r (delete_left delete.Fresh) DELETE_SWAPS 0

-- a freeze, a copy, a merge, and the splits: of a root that is a leaf, of a leaf below a parent, of an inner node, and of a root that is one
abbrev pub most_of_freeze : Resource → ℕ
most_of_freeze r = weight r (freeze_left freeze.Fresh) FREEZE_SWAPS 0

abbrev pub most_of_copy : Resource → ℕ
most_of_copy r = weight r consol_acts RENEWAL_SWAPS CONSOLIDATION_SLOTS

abbrev pub most_of_merge : Resource → ℕ
most_of_merge r = weight r merge_acts MERGE_SWAPS MERGE_SLOTS

abbrev pub most_of_root : Resource → ℕ
most_of_root r = weight r split_acts RENEWAL_SWAPS SPLIT_SLOTS

abbrev pub most_of_below : Resource → ℕ
most_of_below r = weight r below_acts RENEWAL_SWAPS SPLIT_SLOTS

abbrev pub most_of_inner : Resource → ℕ
most_of_inner r = weight r fork_acts RENEWAL_SWAPS SPLIT_SLOTS

abbrev pub most_of_inner_root : Resource → ℕ
most_of_inner_root r = weight r crown_acts RENEWAL_SWAPS SPLIT_SLOTS

-- a merge of two inner nodes, and a lowering of the root
abbrev pub most_of_joining : Resource → ℕ
most_of_joining r = weight r joining_acts RENEWAL_SWAPS MERGE_SLOTS

abbrev pub most_of_lowering : Resource → ℕ
most_of_lowering r = weight r LOWER_ACTS RENEWAL_SWAPS 0

abbrev pub most_of : Resource → AnyTask → ℕ
most_of r (Seeking t) = most_of_seek r
most_of r (Finding t) = most_of_find r
most_of r (Reading t) = most_of_leaf r
most_of r (Inserting t) = most_of_insert r
most_of r (Updating t) = most_of_update r
most_of r (Deleting t) = most_of_delete r
most_of r (Freezing t) = most_of_freeze r
most_of r (Consolidating t) = most_of_copy r
most_of r (Splitting t) = most_of_root r
most_of r (SplittingBelow t a) = most_of_below r
most_of r (SplittingInner t a) = most_of_inner r
most_of r (SplittingInnerRoot t a) = most_of_inner_root r
most_of r (Merging t) = most_of_merge r
most_of r (MergingInner t) = most_of_joining r
most_of r (Lowering t) = most_of_lowering r

-- it has no more steps left than at its begin: of the split of a leaf below a parent this is to be known, since the number of loads in which
-- it may read its parent anew is one that it keeps; of each other task it is always so
abbrev pub IsWithinItsActs : AnyTask → Type 0
IsWithinItsActs (SplittingBelow t a) = left_below t ≤ below_acts
IsWithinItsActs t = Unit {0}
