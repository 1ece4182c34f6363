-- No task has more steps left, more swaps among them, or more slots to take, than at its begin.
use Rattle.std.proofs.Common.{ℕ, ◌-◌, ◌≤◌, Bool, true, false, arith}
use Rattle.bz_below.specs.Facts.{below_needs, below_swaps}
use Rattle.bz_any_task.specs.FromConsol.Facts.{consol_acts, consol_left, consol_needs, consol_swaps}
use Rattle.bz_any_task.specs.FromCrown.Facts.{crown_acts, crown_left, crown_needs, crown_swaps}
use Rattle.bz_descend.specs.SeekFacts.{asks_one}
use Rattle.bz_any_task.specs.FromFind.Phases.{reads_of}
use Rattle.bz_any_task.specs.FromFork.Facts.{fork_acts, fork_left, fork_needs, fork_swaps}
use Rattle.bz_freeze.specs.Facts.{freeze_left, freeze_swaps}
use Rattle.bz_any_task.specs.FromInsert.Facts.{insert_acts, insert_left, insert_swaps}
use Rattle.bz_any_task.specs.FromInner.JoinFacts.{joining_acts, joining_left, joining_needs, joining_swaps}
use Rattle.bz_any_task.specs.FromInner.JoinPhase.{JoinPhase}
use Rattle.bz_any_task.specs.FromInner.JoinPhase.TheVariants as join
use Rattle.bz_any_task.specs.FromInner.LowerFacts.{LOWER_ACTS, lower_left, lower_swaps}
use Rattle.bz_any_task.specs.FromInner.LowerPhase.{LowerPhase}
use Rattle.bz_any_task.specs.FromInner.LowerPhase.TheVariants as lower
use Rattle.bz_layout.specs.declared.swaps.TheConstants.{DELETE_SWAPS, FREEZE_SWAPS, INSERT_SWAPS, MERGE_SWAPS, RENEWAL_SWAPS, UPDATE_SWAPS}
use Rattle.bz_layout.specs.declared.thresholds.TheConstants.{CONSOLIDATION_SLOTS, MERGE_SLOTS, SPLIT_SLOTS}
use Rattle.bz_leaf.specs.Facts.{leaf_acts, leaf_left}
use Rattle.bz_any_task.specs.FromMerge.Counts.{merge_swaps}
use Rattle.bz_any_task.specs.FromMerge.Facts.{merge_acts, merge_left, merge_needs}
use Rattle.bz_mutate.specs.DeleteFacts.{delete_left, delete_swaps}
use Rattle.bz_mutate.specs.UpdateFacts.{update_acts, update_left, update_swaps}
use Rattle.bz_below.specs.FromSplit.Facts.{split_acts, split_left, split_needs, split_swaps}
use Rattle.bz_any_task.specs.Duties.{view_of}
use Rattle.bz_any_task.specs.declared.running.AnyTask.TheVariants.{Seeking, Finding, Reading, Inserting, Updating, Deleting, Freezing, Consolidating, Splitting, SplittingBelow, SplittingInner, SplittingInnerRoot, Merging, MergingInner, Lowering}
use Rattle.bz_costs.specs.Resources.{Resource, Marks, Descriptors, Slots}
use Rattle.bz_costs.specs.Laws.{TasksWeighLittle}
use Rattle.bz_costs.specs.Weights.{weight}
use Rattle.bz_descend.specs.declared.sight.Way.{Way as SeekPhase}
use Rattle.bz_descend.specs.declared.sight.Way.TheVariants as seek
use Rattle.bz_any_task.specs.FromFind.FindPhase.{FindPhase}
use Rattle.bz_any_task.specs.FromFind.FindPhase.TheVariants as find
use Rattle.bz_leaf.specs.declared.phase.LeafPhase.{LeafPhase}
use Rattle.bz_leaf.specs.declared.phase.LeafPhase.TheVariants as leaf
use Rattle.bz_any_task.specs.FromInsert.InsertPhase.{InsertPhase}
use Rattle.bz_any_task.specs.FromInsert.InsertPhase.TheVariants as insert
use Rattle.bz_mutate.specs.declared.update_phase.UpdatePhase.{UpdatePhase}
use Rattle.bz_mutate.specs.declared.update_phase.UpdatePhase.TheVariants as update
use Rattle.bz_mutate.specs.declared.delete_phase.DeletePhase.{DeletePhase}
use Rattle.bz_mutate.specs.declared.delete_phase.DeletePhase.TheVariants as delete
use Rattle.bz_freeze.specs.declared.phase.FreezePhase.{FreezePhase}
use Rattle.bz_freeze.specs.declared.phase.FreezePhase.TheVariants as freeze
use Rattle.bz_writer.specs.declared.phase.WritePhase.{WritePhase}
use Rattle.bz_writer.specs.declared.phase.WritePhase.TheVariants as write
use Rattle.bz_below.specs.declared.phase.BelowPhase.{BelowPhase}
use Rattle.bz_below.specs.declared.phase.BelowPhase.TheVariants as below
use Rattle.bz_any_task.specs.FromCrown.CrownPhase.{CrownPhase}
use Rattle.bz_any_task.specs.FromCrown.CrownPhase.TheVariants as crown
use Rattle.bz_any_task.specs.FromFork.ForkPhase.{ForkPhase}
use Rattle.bz_any_task.specs.FromFork.ForkPhase.TheVariants as fork
use Rattle.bz_any_task.specs.FromMerge.MergePhase.{MergePhase}
use Rattle.bz_any_task.specs.FromMerge.MergePhase.TheVariants as merge

-- each act of the two look-ups is counted as it is asked for
seek-one : (p : SeekPhase) → asks_one p ≤ 1
seek-one seek.Fresh = omega arith
seek-one p = omega arith

find-one : (p : FindPhase) → reads_of p ≤ 1
find-one find.Fresh = omega arith
find-one p = omega arith

leaf-few : (p : LeafPhase) → leaf_left p ≤ leaf_acts
leaf-few leaf.Fresh = omega arith
leaf-few p = omega arith

insert-few : (p : InsertPhase) → insert_left p ≤ insert_acts
insert-few insert.Fresh = omega arith
insert-few p = omega arith

update-few : (p : UpdatePhase) → update_left p ≤ update_acts
update-few update.Fresh = omega arith
update-few p = omega arith

delete-few : (p : DeletePhase) → delete_left p ≤ delete_left delete.Fresh
delete-few delete.Fresh = omega arith
delete-few p = omega arith

freeze-few : (p : FreezePhase) → freeze_left p ≤ freeze_left freeze.Fresh
freeze-few freeze.Fresh = omega arith
freeze-few p = omega arith

consol-few : (p : WritePhase) → consol_left p ≤ consol_acts
consol-few write.Fresh = omega arith
consol-few p = omega arith

split-few : (p : WritePhase) → split_left p ≤ split_acts
split-few write.Fresh = omega arith
split-few p = omega arith

crown-few : (p : CrownPhase) → crown_left p ≤ crown_acts
crown-few crown.Fresh = omega arith
crown-few (crown.Writing write.Fresh) = omega arith
crown-few p = omega arith

fork-few : (p : ForkPhase) → fork_left p ≤ fork_acts
fork-few fork.Fresh = omega arith
fork-few (fork.Writing write.Fresh) = omega arith
fork-few p = omega arith

merge-few : (right : Bool) (p : MergePhase) → merge_left right p ≤ merge_acts
merge-few true merge.Fresh = omega arith
merge-few true p = omega arith
merge-few false merge.Fresh = omega arith
merge-few false p = omega arith

joining-few : (p : JoinPhase) → joining_left p ≤ joining_acts
joining-few join.Fresh = omega arith
joining-few (join.Writing write.Fresh) = omega arith
joining-few p = omega arith

lower-few : (p : LowerPhase) → lower_left p ≤ LOWER_ACTS
lower-few lower.Fresh = omega arith
lower-few p = omega arith

insert-swaps : (p : InsertPhase) → insert_swaps p ≤ INSERT_SWAPS
insert-swaps insert.Fresh = omega arith
insert-swaps p = omega arith

update-swaps : (p : UpdatePhase) → update_swaps p ≤ UPDATE_SWAPS
update-swaps update.Fresh = omega arith
update-swaps p = omega arith

delete-swaps : (p : DeletePhase) → delete_swaps p ≤ DELETE_SWAPS
delete-swaps delete.Fresh = omega arith
delete-swaps p = omega arith

freeze-swaps : (p : FreezePhase) → freeze_swaps p ≤ FREEZE_SWAPS
freeze-swaps freeze.Fresh = omega arith
freeze-swaps p = omega arith

consol-swaps : (p : WritePhase) → consol_swaps p ≤ RENEWAL_SWAPS
consol-swaps write.Fresh = omega arith
consol-swaps p = omega arith

split-swaps : (p : WritePhase) → split_swaps p ≤ RENEWAL_SWAPS
split-swaps write.Fresh = omega arith
split-swaps p = omega arith

below-swaps : (p : BelowPhase) → below_swaps p ≤ RENEWAL_SWAPS
below-swaps below.Fresh = omega arith
below-swaps p = omega arith

crown-swaps : (p : CrownPhase) → crown_swaps p ≤ RENEWAL_SWAPS
crown-swaps crown.Fresh = omega arith
crown-swaps (crown.Writing write.Fresh) = omega arith
crown-swaps p = omega arith

fork-swaps : (p : ForkPhase) → fork_swaps p ≤ RENEWAL_SWAPS
fork-swaps fork.Fresh = omega arith
fork-swaps (fork.Writing write.Fresh) = omega arith
fork-swaps p = omega arith

merge-swaps : (p : MergePhase) → merge_swaps p ≤ MERGE_SWAPS
merge-swaps merge.Fresh = omega arith
merge-swaps p = omega arith

joining-swaps : (p : JoinPhase) → joining_swaps p ≤ RENEWAL_SWAPS
joining-swaps join.Fresh = omega arith
joining-swaps (join.Writing write.Fresh) = omega arith
joining-swaps p = omega arith

lower-swaps : (p : LowerPhase) → lower_swaps p ≤ RENEWAL_SWAPS
lower-swaps lower.Fresh = omega arith
lower-swaps p = omega arith

none : 0 ≤ 0
none = omega arith

consol-needs : (p : WritePhase) → consol_needs p ≤ CONSOLIDATION_SLOTS
consol-needs write.Fresh = omega arith
consol-needs p = omega arith

split-needs : (p : WritePhase) → split_needs p ≤ SPLIT_SLOTS
split-needs write.Fresh = omega arith
split-needs p = omega arith

below-needs : (p : BelowPhase) → below_needs p ≤ SPLIT_SLOTS
below-needs below.Fresh = omega arith
below-needs p = omega arith

crown-needs : (p : CrownPhase) → crown_needs p ≤ SPLIT_SLOTS
crown-needs crown.Fresh = omega arith
crown-needs (crown.Writing write.Fresh) = omega arith
crown-needs p = omega arith

fork-needs : (p : ForkPhase) → fork_needs p ≤ SPLIT_SLOTS
fork-needs fork.Fresh = omega arith
fork-needs (fork.Writing write.Fresh) = omega arith
fork-needs p = omega arith

merge-needs : (p : MergePhase) → merge_needs p ≤ MERGE_SLOTS
merge-needs merge.Fresh = omega arith
merge-needs p = omega arith

joining-needs : (p : JoinPhase) → joining_needs p ≤ MERGE_SLOTS
joining-needs join.Fresh = omega arith
joining-needs (join.Writing write.Fresh) = omega arith
joining-needs p = omega arith

-- fewer steps, swaps and slots weigh less, also where one swap is not counted any more
lighter : (r : Resource) (left most swaps all now slots needs : ℕ) → left ≤ most → swaps ≤ all → needs ≤ slots → weight r left (swaps - now) needs ≤ weight r most all slots
lighter Marks left most swaps all now slots needs l s n = omega (arith, l, s)
lighter Descriptors left most swaps all now slots needs l s n = omega (arith, s)
lighter Slots left most swaps all now slots needs l s n = n

pub weigh-little : (r : Resource) → TasksWeighLittle r
unfolding view_of
weigh-little r (Seeking t) w = lighter r _ _ _ _ _ _ _ (omega (arith, seek-one t.phase)) none none
weigh-little r (Finding t) w = lighter r _ _ _ _ _ _ _ (omega (arith, find-one t.phase)) none none
weigh-little r (Reading t) w = lighter r _ _ _ _ _ _ _ (leaf-few t.phase) none none
weigh-little r (Inserting t) w = lighter r _ _ _ _ _ _ _ (insert-few t.phase) (insert-swaps t.phase) none
weigh-little r (Updating t) w = lighter r _ _ _ _ _ _ _ (update-few t.phase) (update-swaps t.phase) none
weigh-little r (Deleting t) w = lighter r _ _ _ _ _ _ _ (delete-few t.phase) (delete-swaps t.phase) none
weigh-little r (Freezing t) w = lighter r _ _ _ _ _ _ _ (freeze-few t.phase) (freeze-swaps t.phase) none
weigh-little r (Consolidating t) w = lighter r _ _ _ _ _ _ _ (consol-few t.phase) (consol-swaps t.phase) (consol-needs t.phase)
weigh-little r (Splitting t) w = lighter r _ _ _ _ _ _ _ (split-few t.phase) (split-swaps t.phase) (split-needs t.phase)
weigh-little r (SplittingBelow t a) w = lighter r _ _ _ _ _ _ _ w (below-swaps t.phase) (below-needs t.phase)
weigh-little r (SplittingInner t a) w = lighter r _ _ _ _ _ _ _ (fork-few t.phase) (fork-swaps t.phase) (fork-needs t.phase)
weigh-little r (SplittingInnerRoot t a) w = lighter r _ _ _ _ _ _ _ (crown-few t.phase) (crown-swaps t.phase) (crown-needs t.phase)
weigh-little r (Merging t) w = lighter r _ _ _ _ _ _ _ (merge-few t.side.right t.phase) (merge-swaps t.phase) (merge-needs t.phase)
weigh-little r (MergingInner t) w = lighter r _ _ _ _ _ _ _ (joining-few t.phase) (joining-swaps t.phase) (joining-needs t.phase)
weigh-little r (Lowering t) w = lighter r _ _ _ _ _ _ _ (lower-few t.phase) (lower-swaps t.phase) none
