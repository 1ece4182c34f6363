-- What the contract of tasks says of a task, as statements of the task alone.
use Rattle.std.proofs.Common.{◌≡◌, ◌+◌, ◌≤◌, true, Some, arith, refl}
use Rattle.bz_consol.specs.Duties as consol
use Rattle.bz_consol.specs.declared.consolidate.Consolidate.{Consolidate}
use Rattle.bz_inner.specs.JoinFacts.{joining_needs}
use Rattle.bz_inner.specs.declared.join_phase.JoinPhase.{JoinPhase}
use Rattle.bz_inner.specs.declared.join_phase.JoinPhase.TheVariants as join
use Rattle.bz_insert.specs.Facts.{insert_made, insert_publishes}
use Rattle.bz_insert.specs.declared.phase.InsertPhase.{InsertPhase}
use Rattle.bz_insert.specs.declared.phase.InsertPhase.TheVariants.{Publish}
use Rattle.bz_layout.specs.declared.thresholds.TheConstants.{CONSOLIDATION_SLOTS, MERGE_SLOTS, SPLIT_SLOTS}
use Rattle.bz_merge.specs.Duties as merge
use Rattle.bz_merge.specs.declared.merge.Merge.{Merge}
use Rattle.bz_mutate.specs.DeleteFacts.{delete_publishes}
use Rattle.bz_mutate.specs.UpdateFacts.{update_made, update_publishes}
use Rattle.bz_mutate.specs.declared.delete_phase.DeletePhase.{DeletePhase}
use Rattle.bz_mutate.specs.declared.delete_phase.DeletePhase.TheVariants.{Remove}
use Rattle.bz_mutate.specs.declared.update_phase.UpdatePhase.{UpdatePhase}
use Rattle.bz_mutate.specs.declared.update_phase.UpdatePhase.TheVariants.{Replace}
use Rattle.bz_task.specs.Scene.{Scene, Waiting, HasFilled}
use Rattle.bz_layout.specs.declared.swaps.TheConstants.{DELETE_SWAPS, INSERT_SWAPS, UPDATE_SWAPS}
use Rattle.bz_task.specs.declared.todo.Outcome.{Outcome}
use Rattle.bz_writer.specs.declared.phase.WritePhase.TheVariants as write
use Rattle.bz_any_task.specs.Duties.{made_of, change_swaps, needs_of, wants_of, end_of, publishing_of, facts_of, means_of, view_of}
use Rattle.bz_any_task.specs.declared.running.AnyTask.{AnyTask}
use Rattle.bz_any_task.specs.declared.running.AnyTask.TheVariants.{Seeking, Finding, Reading, Inserting, Updating, Deleting, Freezing, Consolidating, Splitting, SplittingBelow, SplittingInner, SplittingInnerRoot, Merging, MergingInner, Lowering}

-- what its end means
abbrev pub Ends : AnyTask → Type 0
Ends t = (s : Scene) (outcome : Outcome) → facts_of t Waiting s → end_of t ≡ Some outcome → means_of t outcome s × HasFilled s

-- a merge of inner nodes takes two slots
joining-few : (p : JoinPhase) → joining_needs p ≤ MERGE_SLOTS
joining-few join.Fresh = omega arith
joining-few (join.Writing write.Fresh) = omega arith
joining-few p = omega arith

-- what a task still is to take is no more than what it takes in all
pub takes-few : ((t : Consolidate) → consol.needs_of t ≤ CONSOLIDATION_SLOTS) → ((t : Merge) → merge.needs_of t ≤ MERGE_SLOTS) → (t : AnyTask) → needs_of t ≤ SPLIT_SLOTS → needs_of t ≤ wants_of t
unfolding view_of wants_of
takes-few one merging (Seeking t) few = omega arith
takes-few one merging (Finding t) few = omega arith
takes-few one merging (Reading t) few = omega arith
takes-few one merging (Inserting t) few = omega arith
takes-few one merging (Updating t) few = omega arith
takes-few one merging (Deleting t) few = omega arith
takes-few one merging (Freezing t) few = omega arith
takes-few one merging (Consolidating t) few = one t
takes-few one merging (Splitting t) few = few
takes-few one merging (SplittingBelow t a) few = few
takes-few one merging (SplittingInner t a) few = few
takes-few one merging (SplittingInnerRoot t a) few = few
takes-few one merging (Merging t) few = merging t
takes-few one merging (MergingInner t) few = joining-few t.phase
takes-few one merging (Lowering t) few = omega arith

-- and no more than a split takes
pub wants-few : (t : AnyTask) → wants_of t ≤ SPLIT_SLOTS
unfolding wants_of
wants-few (Seeking t) = omega arith
wants-few (Finding t) = omega arith
wants-few (Reading t) = omega arith
wants-few (Inserting t) = omega arith
wants-few (Updating t) = omega arith
wants-few (Deleting t) = omega arith
wants-few (Freezing t) = omega arith
wants-few (Consolidating t) = omega arith
wants-few (Splitting t) = omega arith
wants-few (SplittingBelow t a) = omega arith
wants-few (SplittingInner t a) = omega arith
wants-few (SplittingInnerRoot t a) = omega arith
wants-few (Merging t) = omega arith
wants-few (MergingInner t) = omega arith
wants-few (Lowering t) = omega arith

-- the swap that makes a change is the last one of those that the change takes
by-insert : (phase : InsertPhase) → insert_publishes phase ≡ true → insert_made phase + 1 ≡ INSERT_SWAPS
by-insert Publish e = refl
by-insert phase e = absurd (cc)

by-update : (phase : UpdatePhase) → update_publishes phase ≡ true → update_made phase + 1 ≡ UPDATE_SWAPS
by-update (Replace f) e = refl
by-update phase e = absurd (cc)

by-delete : (phase : DeletePhase) → delete_publishes phase ≡ true → 0 + 1 ≡ DELETE_SWAPS
by-delete (Remove f) e = refl
by-delete phase e = absurd (cc)

pub publishes-last : (t : AnyTask) → publishing_of t ≡ true → made_of t + 1 ≡ change_swaps t
unfolding view_of change_swaps
publishes-last (Inserting t) e = by-insert t.phase e
publishes-last (Updating t) e = by-update t.phase e
publishes-last (Deleting t) e = by-delete t.phase e
publishes-last t e = absurd (cc)
