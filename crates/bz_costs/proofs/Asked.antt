-- A swap that a task asks for is counted among those that it may still ask for.
use Rattle.std.proofs.Common.{ℕ, ◌≤◌, arith}
use Rattle.bz_below.specs.Duties.{below_of}
use Rattle.bz_below.specs.Facts.{Below, below_asks, below_swaps}
use Rattle.bz_any_task.specs.FromConsol.Duties.{renewal_of}
use Rattle.bz_any_task.specs.FromConsol.Facts.{Renewal, consol_asks, consol_swaps}
use Rattle.bz_any_task.specs.FromCrown.Duties.{crown_of}
use Rattle.bz_any_task.specs.FromCrown.Facts.{Crown, crown_asks, crown_swaps}
use Rattle.bz_descend.specs.SeekFacts.{seek_asks}
use Rattle.bz_any_task.specs.FromFind.Phases.{find_asks}
use Rattle.bz_any_task.specs.FromFind.Find.{Find}
use Rattle.bz_any_task.specs.FromFork.Duties.{fork_of}
use Rattle.bz_any_task.specs.FromFork.Facts.{Fork, fork_asks, fork_swaps}
use Rattle.bz_freeze.specs.Facts.{freeze_asks, freeze_swaps}
use Rattle.bz_any_task.specs.FromInsert.Facts.{insert_asks, insert_swaps}
use Rattle.bz_any_task.specs.FromInner.JoinDuties.{joining_of}
use Rattle.bz_any_task.specs.FromInner.JoinFacts.{joining_asks, joining_swaps}
use Rattle.bz_any_task.specs.FromInner.Joinings.{Joining}
use Rattle.bz_any_task.specs.FromInner.JoinPhase.{JoinPhase}
use Rattle.bz_any_task.specs.FromInner.JoinPhase.TheVariants as join
use Rattle.bz_any_task.specs.FromInner.LowerDuties.{lowering_of}
use Rattle.bz_any_task.specs.FromInner.LowerFacts.{Lowering as Lowers, lower_asks, lower_swaps}
use Rattle.bz_any_task.specs.FromInner.LowerPhase.{LowerPhase}
use Rattle.bz_any_task.specs.FromInner.LowerPhase.TheVariants as lower
use Rattle.bz_layout.specs.declared.config.Config.{Config}
use Rattle.bz_leaf.specs.Facts.{leaf_asks}
use Rattle.bz_any_task.specs.FromMerge.Counts.{merge_swaps}
use Rattle.bz_any_task.specs.FromMerge.Duties.{merging_of}
use Rattle.bz_any_task.specs.FromMerge.Facts.{merge_asks}
use Rattle.bz_any_task.specs.FromMerge.Plans.{Merging as Merge}
use Rattle.bz_mutate.specs.DeleteFacts.{delete_asks, delete_swaps}
use Rattle.bz_mutate.specs.UpdateFacts.{update_asks, update_swaps}
use Rattle.bz_node.specs.declared.image.NodeImage.{NodeImage}
use Rattle.bz_any_task.specs.FromInsert.NewRecord.{NewRecord}
use Rattle.bz_below.specs.FromSplit.Duties.{split_of}
use Rattle.bz_below.specs.FromSplit.Facts.{Split, split_asks, split_swaps}
use Rattle.bz_task.specs.Requests.{swaps_in}
use Rattle.bz_task.specs.declared.path.Link.{Link}
use Rattle.bz_task.specs.declared.view.KeyView.{KeyView}
use Rattle.bz_any_task.specs.Duties.{view_of}
use Rattle.bz_any_task.specs.declared.running.AnyTask.TheVariants.{Seeking, Finding, Reading, Inserting, Updating, Deleting, Freezing, Consolidating, Splitting, SplittingBelow, SplittingInner, SplittingInnerRoot, Merging, MergingInner, Lowering}
use Rattle.bz_costs.specs.Laws.{AskedSwapsAreCounted}
use Rattle.bz_descend.specs.declared.sight.Way.{Way as SeekPhase}
use Rattle.bz_descend.specs.declared.sight.Way.TheVariants as seek
use Rattle.bz_any_task.specs.FromFind.FindPhase.{FindPhase}
use Rattle.bz_any_task.specs.FromFind.FindPhase.TheVariants as find
use Rattle.bz_leaf.specs.declared.phase.LeafPhase.{LeafPhase}
use Rattle.bz_leaf.specs.declared.phase.LeafPhase.TheVariants as leaf
use Rattle.bz_any_task.specs.FromInsert.InsertPhase.{InsertPhase}
use Rattle.bz_any_task.specs.FromInsert.InsertPhase.TheVariants as insert
use Rattle.bz_mutate.specs.declared.update_phase.UpdatePhase.{UpdatePhase}
use Rattle.bz_mutate.specs.declared.update_phase.UpdatePhase.TheVariants as update
use Rattle.bz_mutate.specs.declared.delete_phase.DeletePhase.{DeletePhase}
use Rattle.bz_mutate.specs.declared.delete_phase.DeletePhase.TheVariants as delete
use Rattle.bz_freeze.specs.declared.phase.FreezePhase.{FreezePhase}
use Rattle.bz_freeze.specs.declared.phase.FreezePhase.TheVariants as freeze
use Rattle.bz_writer.specs.declared.phase.WritePhase.{WritePhase}
use Rattle.bz_writer.specs.declared.phase.WritePhase.TheVariants as write
use Rattle.bz_below.specs.declared.phase.BelowPhase.{BelowPhase}
use Rattle.bz_below.specs.declared.phase.BelowPhase.TheVariants as below
use Rattle.bz_any_task.specs.FromCrown.CrownPhase.{CrownPhase}
use Rattle.bz_any_task.specs.FromCrown.CrownPhase.TheVariants as crown
use Rattle.bz_any_task.specs.FromFork.ForkPhase.{ForkPhase}
use Rattle.bz_any_task.specs.FromFork.ForkPhase.TheVariants as fork
use Rattle.bz_any_task.specs.FromMerge.MergePhase.{MergePhase}
use Rattle.bz_any_task.specs.FromMerge.MergePhase.TheVariants as merge

seek-counted : (c : Config) (p : SeekPhase) → swaps_in (seek_asks c p) ≤ 0
seek-counted c seek.Fresh = omega arith
seek-counted c p = omega arith

find-counted : (t : Find) (p : FindPhase) → swaps_in (find_asks t p) ≤ 0
find-counted t find.Fresh = omega arith
find-counted t p = omega arith

leaf-counted : (c : Config) (link : Link) (image : NodeImage) (p : LeafPhase) → swaps_in (leaf_asks c link image p) ≤ 0
leaf-counted c link image leaf.Fresh = omega arith
leaf-counted c link image p = omega arith

insert-counted : (c : Config) (r : NewRecord) (p : InsertPhase) → swaps_in (insert_asks c r p) ≤ insert_swaps p
insert-counted c r insert.Fresh = omega arith
insert-counted c r p = omega arith

update-counted : (c : Config) (r : NewRecord) (p : UpdatePhase) → swaps_in (update_asks c r p) ≤ update_swaps p
update-counted c r update.Fresh = omega arith
update-counted c r p = omega arith

delete-counted : (c : Config) (v : KeyView) (p : DeletePhase) → swaps_in (delete_asks c v p) ≤ delete_swaps p
delete-counted c v delete.Fresh = omega arith
delete-counted c v p = omega arith

freeze-counted : (c : Config) (k st : ℕ) (p : FreezePhase) → swaps_in (freeze_asks c k st p) ≤ freeze_swaps p
freeze-counted c k st freeze.Fresh = omega arith
freeze-counted c k st p = omega arith

consol-counted : (c : Config) (r : Renewal) (p : WritePhase) → swaps_in (consol_asks c r p) ≤ consol_swaps p
consol-counted c r write.Fresh = omega arith
consol-counted c r p = omega arith

split-counted : (c : Config) (r : Split) (p : WritePhase) → swaps_in (split_asks c r p) ≤ split_swaps p
split-counted c r write.Fresh = omega arith
split-counted c r p = omega arith

below-counted : (c : Config) (r : Below) (p : BelowPhase) → swaps_in (below_asks c r p) ≤ below_swaps p
below-counted c r below.Fresh = omega arith
below-counted c r p = omega arith

crown-counted : (c : Config) (r : Crown) (p : CrownPhase) → swaps_in (crown_asks c r p) ≤ crown_swaps p
crown-counted c r crown.Fresh = omega arith
crown-counted c r (crown.Writing write.Fresh) = omega arith
crown-counted c r p = omega arith

fork-counted : (c : Config) (r : Fork) (p : ForkPhase) → swaps_in (fork_asks c r p) ≤ fork_swaps p
fork-counted c r fork.Fresh = omega arith
fork-counted c r (fork.Writing write.Fresh) = omega arith
fork-counted c r p = omega arith

merge-counted : (c : Config) (r : Merge) (p : MergePhase) → swaps_in (merge_asks c r p) ≤ merge_swaps p
merge-counted c r merge.Fresh = omega arith
merge-counted c r p = omega arith

joining-counted : (c : Config) (r : Joining) (p : JoinPhase) → swaps_in (joining_asks c r p) ≤ joining_swaps p
joining-counted c r join.Fresh = omega arith
joining-counted c r (join.Writing write.Fresh) = omega arith
joining-counted c r p = omega arith

lower-counted : (c : Config) (r : Lowers) (p : LowerPhase) → swaps_in (lower_asks c r p) ≤ lower_swaps p
lower-counted c r lower.Fresh = omega arith
lower-counted c r p = omega arith

pub asked-counted : AskedSwapsAreCounted
unfolding view_of
asked-counted (Seeking t) = seek-counted t.config t.phase
asked-counted (Finding t) = find-counted t t.phase
asked-counted (Reading t) = leaf-counted t.config t.link t.image t.phase
asked-counted (Inserting t) = insert-counted t.config t.added t.phase
asked-counted (Updating t) = update-counted t.config t.added t.phase
asked-counted (Deleting t) = delete-counted t.config t.view t.phase
asked-counted (Freezing t) = freeze-counted t.config t.slot t.status t.phase
asked-counted (Consolidating t) = consol-counted t.config (renewal_of t) t.phase
asked-counted (Splitting t) = split-counted t.config (split_of t) t.phase
asked-counted (SplittingBelow t a) = below-counted t.config (below_of t) t.phase
asked-counted (SplittingInner t a) = fork-counted t.config (fork_of t) t.phase
asked-counted (SplittingInnerRoot t a) = crown-counted t.config (crown_of t) t.phase
asked-counted (Merging t) = merge-counted t.config (merging_of t) t.phase
asked-counted (MergingInner t) = joining-counted t.config (joining_of t) t.phase
asked-counted (Lowering t) = lower-counted t.config (lowering_of t) t.phase
