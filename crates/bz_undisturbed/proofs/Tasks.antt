-- Whichever task it is, by the law of its own kind.
use Rattle.bz_any_task.specs.Duties.{view_of}
use Rattle.bz_any_task.specs.declared.running.AnyTask.TheVariants.{Seeking, Finding, Reading, Inserting, Updating, Deleting, Freezing, Consolidating, Splitting, SplittingBelow, SplittingInner, SplittingInnerRoot, Merging, MergingInner, Lowering}
use Rattle.bz_undisturbed.specs.Tasks.{UndisturbedTasksGoOn}
use Rattle.bz_undisturbed.proofs.Changing.{inserts-go-on, updates-go-on}
use Rattle.bz_undisturbed.proofs.Consolidating.{consolidations-go-on}
use Rattle.bz_undisturbed.proofs.Deleting.{deletes-go-on}
use Rattle.bz_undisturbed.proofs.Finding.{finds-go-on}
use Rattle.bz_undisturbed.proofs.Freezing.{freezes-go-on}
use Rattle.bz_undisturbed.proofs.LoweringRoot.{lowerings-go-on}
use Rattle.bz_undisturbed.proofs.Merging.{merges-go-on}
use Rattle.bz_undisturbed.proofs.MergingInner.{inner-merges-go-on}
use Rattle.bz_undisturbed.proofs.Reading.{readings-go-on}
use Rattle.bz_undisturbed.proofs.Seeking.{seeks-go-on}
use Rattle.bz_undisturbed.proofs.Splitting.{root-splits-go-on}
use Rattle.bz_undisturbed.proofs.SplittingBelow.{splits-below-go-on}
use Rattle.bz_undisturbed.proofs.SplittingInner.{inner-splits-go-on}
use Rattle.bz_undisturbed.proofs.SplittingRoot.{inner-root-splits-go-on}

pub undisturbed-tasks-go-on : UndisturbedTasksGoOn
unfolding view_of
undisturbed-tasks-go-on (Seeking t) s same good f a = seeks-go-on t s same good f a
undisturbed-tasks-go-on (Finding t) s same good f a = finds-go-on t s same good f a
undisturbed-tasks-go-on (Reading t) s same good f a = readings-go-on t s same good f a
undisturbed-tasks-go-on (Inserting t) s same good f a = inserts-go-on t s same good f a
undisturbed-tasks-go-on (Updating t) s same good f a = updates-go-on t s same good f a
undisturbed-tasks-go-on (Deleting t) s same good f a = deletes-go-on t s same good f a
undisturbed-tasks-go-on (Freezing t) s same good f a = freezes-go-on t s same good f a
undisturbed-tasks-go-on (Consolidating t) s same good f a = consolidations-go-on t s same good f a
undisturbed-tasks-go-on (Splitting t) s same good f a = root-splits-go-on t s same good f a
undisturbed-tasks-go-on (SplittingBelow t up) s same good f a = splits-below-go-on t s same good f.0 a
undisturbed-tasks-go-on (SplittingInner t up) s same good f a = inner-splits-go-on t s same good f.0 a
undisturbed-tasks-go-on (SplittingInnerRoot t up) s same good f a = inner-root-splits-go-on t s same good f.0 a
undisturbed-tasks-go-on (Merging t) s same good f a = merges-go-on t s same good f a
undisturbed-tasks-go-on (MergingInner t) s same good f a = inner-merges-go-on t s same good f a
undisturbed-tasks-go-on (Lowering t) s same good f a = lowerings-go-on t s same good f a
