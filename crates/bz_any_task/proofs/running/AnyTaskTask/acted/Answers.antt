use Rattle.std.proofs.Common.{sym, subst}
use Rattle.bz_task.specs.Contract.{ActsWell}
use Rattle.bz_ascent.specs.FromBelow.Duties.{below_view}
use Rattle.bz_fork.specs.Duties.{fork_view}
use Rattle.bz_crown.specs.Duties.{crown_view}
use Rattle.bz_any_task.specs.Duties.{view_of}
use Rattle.bz_any_task.proofs.Ascending.{acts-on-ascent}
use Rattle.bz_any_task.proofs.running.AnyTaskTask.acted.Goals as goal

pub returns-in-Seeking : goal.returns-in-Seeking
unfolding view_of
returns-in-Seeking c = subst (λ t. ActsWell (view_of t)) (sym c.in-Seeking.is) c.acted.ensures

pub returns-in-Finding : goal.returns-in-Finding
unfolding view_of
returns-in-Finding c = subst (λ t. ActsWell (view_of t)) (sym c.in-Finding.is) c.acted-in-Finding.ensures

pub returns-in-Reading : goal.returns-in-Reading
unfolding view_of
returns-in-Reading c = subst (λ t. ActsWell (view_of t)) (sym c.in-Reading.is) c.acted-in-Reading.ensures

pub returns-in-Inserting : goal.returns-in-Inserting
unfolding view_of
returns-in-Inserting c = subst (λ t. ActsWell (view_of t)) (sym c.in-Inserting.is) c.acted-in-Inserting.ensures

pub returns-in-Updating : goal.returns-in-Updating
unfolding view_of
returns-in-Updating c = subst (λ t. ActsWell (view_of t)) (sym c.in-Updating.is) c.acted-in-Updating.ensures

pub returns-in-Deleting : goal.returns-in-Deleting
unfolding view_of
returns-in-Deleting c = subst (λ t. ActsWell (view_of t)) (sym c.in-Deleting.is) c.acted-in-Deleting.ensures

pub returns-in-Freezing : goal.returns-in-Freezing
unfolding view_of
returns-in-Freezing c = subst (λ t. ActsWell (view_of t)) (sym c.in-Freezing.is) c.acted-in-Freezing.ensures

pub returns-in-Consolidating : goal.returns-in-Consolidating
unfolding view_of
returns-in-Consolidating c = subst (λ t. ActsWell (view_of t)) (sym c.in-Consolidating.is) c.acted-in-Consolidating.ensures

pub returns-in-Splitting : goal.returns-in-Splitting
unfolding view_of
returns-in-Splitting c = subst (λ t. ActsWell (view_of t)) (sym c.in-Splitting.is) c.acted-in-Splitting.ensures

pub returns-in-SplittingBelow : goal.returns-in-SplittingBelow
unfolding view_of
returns-in-SplittingBelow c = subst (λ t. ActsWell (view_of t)) (sym c.in-SplittingBelow.is) (acts-on-ascent c.in-SplittingBelow.field-1 (below_view c.in-SplittingBelow.task) c.acted-in-SplittingBelow.ensures)

pub returns-in-SplittingInner : goal.returns-in-SplittingInner
unfolding view_of
returns-in-SplittingInner c = subst (λ t. ActsWell (view_of t)) (sym c.in-SplittingInner.is) (acts-on-ascent c.in-SplittingInner.field-1 (fork_view c.in-SplittingInner.task) c.acted-in-SplittingInner.ensures)

pub returns-in-SplittingInnerRoot : goal.returns-in-SplittingInnerRoot
unfolding view_of
returns-in-SplittingInnerRoot c = subst (λ t. ActsWell (view_of t)) (sym c.in-SplittingInnerRoot.is) (acts-on-ascent c.in-SplittingInnerRoot.field-1 (crown_view c.in-SplittingInnerRoot.task) c.acted-in-SplittingInnerRoot.ensures)

pub returns-in-Merging : goal.returns-in-Merging
unfolding view_of
returns-in-Merging c = subst (λ t. ActsWell (view_of t)) (sym c.in-Merging.is) c.acted-in-Merging.ensures

pub returns-in-MergingInner : goal.returns-in-MergingInner
unfolding view_of
returns-in-MergingInner c = subst (λ t. ActsWell (view_of t)) (sym c.in-MergingInner.is) c.acted-in-MergingInner.ensures

pub returns-in-Lowering : goal.returns-in-Lowering
unfolding view_of
returns-in-Lowering c = subst (λ t. ActsWell (view_of t)) (sym c.in-Lowering.is) c.acted-in-Lowering.ensures
