-- Only the split of an inner root ends because the tree is too high, and then each level that inner nodes may have was full.
use Rattle.std.proofs.Common.{◌≡◌, refl, arith, Some}
use Rattle.bz_call.specs.declared.replies.Spent.TheVariants.{Height}
use Rattle.bz_layout.specs.declared.thresholds.TheConstants.{SPLIT_SLOTS}
use Rattle.bz_ascent.proofs.Proved.{ascents_end}
use Rattle.bz_task.specs.Scene.{Scene, Waiting, IsScene}
use Rattle.bz_task.specs.declared.todo.Outcome.TheVariants.{Full}
use Rattle.bz_any_task.specs.Duties.{end_of, wants_of, ascent_of, facts_of, means_of, view_of}
use Rattle.bz_any_task.specs.Laws.{HaveFilledUp}
use Rattle.bz_any_task.specs.declared.running.AnyTask.{AnyTask}
use Rattle.bz_any_task.specs.declared.running.AnyTask.TheVariants.{Seeking, Finding, Reading, Inserting, Updating, Deleting, Freezing, Consolidating, Splitting, SplittingBelow, SplittingInner, SplittingInnerRoot, Merging, MergingInner, Lowering}
use Rattle.bz_any_task.proofs.Statements.{Ends}

by-end : (t : AnyTask) (s : Scene) → IsScene s → facts_of t Waiting s → means_of t (Full Height) s → (wants_of t ≡ SPLIT_SLOTS) × HaveFilledUp (ascent_of t) s.past
unfolding wants_of ascent_of view_of
by-end (Seeking t) s good f m = absurd m
by-end (Finding t) s good f m = absurd m
by-end (Reading t) s good f m = absurd m
by-end (Inserting t) s good f m = absurd m
by-end (Updating t) s good f m = absurd m
by-end (Deleting t) s good f m = absurd m
by-end (Freezing t) s good f m = absurd m
by-end (Consolidating t) s good f m = absurd m
by-end (Splitting t) s good f m = absurd m
by-end (SplittingBelow t a) s good f m = absurd m
by-end (SplittingInner t a) s good f m = absurd m
by-end (SplittingInnerRoot t a) s good f m = let w = f.1.1.high s m in (refl, ascents_end a s w.moment good f.1.0 w.since w.now w.node.inside (omega (arith, w.highest, w.node.level_is)))
by-end (Merging t) s good f m = absurd m
by-end (MergingInner t) s good f m = absurd m
by-end (Lowering t) s good f m = absurd m

pub filled-up : (t : AnyTask) → Ends t → (s : Scene) → IsScene s → facts_of t Waiting s → end_of t ≡ Some (Full Height) → (wants_of t ≡ SPLIT_SLOTS) × HaveFilledUp (ascent_of t) s.past
filled-up t ends s good f e = by-end t s good f (ends s (Full Height) f e).0
