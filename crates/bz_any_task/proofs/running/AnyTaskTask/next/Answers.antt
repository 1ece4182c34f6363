use Rattle.std.proofs.Common.{sym, subst}
use Rattle.bz_task.specs.Contract.{MayHear, GoesOn, Learns}
use Rattle.bz_ascent.specs.FromBelow.Duties.{below_view}
use Rattle.bz_fork.specs.Duties.{fork_view}
use Rattle.bz_crown.specs.Duties.{crown_view}
use Rattle.bz_any_task.specs.Duties.{view_of}
use Rattle.bz_any_task.specs.declared.running.AnyTask.TheVariants.{Seeking, Finding, Reading, Inserting, Updating, Deleting, Freezing, Consolidating, Splitting, SplittingBelow, SplittingInner, SplittingInnerRoot, Merging, MergingInner, Lowering}
use Rattle.bz_any_task.proofs.Ascending.{hears-on-ascent, goes-on-ascent, learns-on-ascent}
use Rattle.bz_any_task.proofs.running.AnyTaskTask.next.Goals as goal

pub next-requires : goal.next-requires
unfolding view_of
next-requires c = subst (λ t. MayHear (view_of t) c.args.seen c.args.moment c.args.slots.now) c.in-Seeking.is c.requires

pub next-requires-in-Finding : goal.next-requires-in-Finding
unfolding view_of
next-requires-in-Finding c = subst (λ t. MayHear (view_of t) c.args.seen c.args.moment c.args.slots.now) c.in-Finding.is c.requires

pub next-requires-in-Reading : goal.next-requires-in-Reading
unfolding view_of
next-requires-in-Reading c = subst (λ t. MayHear (view_of t) c.args.seen c.args.moment c.args.slots.now) c.in-Reading.is c.requires

pub next-requires-in-Inserting : goal.next-requires-in-Inserting
unfolding view_of
next-requires-in-Inserting c = subst (λ t. MayHear (view_of t) c.args.seen c.args.moment c.args.slots.now) c.in-Inserting.is c.requires

pub next-requires-in-Updating : goal.next-requires-in-Updating
unfolding view_of
next-requires-in-Updating c = subst (λ t. MayHear (view_of t) c.args.seen c.args.moment c.args.slots.now) c.in-Updating.is c.requires

pub next-requires-in-Deleting : goal.next-requires-in-Deleting
unfolding view_of
next-requires-in-Deleting c = subst (λ t. MayHear (view_of t) c.args.seen c.args.moment c.args.slots.now) c.in-Deleting.is c.requires

pub next-requires-in-Freezing : goal.next-requires-in-Freezing
unfolding view_of
next-requires-in-Freezing c = subst (λ t. MayHear (view_of t) c.args.seen c.args.moment c.args.slots.now) c.in-Freezing.is c.requires

pub next-requires-in-Consolidating : goal.next-requires-in-Consolidating
unfolding view_of
next-requires-in-Consolidating c = subst (λ t. MayHear (view_of t) c.args.seen c.args.moment c.args.slots.now) c.in-Consolidating.is c.requires

pub next-requires-in-Splitting : goal.next-requires-in-Splitting
unfolding view_of
next-requires-in-Splitting c = subst (λ t. MayHear (view_of t) c.args.seen c.args.moment c.args.slots.now) c.in-Splitting.is c.requires

pub next-requires-in-SplittingBelow : goal.next-requires-in-SplittingBelow
unfolding view_of
next-requires-in-SplittingBelow c = hears-on-ascent c.in-SplittingBelow.field-1 (below_view c.in-SplittingBelow.task) (subst (λ t. MayHear (view_of t) c.args.seen c.args.moment c.args.slots.now) c.in-SplittingBelow.is c.requires)

pub next-requires-in-SplittingInner : goal.next-requires-in-SplittingInner
unfolding view_of
next-requires-in-SplittingInner c = hears-on-ascent c.in-SplittingInner.field-1 (fork_view c.in-SplittingInner.task) (subst (λ t. MayHear (view_of t) c.args.seen c.args.moment c.args.slots.now) c.in-SplittingInner.is c.requires)

pub next-requires-in-SplittingInnerRoot : goal.next-requires-in-SplittingInnerRoot
unfolding view_of
next-requires-in-SplittingInnerRoot c = hears-on-ascent c.in-SplittingInnerRoot.field-1 (crown_view c.in-SplittingInnerRoot.task) (subst (λ t. MayHear (view_of t) c.args.seen c.args.moment c.args.slots.now) c.in-SplittingInnerRoot.is c.requires)

pub next-requires-in-Merging : goal.next-requires-in-Merging
unfolding view_of
next-requires-in-Merging c = subst (λ t. MayHear (view_of t) c.args.seen c.args.moment c.args.slots.now) c.in-Merging.is c.requires

pub next-requires-in-MergingInner : goal.next-requires-in-MergingInner
unfolding view_of
next-requires-in-MergingInner c = subst (λ t. MayHear (view_of t) c.args.seen c.args.moment c.args.slots.now) c.in-MergingInner.is c.requires

pub next-requires-in-Lowering : goal.next-requires-in-Lowering
unfolding view_of
next-requires-in-Lowering c = subst (λ t. MayHear (view_of t) c.args.seen c.args.moment c.args.slots.now) c.in-Lowering.is c.requires

pub returns-in-Seeking : goal.returns-in-Seeking
unfolding view_of
returns-in-Seeking c = record {
  goes = subst (λ t. GoesOn (view_of t) (view_of (Seeking c.next.new.self)) c.args.seen c.args.slots.now c.next.new.slots c.next.result) (sym c.in-Seeking.is) c.next.ensures.goes;
  learns = subst (λ t. Learns (view_of t) (view_of (Seeking c.next.new.self)) c.args.seen c.args.moment c.args.slots.now c.next.new.slots) (sym c.in-Seeking.is) c.next.ensures.learns;
}

pub returns-in-Finding : goal.returns-in-Finding
unfolding view_of
returns-in-Finding c = record {
  goes = subst (λ t. GoesOn (view_of t) (view_of (Finding c.next-in-Finding.new.self)) c.args.seen c.args.slots.now c.next-in-Finding.new.slots c.next-in-Finding.result) (sym c.in-Finding.is) c.next-in-Finding.ensures.goes;
  learns = subst (λ t. Learns (view_of t) (view_of (Finding c.next-in-Finding.new.self)) c.args.seen c.args.moment c.args.slots.now c.next-in-Finding.new.slots) (sym c.in-Finding.is) c.next-in-Finding.ensures.learns;
}

pub returns-in-Reading : goal.returns-in-Reading
unfolding view_of
returns-in-Reading c = record {
  goes = subst (λ t. GoesOn (view_of t) (view_of (Reading c.next-in-Reading.new.self)) c.args.seen c.args.slots.now c.next-in-Reading.new.slots c.next-in-Reading.result) (sym c.in-Reading.is) c.next-in-Reading.ensures.goes;
  learns = subst (λ t. Learns (view_of t) (view_of (Reading c.next-in-Reading.new.self)) c.args.seen c.args.moment c.args.slots.now c.next-in-Reading.new.slots) (sym c.in-Reading.is) c.next-in-Reading.ensures.learns;
}

pub returns-in-Inserting : goal.returns-in-Inserting
unfolding view_of
returns-in-Inserting c = record {
  goes = subst (λ t. GoesOn (view_of t) (view_of (Inserting c.next-in-Inserting.new.self)) c.args.seen c.args.slots.now c.next-in-Inserting.new.slots c.next-in-Inserting.result) (sym c.in-Inserting.is) c.next-in-Inserting.ensures.goes;
  learns = subst (λ t. Learns (view_of t) (view_of (Inserting c.next-in-Inserting.new.self)) c.args.seen c.args.moment c.args.slots.now c.next-in-Inserting.new.slots) (sym c.in-Inserting.is) c.next-in-Inserting.ensures.learns;
}

pub returns-in-Updating : goal.returns-in-Updating
unfolding view_of
returns-in-Updating c = record {
  goes = subst (λ t. GoesOn (view_of t) (view_of (Updating c.next-in-Updating.new.self)) c.args.seen c.args.slots.now c.next-in-Updating.new.slots c.next-in-Updating.result) (sym c.in-Updating.is) c.next-in-Updating.ensures.goes;
  learns = subst (λ t. Learns (view_of t) (view_of (Updating c.next-in-Updating.new.self)) c.args.seen c.args.moment c.args.slots.now c.next-in-Updating.new.slots) (sym c.in-Updating.is) c.next-in-Updating.ensures.learns;
}

pub returns-in-Deleting : goal.returns-in-Deleting
unfolding view_of
returns-in-Deleting c = record {
  goes = subst (λ t. GoesOn (view_of t) (view_of (Deleting c.next-in-Deleting.new.self)) c.args.seen c.args.slots.now c.next-in-Deleting.new.slots c.next-in-Deleting.result) (sym c.in-Deleting.is) c.next-in-Deleting.ensures.goes;
  learns = subst (λ t. Learns (view_of t) (view_of (Deleting c.next-in-Deleting.new.self)) c.args.seen c.args.moment c.args.slots.now c.next-in-Deleting.new.slots) (sym c.in-Deleting.is) c.next-in-Deleting.ensures.learns;
}

pub returns-in-Freezing : goal.returns-in-Freezing
unfolding view_of
returns-in-Freezing c = record {
  goes = subst (λ t. GoesOn (view_of t) (view_of (Freezing c.next-in-Freezing.new.self)) c.args.seen c.args.slots.now c.next-in-Freezing.new.slots c.next-in-Freezing.result) (sym c.in-Freezing.is) c.next-in-Freezing.ensures.goes;
  learns = subst (λ t. Learns (view_of t) (view_of (Freezing c.next-in-Freezing.new.self)) c.args.seen c.args.moment c.args.slots.now c.next-in-Freezing.new.slots) (sym c.in-Freezing.is) c.next-in-Freezing.ensures.learns;
}

pub returns-in-Consolidating : goal.returns-in-Consolidating
unfolding view_of
returns-in-Consolidating c = record {
  goes = subst (λ t. GoesOn (view_of t) (view_of (Consolidating c.next-in-Consolidating.new.self)) c.args.seen c.args.slots.now c.next-in-Consolidating.new.slots c.next-in-Consolidating.result) (sym c.in-Consolidating.is) c.next-in-Consolidating.ensures.goes;
  learns = subst (λ t. Learns (view_of t) (view_of (Consolidating c.next-in-Consolidating.new.self)) c.args.seen c.args.moment c.args.slots.now c.next-in-Consolidating.new.slots) (sym c.in-Consolidating.is) c.next-in-Consolidating.ensures.learns;
}

pub returns-in-Splitting : goal.returns-in-Splitting
unfolding view_of
returns-in-Splitting c = record {
  goes = subst (λ t. GoesOn (view_of t) (view_of (Splitting c.next-in-Splitting.new.self)) c.args.seen c.args.slots.now c.next-in-Splitting.new.slots c.next-in-Splitting.result) (sym c.in-Splitting.is) c.next-in-Splitting.ensures.goes;
  learns = subst (λ t. Learns (view_of t) (view_of (Splitting c.next-in-Splitting.new.self)) c.args.seen c.args.moment c.args.slots.now c.next-in-Splitting.new.slots) (sym c.in-Splitting.is) c.next-in-Splitting.ensures.learns;
}

pub returns-in-SplittingBelow : goal.returns-in-SplittingBelow
unfolding view_of
returns-in-SplittingBelow c = record {
  goes = subst (λ t. GoesOn (view_of t) (view_of (SplittingBelow c.next-in-SplittingBelow.new.self c.in-SplittingBelow.field-1)) c.args.seen c.args.slots.now c.next-in-SplittingBelow.new.slots c.next-in-SplittingBelow.result) (sym c.in-SplittingBelow.is) (goes-on-ascent c.in-SplittingBelow.field-1 (below_view c.in-SplittingBelow.task) (below_view c.next-in-SplittingBelow.new.self) c.next-in-SplittingBelow.ensures.goes);
  learns = subst (λ t. Learns (view_of t) (view_of (SplittingBelow c.next-in-SplittingBelow.new.self c.in-SplittingBelow.field-1)) c.args.seen c.args.moment c.args.slots.now c.next-in-SplittingBelow.new.slots) (sym c.in-SplittingBelow.is) (learns-on-ascent c.in-SplittingBelow.field-1 (below_view c.in-SplittingBelow.task) (below_view c.next-in-SplittingBelow.new.self) c.args.seen c.args.moment c.args.slots.now c.next-in-SplittingBelow.new.slots c.next-in-SplittingBelow.ensures.goes.meant c.next-in-SplittingBelow.ensures.learns);
}

pub returns-in-SplittingInner : goal.returns-in-SplittingInner
unfolding view_of
returns-in-SplittingInner c = record {
  goes = subst (λ t. GoesOn (view_of t) (view_of (SplittingInner c.next-in-SplittingInner.new.self c.in-SplittingInner.field-1)) c.args.seen c.args.slots.now c.next-in-SplittingInner.new.slots c.next-in-SplittingInner.result) (sym c.in-SplittingInner.is) (goes-on-ascent c.in-SplittingInner.field-1 (fork_view c.in-SplittingInner.task) (fork_view c.next-in-SplittingInner.new.self) c.next-in-SplittingInner.ensures.goes);
  learns = subst (λ t. Learns (view_of t) (view_of (SplittingInner c.next-in-SplittingInner.new.self c.in-SplittingInner.field-1)) c.args.seen c.args.moment c.args.slots.now c.next-in-SplittingInner.new.slots) (sym c.in-SplittingInner.is) (learns-on-ascent c.in-SplittingInner.field-1 (fork_view c.in-SplittingInner.task) (fork_view c.next-in-SplittingInner.new.self) c.args.seen c.args.moment c.args.slots.now c.next-in-SplittingInner.new.slots c.next-in-SplittingInner.ensures.goes.meant c.next-in-SplittingInner.ensures.learns);
}

pub returns-in-SplittingInnerRoot : goal.returns-in-SplittingInnerRoot
unfolding view_of
returns-in-SplittingInnerRoot c = record {
  goes = subst (λ t. GoesOn (view_of t) (view_of (SplittingInnerRoot c.next-in-SplittingInnerRoot.new.self c.in-SplittingInnerRoot.field-1)) c.args.seen c.args.slots.now c.next-in-SplittingInnerRoot.new.slots c.next-in-SplittingInnerRoot.result) (sym c.in-SplittingInnerRoot.is) (goes-on-ascent c.in-SplittingInnerRoot.field-1 (crown_view c.in-SplittingInnerRoot.task) (crown_view c.next-in-SplittingInnerRoot.new.self) c.next-in-SplittingInnerRoot.ensures.goes);
  learns = subst (λ t. Learns (view_of t) (view_of (SplittingInnerRoot c.next-in-SplittingInnerRoot.new.self c.in-SplittingInnerRoot.field-1)) c.args.seen c.args.moment c.args.slots.now c.next-in-SplittingInnerRoot.new.slots) (sym c.in-SplittingInnerRoot.is) (learns-on-ascent c.in-SplittingInnerRoot.field-1 (crown_view c.in-SplittingInnerRoot.task) (crown_view c.next-in-SplittingInnerRoot.new.self) c.args.seen c.args.moment c.args.slots.now c.next-in-SplittingInnerRoot.new.slots c.next-in-SplittingInnerRoot.ensures.goes.meant c.next-in-SplittingInnerRoot.ensures.learns);
}

pub returns-in-Merging : goal.returns-in-Merging
unfolding view_of
returns-in-Merging c = record {
  goes = subst (λ t. GoesOn (view_of t) (view_of (Merging c.next-in-Merging.new.self)) c.args.seen c.args.slots.now c.next-in-Merging.new.slots c.next-in-Merging.result) (sym c.in-Merging.is) c.next-in-Merging.ensures.goes;
  learns = subst (λ t. Learns (view_of t) (view_of (Merging c.next-in-Merging.new.self)) c.args.seen c.args.moment c.args.slots.now c.next-in-Merging.new.slots) (sym c.in-Merging.is) c.next-in-Merging.ensures.learns;
}

pub returns-in-MergingInner : goal.returns-in-MergingInner
unfolding view_of
returns-in-MergingInner c = record {
  goes = subst (λ t. GoesOn (view_of t) (view_of (MergingInner c.next-in-MergingInner.new.self)) c.args.seen c.args.slots.now c.next-in-MergingInner.new.slots c.next-in-MergingInner.result) (sym c.in-MergingInner.is) c.next-in-MergingInner.ensures.goes;
  learns = subst (λ t. Learns (view_of t) (view_of (MergingInner c.next-in-MergingInner.new.self)) c.args.seen c.args.moment c.args.slots.now c.next-in-MergingInner.new.slots) (sym c.in-MergingInner.is) c.next-in-MergingInner.ensures.learns;
}

pub returns-in-Lowering : goal.returns-in-Lowering
unfolding view_of
returns-in-Lowering c = record {
  goes = subst (λ t. GoesOn (view_of t) (view_of (Lowering c.next-in-Lowering.new.self)) c.args.seen c.args.slots.now c.next-in-Lowering.new.slots c.next-in-Lowering.result) (sym c.in-Lowering.is) c.next-in-Lowering.ensures.goes;
  learns = subst (λ t. Learns (view_of t) (view_of (Lowering c.next-in-Lowering.new.self)) c.args.seen c.args.moment c.args.slots.now c.next-in-Lowering.new.slots) (sym c.in-Lowering.is) c.next-in-Lowering.ensures.learns;
}
