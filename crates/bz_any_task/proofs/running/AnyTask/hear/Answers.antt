use Rattle.std.proofs.Common.{sym, subst, refl, ap, arith}
use Rattle.bz_task.specs.Contract.{MayHear}
use Rattle.bz_task.specs.OwnActs.{gained}
use Rattle.bz_task.specs.Requests.{Hears}
use Rattle.bz_ascent.specs.FromBelow.Duties.{below_view}
use Rattle.bz_fork.specs.Duties.{fork_view}
use Rattle.bz_crown.specs.Duties.{crown_view}
use Rattle.bz_inner.specs.LowerDuties.{lower_view}
use Rattle.bz_any_task.specs.Duties.{asks_of, change_swaps, wants_of, ascent_of, makes_no_change, leaves_few_of, goes_on, view_of}
use Rattle.bz_any_task.specs.Hearing.{HasHeard}
use Rattle.bz_any_task.specs.Kinds.{kind_of}
use Rattle.bz_any_task.specs.LookingUp.{look_of, reads_asked, HasCounted}
use Rattle.bz_any_task.specs.MadeFor.{IsMadeFor, IsMergeFor, IsSmallMerge}
use Rattle.bz_any_task.specs.declared.running.AnyTask.TheVariants.{Seeking, Finding, Reading, Inserting, Updating, Deleting, Freezing, Consolidating, Splitting, SplittingBelow, SplittingInner, SplittingInnerRoot, Merging, MergingInner, Lowering}
use Rattle.bz_any_task.proofs.Ascending.{hears-on-ascent, goes-on-ascent, learns-on-ascent}
use Rattle.bz_any_task.proofs.Beginning.{hears-start, copy-begins, split-begins, below-begins, fork-begins, crown-begins, merge-begins, joining-begins, lower-begins, seek-begins, leaf-begins, freeze-begins}
use Rattle.bz_any_task.proofs.Counting.{seek-counts, find-counts, none-counts}
use Rattle.bz_any_task.proofs.Lacking.{no-change, no-merge, merge-lacks}
use Rattle.bz_any_task.proofs.Made.{freeze-kept, copy-kept, split-kept, below-kept, fork-kept, crown-kept, merge-kept, small-kept, few-kept}
use Rattle.bz_any_task.proofs.running.AnyTask.hear.Goals as goal

pub next-requires : goal.next-requires
unfolding view_of
next-requires c = subst (λ t. MayHear (view_of t) c.args.seen c.args.moment c.args.slots.now) c.in-Seeking.is (record { hears = c.requires.hears; known = c.requires.known; memory = c.requires.memory })

pub next-requires-in-Finding : goal.next-requires-in-Finding
unfolding view_of
next-requires-in-Finding c = subst (λ t. MayHear (view_of t) c.args.seen c.args.moment c.args.slots.now) c.in-Finding.is (record { hears = c.requires.hears; known = c.requires.known; memory = c.requires.memory })

pub next-requires-in-Reading : goal.next-requires-in-Reading
unfolding view_of
next-requires-in-Reading c = subst (λ t. MayHear (view_of t) c.args.seen c.args.moment c.args.slots.now) c.in-Reading.is (record { hears = c.requires.hears; known = c.requires.known; memory = c.requires.memory })

pub next-requires-in-Inserting : goal.next-requires-in-Inserting
unfolding view_of
next-requires-in-Inserting c = subst (λ t. MayHear (view_of t) c.args.seen c.args.moment c.args.slots.now) c.in-Inserting.is (record { hears = c.requires.hears; known = c.requires.known; memory = c.requires.memory })

pub next-requires-in-Updating : goal.next-requires-in-Updating
unfolding view_of
next-requires-in-Updating c = subst (λ t. MayHear (view_of t) c.args.seen c.args.moment c.args.slots.now) c.in-Updating.is (record { hears = c.requires.hears; known = c.requires.known; memory = c.requires.memory })

pub next-requires-in-Deleting : goal.next-requires-in-Deleting
unfolding view_of
next-requires-in-Deleting c = subst (λ t. MayHear (view_of t) c.args.seen c.args.moment c.args.slots.now) c.in-Deleting.is (record { hears = c.requires.hears; known = c.requires.known; memory = c.requires.memory })

pub next-requires-in-Freezing : goal.next-requires-in-Freezing
unfolding view_of
next-requires-in-Freezing c = subst (λ t. MayHear (view_of t) c.args.seen c.args.moment c.args.slots.now) c.in-Freezing.is (record { hears = c.requires.hears; known = c.requires.known; memory = c.requires.memory })

pub next-requires-in-Consolidating : goal.next-requires-in-Consolidating
unfolding view_of
next-requires-in-Consolidating c = subst (λ t. MayHear (view_of t) c.args.seen c.args.moment c.args.slots.now) c.in-Consolidating.is (record { hears = c.requires.hears; known = c.requires.known; memory = c.requires.memory })

pub next-requires-in-Splitting : goal.next-requires-in-Splitting
unfolding view_of
next-requires-in-Splitting c = subst (λ t. MayHear (view_of t) c.args.seen c.args.moment c.args.slots.now) c.in-Splitting.is (record { hears = c.requires.hears; known = c.requires.known; memory = c.requires.memory })

pub next-requires-in-SplittingBelow : goal.next-requires-in-SplittingBelow
unfolding view_of
next-requires-in-SplittingBelow c = hears-on-ascent c.in-SplittingBelow.field-1 (below_view c.in-SplittingBelow.task) (subst (λ t. MayHear (view_of t) c.args.seen c.args.moment c.args.slots.now) c.in-SplittingBelow.is (record { hears = c.requires.hears; known = c.requires.known; memory = c.requires.memory }))

pub next-requires-in-SplittingInner : goal.next-requires-in-SplittingInner
unfolding view_of
next-requires-in-SplittingInner c = hears-on-ascent c.in-SplittingInner.field-1 (fork_view c.in-SplittingInner.task) (subst (λ t. MayHear (view_of t) c.args.seen c.args.moment c.args.slots.now) c.in-SplittingInner.is (record { hears = c.requires.hears; known = c.requires.known; memory = c.requires.memory }))

pub next-requires-in-SplittingInnerRoot : goal.next-requires-in-SplittingInnerRoot
unfolding view_of
next-requires-in-SplittingInnerRoot c = hears-on-ascent c.in-SplittingInnerRoot.field-1 (crown_view c.in-SplittingInnerRoot.task) (subst (λ t. MayHear (view_of t) c.args.seen c.args.moment c.args.slots.now) c.in-SplittingInnerRoot.is (record { hears = c.requires.hears; known = c.requires.known; memory = c.requires.memory }))

pub next-requires-in-Merging : goal.next-requires-in-Merging
unfolding view_of
next-requires-in-Merging c = subst (λ t. MayHear (view_of t) c.args.seen c.args.moment c.args.slots.now) c.in-Merging.is (record { hears = c.requires.hears; known = c.requires.known; memory = c.requires.memory })

pub next-requires-in-MergingInner : goal.next-requires-in-MergingInner
unfolding view_of
next-requires-in-MergingInner c = subst (λ t. MayHear (view_of t) c.args.seen c.args.moment c.args.slots.now) c.in-MergingInner.is (record { hears = c.requires.hears; known = c.requires.known; memory = c.requires.memory })

pub next-requires-in-Lowering : goal.next-requires-in-Lowering
unfolding view_of
next-requires-in-Lowering c = subst (λ t. MayHear (view_of t) c.args.seen c.args.moment c.args.slots.now) c.in-Lowering.is (record { hears = c.requires.hears; known = c.requires.known; memory = c.requires.memory })

pub returns-in-Inserting : goal.returns-in-Inserting
unfolding view_of change_swaps wants_of ascent_of makes_no_change leaves_few_of goes_on look_of kind_of IsMadeFor IsMergeFor IsSmallMerge
returns-in-Inserting c = record {
  heard = subst (λ t. HasHeard t c.args.seen c.args.moment c.args.slots.now c.next-in-Inserting.result (Inserting c.next-in-Inserting.new.self) c.next-in-Inserting.new.slots) (sym c.in-Inserting.is) (let e = c.next-in-Inserting.ensures in record {
    goes = e.goes;
    swaps = refl;
    wants = refl;
    ascent = refl;
    kind = refl;
    silent = refl;
    made_for = λ key words p m. absurd m;
    merge_for = λ key p m. absurd m;
    small_for = λ key p m. absurd m;
    few = refl;
    begins = λ start on. absurd (no-change on);
    no_neighbour = λ is lacks. absurd (no-merge _ refl is);
    learns = e.learns;
  });
  counts = none-counts c.args.self.now (Inserting c.next-in-Inserting.new.self) c.next-in-Inserting.result (ap look_of c.in-Inserting.is) refl;
}

pub returns-in-Updating : goal.returns-in-Updating
unfolding view_of change_swaps wants_of ascent_of makes_no_change leaves_few_of goes_on look_of kind_of IsMadeFor IsMergeFor IsSmallMerge
returns-in-Updating c = record {
  heard = subst (λ t. HasHeard t c.args.seen c.args.moment c.args.slots.now c.next-in-Updating.result (Updating c.next-in-Updating.new.self) c.next-in-Updating.new.slots) (sym c.in-Updating.is) (let e = c.next-in-Updating.ensures in record {
    goes = e.goes;
    swaps = refl;
    wants = refl;
    ascent = refl;
    kind = refl;
    silent = refl;
    made_for = λ key words p m. absurd m;
    merge_for = λ key p m. absurd m;
    small_for = λ key p m. absurd m;
    few = refl;
    begins = λ start on. absurd (no-change on);
    no_neighbour = λ is lacks. absurd (no-merge _ refl is);
    learns = e.learns;
  });
  counts = none-counts c.args.self.now (Updating c.next-in-Updating.new.self) c.next-in-Updating.result (ap look_of c.in-Updating.is) refl;
}

pub returns-in-Consolidating : goal.returns-in-Consolidating
unfolding view_of change_swaps wants_of ascent_of makes_no_change leaves_few_of goes_on look_of kind_of IsMadeFor IsMergeFor IsSmallMerge
returns-in-Consolidating c = record {
  heard = subst (λ t. HasHeard t c.args.seen c.args.moment c.args.slots.now c.next-in-Consolidating.result (Consolidating c.next-in-Consolidating.new.self) c.next-in-Consolidating.new.slots) (sym c.in-Consolidating.is) (let e = c.next-in-Consolidating.ensures in record {
    goes = e.goes;
    swaps = refl;
    wants = refl;
    ascent = refl;
    kind = refl;
    silent = refl;
    made_for = copy-kept c.in-Consolidating.task c.next-in-Consolidating.new.self e.goes.basis;
    merge_for = λ key p m. absurd m;
    small_for = λ key p m. absurd m;
    few = refl;
    begins = λ start on. copy-begins c.in-Consolidating.task c.next-in-Consolidating.new.self (hears-start c.args.self.now (Consolidating c.in-Consolidating.task) c.args.seen c.in-Consolidating.is start c.requires.hears) (λ o. e.goes.begins o start);
    no_neighbour = λ is lacks. absurd (no-merge _ refl is);
    learns = e.learns;
  });
  counts = none-counts c.args.self.now (Consolidating c.next-in-Consolidating.new.self) c.next-in-Consolidating.result (ap look_of c.in-Consolidating.is) refl;
}

pub returns-in-Splitting : goal.returns-in-Splitting
unfolding view_of change_swaps wants_of ascent_of makes_no_change leaves_few_of goes_on look_of kind_of IsMadeFor IsMergeFor IsSmallMerge
returns-in-Splitting c = record {
  heard = subst (λ t. HasHeard t c.args.seen c.args.moment c.args.slots.now c.next-in-Splitting.result (Splitting c.next-in-Splitting.new.self) c.next-in-Splitting.new.slots) (sym c.in-Splitting.is) (let e = c.next-in-Splitting.ensures in record {
    goes = e.goes;
    swaps = refl;
    wants = refl;
    ascent = refl;
    kind = refl;
    silent = refl;
    made_for = split-kept c.in-Splitting.task c.next-in-Splitting.new.self e.goes.basis;
    merge_for = λ key p m. absurd m;
    small_for = λ key p m. absurd m;
    few = refl;
    begins = λ start on. split-begins c.in-Splitting.task c.next-in-Splitting.new.self (hears-start c.args.self.now (Splitting c.in-Splitting.task) c.args.seen c.in-Splitting.is start c.requires.hears) (λ o. e.goes.begins o start);
    no_neighbour = λ is lacks. absurd (no-merge _ refl is);
    learns = e.learns;
  });
  counts = none-counts c.args.self.now (Splitting c.next-in-Splitting.new.self) c.next-in-Splitting.result (ap look_of c.in-Splitting.is) refl;
}

pub returns-in-SplittingBelow : goal.returns-in-SplittingBelow
unfolding view_of change_swaps wants_of ascent_of makes_no_change leaves_few_of goes_on look_of kind_of IsMadeFor IsMergeFor IsSmallMerge
returns-in-SplittingBelow c = record {
  heard = subst (λ t. HasHeard t c.args.seen c.args.moment c.args.slots.now c.next-in-SplittingBelow.result (SplittingBelow c.next-in-SplittingBelow.new.self c.in-SplittingBelow.field-1) c.next-in-SplittingBelow.new.slots) (sym c.in-SplittingBelow.is) (let e = c.next-in-SplittingBelow.ensures in record {
    goes = goes-on-ascent c.in-SplittingBelow.field-1 (below_view c.in-SplittingBelow.task) (below_view c.next-in-SplittingBelow.new.self) e.goes;
    swaps = refl;
    wants = refl;
    ascent = refl;
    kind = refl;
    silent = refl;
    made_for = below-kept c.in-SplittingBelow.task c.next-in-SplittingBelow.new.self c.in-SplittingBelow.field-1 e.goes.basis;
    merge_for = λ key p m. absurd m;
    small_for = λ key p m. absurd m;
    few = refl;
    begins = λ start on. below-begins c.in-SplittingBelow.task c.next-in-SplittingBelow.new.self (hears-start c.args.self.now (SplittingBelow c.in-SplittingBelow.task c.in-SplittingBelow.field-1) c.args.seen c.in-SplittingBelow.is start c.requires.hears) (λ o. e.goes.begins o start);
    no_neighbour = λ is lacks. absurd (no-merge _ refl is);
    learns = learns-on-ascent c.in-SplittingBelow.field-1 (below_view c.in-SplittingBelow.task) (below_view c.next-in-SplittingBelow.new.self) c.args.seen c.args.moment c.args.slots.now c.next-in-SplittingBelow.new.slots e.goes.meant e.learns;
  });
  counts = none-counts c.args.self.now (SplittingBelow c.next-in-SplittingBelow.new.self c.in-SplittingBelow.field-1) c.next-in-SplittingBelow.result (ap look_of c.in-SplittingBelow.is) refl;
}

pub returns-in-SplittingInner : goal.returns-in-SplittingInner
unfolding view_of change_swaps wants_of ascent_of makes_no_change leaves_few_of goes_on look_of kind_of IsMadeFor IsMergeFor IsSmallMerge
returns-in-SplittingInner c = record {
  heard = subst (λ t. HasHeard t c.args.seen c.args.moment c.args.slots.now c.next-in-SplittingInner.result (SplittingInner c.next-in-SplittingInner.new.self c.in-SplittingInner.field-1) c.next-in-SplittingInner.new.slots) (sym c.in-SplittingInner.is) (let e = c.next-in-SplittingInner.ensures in record {
    goes = goes-on-ascent c.in-SplittingInner.field-1 (fork_view c.in-SplittingInner.task) (fork_view c.next-in-SplittingInner.new.self) e.goes;
    swaps = refl;
    wants = refl;
    ascent = refl;
    kind = refl;
    silent = refl;
    made_for = fork-kept c.in-SplittingInner.task c.next-in-SplittingInner.new.self c.in-SplittingInner.field-1 e.goes.basis;
    merge_for = λ key p m. absurd m;
    small_for = λ key p m. absurd m;
    few = refl;
    begins = λ start on. fork-begins c.in-SplittingInner.task c.next-in-SplittingInner.new.self (hears-start c.args.self.now (SplittingInner c.in-SplittingInner.task c.in-SplittingInner.field-1) c.args.seen c.in-SplittingInner.is start c.requires.hears) (λ o. e.goes.begins o start);
    no_neighbour = λ is lacks. absurd (no-merge _ refl is);
    learns = learns-on-ascent c.in-SplittingInner.field-1 (fork_view c.in-SplittingInner.task) (fork_view c.next-in-SplittingInner.new.self) c.args.seen c.args.moment c.args.slots.now c.next-in-SplittingInner.new.slots e.goes.meant e.learns;
  });
  counts = none-counts c.args.self.now (SplittingInner c.next-in-SplittingInner.new.self c.in-SplittingInner.field-1) c.next-in-SplittingInner.result (ap look_of c.in-SplittingInner.is) refl;
}

pub returns-in-SplittingInnerRoot : goal.returns-in-SplittingInnerRoot
unfolding view_of change_swaps wants_of ascent_of makes_no_change leaves_few_of goes_on look_of kind_of IsMadeFor IsMergeFor IsSmallMerge
returns-in-SplittingInnerRoot c = record {
  heard = subst (λ t. HasHeard t c.args.seen c.args.moment c.args.slots.now c.next-in-SplittingInnerRoot.result (SplittingInnerRoot c.next-in-SplittingInnerRoot.new.self c.in-SplittingInnerRoot.field-1) c.next-in-SplittingInnerRoot.new.slots) (sym c.in-SplittingInnerRoot.is) (let e = c.next-in-SplittingInnerRoot.ensures in record {
    goes = goes-on-ascent c.in-SplittingInnerRoot.field-1 (crown_view c.in-SplittingInnerRoot.task) (crown_view c.next-in-SplittingInnerRoot.new.self) e.goes;
    swaps = refl;
    wants = refl;
    ascent = refl;
    kind = refl;
    silent = refl;
    made_for = crown-kept c.in-SplittingInnerRoot.task c.next-in-SplittingInnerRoot.new.self c.in-SplittingInnerRoot.field-1 e.goes.basis;
    merge_for = λ key p m. absurd m;
    small_for = λ key p m. absurd m;
    few = refl;
    begins = λ start on. crown-begins c.in-SplittingInnerRoot.task c.next-in-SplittingInnerRoot.new.self (hears-start c.args.self.now (SplittingInnerRoot c.in-SplittingInnerRoot.task c.in-SplittingInnerRoot.field-1) c.args.seen c.in-SplittingInnerRoot.is start c.requires.hears) (λ o. e.goes.begins o start);
    no_neighbour = λ is lacks. absurd (no-merge _ refl is);
    learns = learns-on-ascent c.in-SplittingInnerRoot.field-1 (crown_view c.in-SplittingInnerRoot.task) (crown_view c.next-in-SplittingInnerRoot.new.self) c.args.seen c.args.moment c.args.slots.now c.next-in-SplittingInnerRoot.new.slots e.goes.meant e.learns;
  });
  counts = none-counts c.args.self.now (SplittingInnerRoot c.next-in-SplittingInnerRoot.new.self c.in-SplittingInnerRoot.field-1) c.next-in-SplittingInnerRoot.result (ap look_of c.in-SplittingInnerRoot.is) refl;
}

pub returns-in-Merging : goal.returns-in-Merging
unfolding view_of change_swaps wants_of ascent_of makes_no_change leaves_few_of goes_on look_of kind_of IsMadeFor IsMergeFor IsSmallMerge
returns-in-Merging c = record {
  heard = subst (λ t. HasHeard t c.args.seen c.args.moment c.args.slots.now c.next-in-Merging.result (Merging c.next-in-Merging.new.self) c.next-in-Merging.new.slots) (sym c.in-Merging.is) (let e = c.next-in-Merging.ensures in record {
    goes = e.goes;
    swaps = refl;
    wants = refl;
    ascent = refl;
    kind = refl;
    silent = refl;
    made_for = λ key words p m. absurd m;
    merge_for = merge-kept c.in-Merging.task c.next-in-Merging.new.self e.goes.basis;
    small_for = small-kept c.in-Merging.task c.next-in-Merging.new.self e.goes.basis;
    few = refl;
    begins = λ start on. merge-begins c.in-Merging.task c.next-in-Merging.new.self (hears-start c.args.self.now (Merging c.in-Merging.task) c.args.seen c.in-Merging.is start c.requires.hears) (λ o. e.goes.begins o start);
    no_neighbour = λ is lacks. merge-lacks c.in-Merging.task c.next-in-Merging.new.self c.args.seen e.goes.fewer (subst (λ z. Hears (asks_of z) c.args.seen) c.in-Merging.is c.requires.hears) lacks;
    learns = e.learns;
  });
  counts = none-counts c.args.self.now (Merging c.next-in-Merging.new.self) c.next-in-Merging.result (ap look_of c.in-Merging.is) refl;
}

pub returns-in-MergingInner : goal.returns-in-MergingInner
unfolding view_of change_swaps wants_of ascent_of makes_no_change leaves_few_of goes_on look_of kind_of IsMadeFor IsMergeFor IsSmallMerge
returns-in-MergingInner c = record {
  heard = subst (λ t. HasHeard t c.args.seen c.args.moment c.args.slots.now c.next-in-MergingInner.result (MergingInner c.next-in-MergingInner.new.self) c.next-in-MergingInner.new.slots) (sym c.in-MergingInner.is) (let e = c.next-in-MergingInner.ensures in record {
    goes = e.goes;
    swaps = refl;
    wants = refl;
    ascent = refl;
    kind = refl;
    silent = refl;
    made_for = λ key words p m. absurd m;
    merge_for = λ key p m. absurd m;
    small_for = λ key p m. absurd m;
    few = refl;
    begins = λ start on. joining-begins c.in-MergingInner.task c.next-in-MergingInner.new.self (hears-start c.args.self.now (MergingInner c.in-MergingInner.task) c.args.seen c.in-MergingInner.is start c.requires.hears) (λ o. e.goes.begins o start);
    no_neighbour = λ is lacks. absurd (no-merge _ refl is);
    learns = e.learns;
  });
  counts = none-counts c.args.self.now (MergingInner c.next-in-MergingInner.new.self) c.next-in-MergingInner.result (ap look_of c.in-MergingInner.is) refl;
}

pub returns-in-Lowering : goal.returns-in-Lowering
unfolding view_of change_swaps wants_of ascent_of makes_no_change leaves_few_of goes_on look_of kind_of IsMadeFor IsMergeFor IsSmallMerge
returns-in-Lowering c = record {
  heard = subst (λ t. HasHeard t c.args.seen c.args.moment c.args.slots.now c.next-in-Lowering.result (Lowering c.next-in-Lowering.new.self) c.next-in-Lowering.new.slots) (sym c.in-Lowering.is) (let e = c.next-in-Lowering.ensures in record {
    goes = e.goes;
    swaps = refl;
    wants = refl;
    ascent = refl;
    kind = refl;
    silent = refl;
    made_for = λ key words p m. absurd m;
    merge_for = λ key p m. absurd m;
    small_for = λ key p m. absurd m;
    few = refl;
    begins = λ start on. (
        let m : MayHear (lower_view c.in-Lowering.task) c.args.seen c.args.moment c.args.slots.now = subst (λ t. MayHear (view_of t) c.args.seen c.args.moment c.args.slots.now) c.in-Lowering.is (record { hears = c.requires.hears; known = c.requires.known; memory = c.requires.memory }) in
        let k = m.known in
        lower-begins c.in-Lowering.task c.next-in-Lowering.new.self (gained k.scene c.args.slots.now c.next-in-Lowering.new.slots) on (λ o. e.goes.begins o start) e.goes.meant (e.learns k.stage k.scene k.now k.config k.good (λ some. absurd (omega (arith, some))) k.holds k.tells));
    no_neighbour = λ is lacks. absurd (no-merge _ refl is);
    learns = e.learns;
  });
  counts = none-counts c.args.self.now (Lowering c.next-in-Lowering.new.self) c.next-in-Lowering.result (ap look_of c.in-Lowering.is) refl;
}

pub returns-in-Seeking : goal.returns-in-Seeking
unfolding view_of change_swaps wants_of ascent_of makes_no_change leaves_few_of goes_on kind_of IsMadeFor IsMergeFor IsSmallMerge look_of reads_asked
returns-in-Seeking c = record {
  heard = subst (λ t. HasHeard t c.args.seen c.args.moment c.args.slots.now c.next.result (Seeking c.next.new.self) c.next.new.slots) (sym c.in-Seeking.is) (let e = c.next.ensures in record {
    goes = e.goes;
    swaps = refl;
    wants = refl;
    ascent = refl;
    kind = refl;
    silent = refl;
    made_for = λ key words p m. absurd m;
    merge_for = λ key p m. absurd m;
    small_for = λ key p m. absurd m;
    few = refl;
    begins = λ start on. seek-begins c.next.new.self (λ o. e.goes.begins o start);
    no_neighbour = λ is lacks. absurd (no-merge _ refl is);
    learns = e.learns;
  });
  counts = let e = c.next.ensures in
      subst (λ t. HasCounted t c.next.result (Seeking c.next.new.self)) (sym c.in-Seeking.is) (record { look = refl; reads = λ l. seek-counts c.in-Seeking.task c.next.new.self c.next.result e.goes.nearer e.goes.asked });
}

pub returns-in-Finding : goal.returns-in-Finding
unfolding view_of change_swaps wants_of ascent_of makes_no_change leaves_few_of goes_on kind_of IsMadeFor IsMergeFor IsSmallMerge look_of reads_asked
returns-in-Finding c = record {
  heard = subst (λ t. HasHeard t c.args.seen c.args.moment c.args.slots.now c.next-in-Finding.result (Finding c.next-in-Finding.new.self) c.next-in-Finding.new.slots) (sym c.in-Finding.is) (let e = c.next-in-Finding.ensures in record {
    goes = e.goes;
    swaps = refl;
    wants = refl;
    ascent = refl;
    kind = refl;
    silent = refl;
    made_for = λ key words p m. absurd m;
    merge_for = λ key p m. absurd m;
    small_for = λ key p m. absurd m;
    few = refl;
    begins = λ start on. absurd (no-change on);
    no_neighbour = λ is lacks. absurd (no-merge _ refl is);
    learns = e.learns;
  });
  counts = let e = c.next-in-Finding.ensures in
      subst (λ t. HasCounted t c.next-in-Finding.result (Finding c.next-in-Finding.new.self)) (sym c.in-Finding.is) (record { look = refl; reads = λ l. find-counts c.in-Finding.task c.next-in-Finding.new.self c.next-in-Finding.result e.goes.nearer e.goes.asked });
}

pub returns-in-Reading : goal.returns-in-Reading
unfolding view_of change_swaps wants_of ascent_of makes_no_change leaves_few_of goes_on kind_of IsMadeFor IsMergeFor IsSmallMerge look_of
returns-in-Reading c = record {
  heard = subst (λ t. HasHeard t c.args.seen c.args.moment c.args.slots.now c.next-in-Reading.result (Reading c.next-in-Reading.new.self) c.next-in-Reading.new.slots) (sym c.in-Reading.is) (let e = c.next-in-Reading.ensures in record {
    goes = e.goes;
    swaps = refl;
    wants = refl;
    ascent = refl;
    kind = refl;
    silent = refl;
    made_for = λ key words p m. absurd m;
    merge_for = λ key p m. absurd m;
    small_for = λ key p m. absurd m;
    few = refl;
    begins = λ start on. leaf-begins c.next-in-Reading.new.self (λ o. e.goes.begins o start);
    no_neighbour = λ is lacks. absurd (no-merge _ refl is);
    learns = e.learns;
  });
  counts = none-counts c.args.self.now (Reading c.next-in-Reading.new.self) c.next-in-Reading.result (ap look_of c.in-Reading.is) refl;
}

pub returns-in-Deleting : goal.returns-in-Deleting
unfolding view_of change_swaps wants_of ascent_of makes_no_change leaves_few_of goes_on kind_of IsMadeFor IsMergeFor IsSmallMerge look_of
returns-in-Deleting c = record {
  heard = subst (λ t. HasHeard t c.args.seen c.args.moment c.args.slots.now c.next-in-Deleting.result (Deleting c.next-in-Deleting.new.self) c.next-in-Deleting.new.slots) (sym c.in-Deleting.is) (let e = c.next-in-Deleting.ensures in record {
    goes = e.goes;
    swaps = refl;
    wants = refl;
    ascent = refl;
    kind = refl;
    silent = refl;
    made_for = λ key words p m. absurd m;
    merge_for = λ key p m. absurd m;
    small_for = λ key p m. absurd m;
    few = few-kept c.in-Deleting.task c.next-in-Deleting.new.self e.goes.change e.goes.basis;
    begins = λ start on. absurd (no-change on);
    no_neighbour = λ is lacks. absurd (no-merge _ refl is);
    learns = e.learns;
  });
  counts = none-counts c.args.self.now (Deleting c.next-in-Deleting.new.self) c.next-in-Deleting.result (ap look_of c.in-Deleting.is) refl;
}

pub returns-in-Freezing : goal.returns-in-Freezing
unfolding view_of change_swaps wants_of ascent_of makes_no_change leaves_few_of goes_on kind_of IsMadeFor IsMergeFor IsSmallMerge look_of
returns-in-Freezing c = record {
  heard = subst (λ t. HasHeard t c.args.seen c.args.moment c.args.slots.now c.next-in-Freezing.result (Freezing c.next-in-Freezing.new.self) c.next-in-Freezing.new.slots) (sym c.in-Freezing.is) (let e = c.next-in-Freezing.ensures in record {
    goes = e.goes;
    swaps = refl;
    wants = refl;
    ascent = refl;
    kind = refl;
    silent = refl;
    made_for = freeze-kept c.in-Freezing.task c.next-in-Freezing.new.self e.goes.basis;
    merge_for = λ key p m. absurd m;
    small_for = λ key p m. absurd m;
    few = refl;
    begins = λ start on. freeze-begins c.next-in-Freezing.new.self.phase (λ o. e.goes.begins o start);
    no_neighbour = λ is lacks. absurd (no-merge _ refl is);
    learns = e.learns;
  });
  counts = none-counts c.args.self.now (Freezing c.next-in-Freezing.new.self) c.next-in-Freezing.result (ap look_of c.in-Freezing.is) refl;
}
