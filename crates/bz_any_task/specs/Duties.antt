-- What a task asks for and knows, whichever it is.
use Rattle.std.specs.Prelude.{◌≡◌, ℕ, Bool, true, false, Option, Some, None, refl}
use Rattle.bz_layout.specs.declared.config.Config.{Config}
use Rattle.bz_layout.specs.declared.swaps.TheConstants.{DELETE_SWAPS, INSERT_SWAPS, UPDATE_SWAPS}
use Rattle.bz_layout.specs.declared.thresholds.TheConstants.{CONSOLIDATION_SLOTS, MERGE_SLOTS, SPLIT_SLOTS}
use Rattle.bz_task.specs.Basis.{Basis}
use Rattle.bz_task.specs.Scene.{Scene, Stage}
use Rattle.bz_task.specs.Swaps.{Change}
use Rattle.bz_task.specs.TaskView.{TaskView}
use Rattle.bz_task.specs.declared.todo.Outcome.{Outcome}
use Rattle.bz_task.specs.declared.todo.Seen.{Seen}
use Rattle.bz_task.specs.declared.todo.Todo.{Todo}
use Rattle.bz_ascent.specs.declared.ascent.Ascent.{Ascent}
use Rattle.bz_ascent.specs.FromBelow.Duties.{below_view}
use Rattle.bz_consol.specs.Duties.{consol_view}
use Rattle.bz_crown.specs.Duties.{crown_view}
use Rattle.bz_descend.specs.SeekDuties.{seek_view}
use Rattle.bz_find.specs.Duties.{find_view}
use Rattle.bz_fork.specs.Duties.{fork_view}
use Rattle.bz_freeze.specs.Duties.{freeze_view}
use Rattle.bz_inner.specs.JoinDuties as joining
use Rattle.bz_inner.specs.LowerDuties.{lower_view}
use Rattle.bz_insert.specs.Duties.{insert_view}
use Rattle.bz_leaf.specs.Duties.{leaf_view}
use Rattle.bz_merge.specs.Duties.{merge_view}
use Rattle.bz_merge.specs.FromSplit.Duties.{split_view}
use Rattle.bz_mutate.specs.DeleteDuties as delete
use Rattle.bz_mutate.specs.DeleteDuties.{delete_view}
use Rattle.bz_mutate.specs.UpdateDuties.{update_view}
use Rattle.bz_any_task.specs.Ascending.{on_ascent}
use Rattle.bz_any_task.specs.declared.running.AnyTask.{AnyTask}
use Rattle.bz_any_task.specs.declared.running.AnyTask.TheVariants.{Seeking, Finding, Reading, Inserting, Updating, Deleting, Freezing, Consolidating, Splitting, SplittingBelow, SplittingInner, SplittingInnerRoot, Merging, MergingInner, Lowering}

-- whichever task it is, as its contract sees it
unfoldable pub view_of : AnyTask → TaskView
view_of (Seeking t) = seek_view t
view_of (Finding t) = find_view t
view_of (Reading t) = leaf_view t
view_of (Inserting t) = insert_view t
view_of (Updating t) = update_view t
view_of (Deleting t) = delete_view t
view_of (Freezing t) = freeze_view t
view_of (Consolidating t) = consol_view t
view_of (Splitting t) = split_view t
view_of (SplittingBelow t a) = on_ascent a (below_view t)
view_of (SplittingInner t a) = on_ascent a (fork_view t)
view_of (SplittingInnerRoot t a) = on_ascent a (crown_view t)
view_of (Merging t) = merge_view t
view_of (MergingInner t) = joining.merge_view t
view_of (Lowering t) = lower_view t

abbrev pub config_of : AnyTask → Config
config_of t = (view_of t).config

abbrev pub asks_of : AnyTask → Option Todo
asks_of t = (view_of t).asks

abbrev pub end_of : AnyTask → Option Outcome
end_of t = (view_of t).end

abbrev pub left_of : AnyTask → ℕ
left_of t = (view_of t).left

abbrev pub swaps_of : AnyTask → ℕ
swaps_of t = (view_of t).swaps

abbrev pub made_of : AnyTask → ℕ
made_of t = (view_of t).made

abbrev pub needs_of : AnyTask → ℕ
needs_of t = (view_of t).needs

abbrev pub change_of : AnyTask → Change
change_of t = (view_of t).change

abbrev pub basis_of : AnyTask → Basis
basis_of t = (view_of t).basis

abbrev pub publishing_of : AnyTask → Bool
publishing_of t = (view_of t).publishing

abbrev pub facts_of : AnyTask → Stage → Scene → Type 0
facts_of t = (view_of t).facts

abbrev pub means_of : AnyTask → Outcome → Scene → Type 0
means_of t = (view_of t).means

abbrev pub differs_of : AnyTask → Seen → Type 0
differs_of t = (view_of t).differs

-- how many swaps its change takes, if it makes one
unfoldable pub change_swaps : AnyTask → ℕ
change_swaps (Seeking t) = 0
change_swaps (Finding t) = 0
change_swaps (Reading t) = 0
change_swaps (Inserting t) = INSERT_SWAPS
change_swaps (Updating t) = UPDATE_SWAPS
change_swaps (Deleting t) = DELETE_SWAPS
change_swaps (Freezing t) = 0
change_swaps (Consolidating t) = 0
change_swaps (Splitting t) = 0
change_swaps (SplittingBelow t a) = 0
change_swaps (SplittingInner t a) = 0
change_swaps (SplittingInnerRoot t a) = 0
change_swaps (Merging t) = 0
change_swaps (MergingInner t) = 0
change_swaps (Lowering t) = 0

-- how many slots it takes from its begin to its end, if it takes any
unfoldable pub wants_of : AnyTask → ℕ
wants_of (Seeking t) = 0
wants_of (Finding t) = 0
wants_of (Reading t) = 0
wants_of (Inserting t) = 0
wants_of (Updating t) = 0
wants_of (Deleting t) = 0
wants_of (Freezing t) = 0
wants_of (Consolidating t) = CONSOLIDATION_SLOTS
wants_of (Splitting t) = SPLIT_SLOTS
wants_of (SplittingBelow t a) = SPLIT_SLOTS
wants_of (SplittingInner t a) = SPLIT_SLOTS
wants_of (SplittingInnerRoot t a) = SPLIT_SLOTS
wants_of (Merging t) = MERGE_SLOTS
wants_of (MergingInner t) = MERGE_SLOTS
wants_of (Lowering t) = 0

-- it is a delete, without whose record so few words of its leaf's block are live, as the leaf was viewed, that the leaf may be too small
unfoldable pub leaves_few_of : AnyTask → Bool
leaves_few_of (Seeking t) = false
leaves_few_of (Finding t) = false
leaves_few_of (Reading t) = false
leaves_few_of (Inserting t) = false
leaves_few_of (Updating t) = false
leaves_few_of (Deleting t) = delete.leaves_few_of t
leaves_few_of (Freezing t) = false
leaves_few_of (Consolidating t) = false
leaves_few_of (Splitting t) = false
leaves_few_of (SplittingBelow t a) = false
leaves_few_of (SplittingInner t a) = false
leaves_few_of (SplittingInnerRoot t a) = false
leaves_few_of (Merging t) = false
leaves_few_of (MergingInner t) = false
leaves_few_of (Lowering t) = false

-- how far up the way from the leaf it splits, if it does
unfoldable pub ascent_of : AnyTask → Option Ascent
ascent_of (Seeking t) = None
ascent_of (Finding t) = None
ascent_of (Reading t) = None
ascent_of (Inserting t) = None
ascent_of (Updating t) = None
ascent_of (Deleting t) = None
ascent_of (Freezing t) = None
ascent_of (Consolidating t) = None
ascent_of (Splitting t) = None
ascent_of (SplittingBelow t a) = Some a
ascent_of (SplittingInner t a) = Some a
ascent_of (SplittingInnerRoot t a) = Some a
ascent_of (Merging t) = None
ascent_of (MergingInner t) = None
ascent_of (Lowering t) = None

-- it makes no change of a key, and never publishes
unfoldable pub makes_no_change : AnyTask → Bool
makes_no_change (Seeking t) = true
makes_no_change (Finding t) = true
makes_no_change (Reading t) = true
makes_no_change (Inserting t) = false
makes_no_change (Updating t) = false
makes_no_change (Deleting t) = false
makes_no_change (Freezing t) = true
makes_no_change (Consolidating t) = true
makes_no_change (Splitting t) = true
makes_no_change (SplittingBelow t a) = true
makes_no_change (SplittingInner t a) = true
makes_no_change (SplittingInnerRoot t a) = true
makes_no_change (Merging t) = true
makes_no_change (MergingInner t) = true
makes_no_change (Lowering t) = true

pub no-change-is-published : (t : AnyTask) → makes_no_change t ≡ true → publishing_of t ≡ false
unfolding makes_no_change view_of
no-change-is-published (Seeking t) e = refl
no-change-is-published (Finding t) e = refl
no-change-is-published (Reading t) e = refl
no-change-is-published (Inserting t) e = absurd (cc)
no-change-is-published (Updating t) e = absurd (cc)
no-change-is-published (Deleting t) e = absurd (cc)
no-change-is-published (Freezing t) e = refl
no-change-is-published (Consolidating t) e = refl
no-change-is-published (Splitting t) e = refl
no-change-is-published (SplittingBelow t a) e = refl
no-change-is-published (SplittingInner t a) e = refl
no-change-is-published (SplittingInnerRoot t a) e = refl
no-change-is-published (Merging t) e = refl
no-change-is-published (MergingInner t) e = refl
no-change-is-published (Lowering t) e = refl

-- told to begin it goes on: it is no change, which ends where it has no room, no look-up of a key in a leaf, and no lowering of a root that has
-- not one child, as the path shows it
unfoldable pub goes_on : AnyTask → Bool
goes_on (Seeking t) = true
goes_on (Finding t) = false
goes_on (Reading t) = true
goes_on (Inserting t) = false
goes_on (Updating t) = false
goes_on (Deleting t) = false
goes_on (Freezing t) = true
goes_on (Consolidating t) = true
goes_on (Splitting t) = true
goes_on (SplittingBelow t a) = true
goes_on (SplittingInner t a) = true
goes_on (SplittingInnerRoot t a) = true
goes_on (Merging t) = true
goes_on (MergingInner t) = true
goes_on (Lowering t) = t.lone
