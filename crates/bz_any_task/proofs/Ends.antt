-- How a task of each kind ends, and how many slots and swaps it takes.
use Rattle.std.proofs.Common.{◌≡◌, ℕ, true, List, arith, refl}
use Rattle.bz_ascent.specs.FromBelow.Facts.{below_means}
use Rattle.bz_consol.specs.Facts.{consol_means}
use Rattle.bz_crown.specs.Facts.{crown_means}
use Rattle.bz_descend.specs.Facts.{descend_means}
use Rattle.bz_find.specs.Facts.{find_means}
use Rattle.bz_fork.specs.Facts.{fork_means}
use Rattle.bz_freeze.specs.Facts.{freeze_means}
use Rattle.bz_inner.specs.JoinFacts.{joining_means}
use Rattle.bz_inner.specs.LowerDuties.{lowering_of}
use Rattle.bz_inner.specs.LowerFacts.{Lowering as Lowers, lower_means}
use Rattle.bz_insert.specs.Facts.{insert_means}
use Rattle.bz_leaf.specs.Facts.{leaf_means}
use Rattle.bz_merge.specs.Facts.{merge_means}
use Rattle.bz_merge.specs.FromSplit.Facts.{split_means}
use Rattle.bz_mutate.specs.DeleteFacts.{delete_means}
use Rattle.bz_mutate.specs.UpdateFacts.{update_means}
use Rattle.bz_insert.specs.FromRecord.NewRecord.{NewRecord}
use Rattle.bz_task.specs.Scene.{Scene}
use Rattle.bz_task.specs.declared.path.Link.{Link}
use Rattle.bz_task.specs.declared.path.Path.{Path as Way}
use Rattle.bz_task.specs.declared.todo.Outcome.{Outcome}
use Rattle.bz_task.specs.declared.todo.Outcome.TheVariants.{Path, View, Key, Done, Restart, NeedsRoom, Full}
use Rattle.bz_task.specs.declared.view.KeyView.{KeyView}
use Rattle.bz_any_task.specs.Duties.{wants_of, means_of, view_of}
use Rattle.bz_any_task.specs.Ends.{TakesNothing, TakesOneSwap, EndsWithPath, EndsWithKey, EndsWithView, EndsInRoom, EndsOrNeedsRoom, IsEndOf}
use Rattle.bz_any_task.specs.Kinds.{kind_of, is_look, is_renewal}
use Rattle.bz_any_task.specs.declared.running.AnyTask.{AnyTask}
use Rattle.bz_any_task.specs.declared.running.AnyTask.TheVariants.{Seeking, Finding, Reading, Inserting, Updating, Deleting, Freezing, Consolidating, Splitting, SplittingBelow, SplittingInner, SplittingInnerRoot, Merging, MergingInner, Lowering}

pub looks-take-nothing : (t : AnyTask) → is_look (kind_of t) ≡ true → TakesNothing t
unfolding kind_of wants_of view_of
looks-take-nothing (Seeking t) e = record { wants = refl; needs = refl; swaps = refl; made = refl }
looks-take-nothing (Finding t) e = record { wants = refl; needs = refl; swaps = refl; made = refl }
looks-take-nothing (Reading t) e = record { wants = refl; needs = refl; swaps = refl; made = refl }
looks-take-nothing t e = absurd (cc)

pub renewals-take-one-swap : (t : AnyTask) → is_renewal (kind_of t) ≡ true → TakesOneSwap t
unfolding kind_of view_of
renewals-take-one-swap (Freezing t) e = record { made = refl; swaps = grind arith }
renewals-take-one-swap (Consolidating t) e = record { made = refl; swaps = grind arith }
renewals-take-one-swap (Splitting t) e = record { made = refl; swaps = grind arith }
renewals-take-one-swap (SplittingBelow t a) e = record { made = refl; swaps = grind arith }
renewals-take-one-swap (SplittingInner t a) e = record { made = refl; swaps = grind arith }
renewals-take-one-swap (SplittingInnerRoot t a) e = record { made = refl; swaps = grind arith }
renewals-take-one-swap t e = absurd (cc)

-- how each may end, by what its end means
by-seek : (key : List ℕ) (o : Outcome) (s : Scene) → descend_means key o s → EndsWithPath o
by-seek key (Path path) s m = tt
by-seek key Restart s m = tt
by-seek key o s m = absurd m

by-find : (key : List ℕ) (path : Way) (o : Outcome) (s : Scene) → find_means key path o s → EndsWithKey o
by-find key path (Key view) s m = tt
by-find key path Restart s m = tt
by-find key path o s m = absurd m

by-reading : (key : List ℕ) (path : Way) (o : Outcome) (s : Scene) → leaf_means key path o s → EndsWithView o
by-reading key path (View view) s m = tt
by-reading key path Restart s m = tt
by-reading key path o s m = absurd m

by-insert : (r : NewRecord) (o : Outcome) (s : Scene) → insert_means r o s → EndsOrNeedsRoom o
by-insert r Done s m = tt
by-insert r Restart s m = tt
by-insert r NeedsRoom s m = tt
by-insert r (Full spent) s m = tt
by-insert r o s m = absurd m

by-update : (r : NewRecord) (o : Outcome) (s : Scene) → update_means r o s → EndsOrNeedsRoom o
by-update r Done s m = tt
by-update r Restart s m = tt
by-update r NeedsRoom s m = tt
by-update r (Full spent) s m = tt
by-update r o s m = absurd m

by-delete : (v : KeyView) (o : Outcome) (s : Scene) → delete_means v o s → EndsOrNeedsRoom o
by-delete v Done s m = tt
by-delete v Restart s m = tt
by-delete v NeedsRoom s m = tt
by-delete v (Full spent) s m = tt
by-delete v o s m = absurd m

by-freeze : (k : ℕ) (o : Outcome) (s : Scene) → freeze_means k o s → EndsInRoom o
by-freeze k Done s m = tt
by-freeze k Restart s m = tt
by-freeze k (Full spent) s m = tt
by-freeze k o s m = absurd m

by-copy : (link : Link) (image : List ℕ) (o : Outcome) (s : Scene) → consol_means link image o s → EndsInRoom o
by-copy link image Done s m = tt
by-copy link image Restart s m = tt
by-copy link image (Full spent) s m = tt
by-copy link image o s m = absurd m

by-split : (link : Link) (left right sep : List ℕ) (o : Outcome) (s : Scene) → split_means link left right sep o s → EndsInRoom o
by-split link left right sep Done s m = tt
by-split link left right sep Restart s m = tt
by-split link left right sep (Full spent) s m = tt
by-split link left right sep o s m = absurd m

by-below : (upper lower : Link) (left right sep : List ℕ) (o : Outcome) (s : Scene) → below_means upper lower left right sep o s → EndsOrNeedsRoom o
by-below upper lower left right sep Done s m = tt
by-below upper lower left right sep Restart s m = tt
by-below upper lower left right sep NeedsRoom s m = tt
by-below upper lower left right sep (Full spent) s m = tt
by-below upper lower left right sep o s m = absurd m

by-fork : (upper middle : Link) (o : Outcome) (s : Scene) → fork_means upper middle o s → EndsOrNeedsRoom o
by-fork upper middle Done s m = tt
by-fork upper middle Restart s m = tt
by-fork upper middle NeedsRoom s m = tt
by-fork upper middle (Full spent) s m = tt
by-fork upper middle o s m = absurd m

by-crown : (upper : Link) (o : Outcome) (s : Scene) → crown_means upper o s → EndsInRoom o
by-crown upper Done s m = tt
by-crown upper Restart s m = tt
by-crown upper (Full spent) s m = tt
by-crown upper o s m = absurd m

by-merge : (upper lower : Link) (st : ℕ) (leaf : List ℕ) (o : Outcome) (s : Scene) → merge_means upper lower st leaf o s → EndsOrNeedsRoom o
by-merge upper lower st leaf Done s m = tt
by-merge upper lower st leaf Restart s m = tt
by-merge upper lower st leaf NeedsRoom s m = tt
by-merge upper lower st leaf (Full spent) s m = tt
by-merge upper lower st leaf o s m = absurd m

by-joining : (upper middle lower : Link) (o : Outcome) (s : Scene) → joining_means upper middle lower o s → EndsOrNeedsRoom o
by-joining upper middle lower Done s m = tt
by-joining upper middle lower Restart s m = tt
by-joining upper middle lower NeedsRoom s m = tt
by-joining upper middle lower (Full spent) s m = tt
by-joining upper middle lower o s m = absurd m

by-lower : (r : Lowers) (o : Outcome) (s : Scene) → lower_means r o s → EndsOrNeedsRoom o
by-lower r Done s m = tt
by-lower r Restart s m = tt
by-lower r NeedsRoom s m = tt
by-lower r (Full spent) s m = tt
by-lower r o s m = absurd m

pub ends-so : (t : AnyTask) (o : Outcome) (s : Scene) → means_of t o s → IsEndOf (kind_of t) o
unfolding kind_of view_of
ends-so (Seeking t) o s m = by-seek t.key o s m
ends-so (Finding t) o s m = by-find t.key t.path o s m
ends-so (Reading t) o s m = by-reading t.key t.path o s m
ends-so (Inserting t) o s m = by-insert t.added o s m
ends-so (Updating t) o s m = by-update t.added o s m
ends-so (Deleting t) o s m = by-delete t.view o s m
ends-so (Freezing t) o s m = by-freeze t.slot o s m
ends-so (Consolidating t) o s m = by-copy t.link t.image.0 o s m
ends-so (Splitting t) o s m = by-split t.link t.halves.left.0 t.halves.right.0 t.halves.separator o s m
ends-so (SplittingBelow t a) o s m = by-below t.upper t.lower t.halves.left.0 t.halves.right.0 t.halves.separator o s m
ends-so (SplittingInner t a) o s m = by-fork t.upper t.middle o s m
ends-so (SplittingInnerRoot t a) o s m = by-crown t.upper o s m
ends-so (Merging t) o s m = by-merge t.upper t.lower t.status t.leaf.0 o s m
ends-so (MergingInner t) o s m = by-joining t.upper t.middle t.lower o s m
ends-so (Lowering t) o s m = by-lower (lowering_of t) o s m
