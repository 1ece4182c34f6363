-- Whichever task it is: what its swap makes of the leaves.
use Rattle.std.proofs.Common.{◌≡◌, ◌⊎◌, List, Some, refl, inl, inr}
use Rattle.bz_any_task.specs.FromDescend.SeekFacts.{seek_asks}
use Rattle.bz_any_task.specs.FromDescend.Way.{Way}
use Rattle.bz_any_task.specs.FromDescend.Way.TheVariants as way
use Rattle.bz_any_task.specs.FromFind.Phases.{find_asks}
use Rattle.bz_any_task.specs.FromFind.Find.{Find}
use Rattle.bz_any_task.specs.FromFind.FindPhase.{FindPhase}
use Rattle.bz_any_task.specs.FromFind.FindPhase.TheVariants as find
use Rattle.bz_layout.specs.declared.config.Config.{Config}
use Rattle.bz_leaf.specs.Facts.{leaf_asks}
use Rattle.bz_leaf.specs.declared.phase.LeafPhase.{LeafPhase}
use Rattle.bz_leaf.specs.declared.phase.LeafPhase.TheVariants as leaf
use Rattle.bz_any_task.specs.FromMerge.Merge.{Merge}
use Rattle.bz_any_task.specs.FromMerge.MergePhase.{MergePhase}
use Rattle.bz_any_task.specs.FromMerge.MergePhase.TheVariants.{Swap}
use Rattle.bz_node.specs.declared.image.NodeImage.{NodeImage}
use Rattle.bz_any_task.specs.Duties.{view_of}
use Rattle.bz_any_task.specs.declared.running.AnyTask.{AnyTask}
use Rattle.bz_any_task.specs.declared.running.AnyTask.TheVariants.{Seeking, Finding, Reading, Inserting, Updating, Deleting, Freezing, Consolidating, Splitting, SplittingBelow, SplittingInner, SplittingInnerRoot, Merging, MergingInner, Lowering}
use Rattle.bz_word.specs.declared.entry.Entry.{Entry}
use Rattle.bz_task.specs.Instant.{Instant}
use Rattle.bz_task.specs.Scene.{Scene}
use Rattle.bz_task.specs.declared.path.Link.{Link}
use Rattle.bz_task.specs.declared.todo.Todo.TheVariants.{Swap as Swaps_for}
use Rattle.bz_tally.specs.Counts.{KeepsTheLeaves}
use Rattle.bz_tally.specs.Laws.{MergeCounts, LeavesFollow, SwapsCount, Renews, Grows, Shrinks, LeavesComeAndGo}
use Rattle.bz_tally.proofs.Changes.{changes-keep}
use Rattle.bz_tally.proofs.Copies.{copies}
use Rattle.bz_tally.proofs.HalvingBelow.{halves-below}
use Rattle.bz_tally.proofs.HalvingInner.{halves-inner}
use Rattle.bz_tally.proofs.LevelSwaps.{inner-merged, root-lowered}
use Rattle.bz_tally.proofs.Merges.{merges-count}
use Rattle.bz_tally.proofs.PartingRoot.{root-parts}
use Rattle.bz_tally.proofs.RootHalving.{root-halves}

-- a look-up asks for no swap
seek-none : (c : Config) (p : Way) (entries : List Entry) → seek_asks c p ≡ Some (Swaps_for entries) → ⊥
seek-none c way.Fresh entries e = absurd (cc)
seek-none c way.Guard entries e = absurd (cc)
seek-none c (way.Root st) entries e = absurd (cc)
seek-none c (way.Header k) entries e = absurd (cc)
seek-none c (way.Status k) entries e = absurd (cc)
seek-none c (way.Meta r) entries e = absurd (cc)
seek-none c (way.Word r x i) entries e = absurd (cc)
seek-none c (way.First r) entries e = absurd (cc)
seek-none c (way.Pointer r) entries e = absurd (cc)
seek-none c way.Found entries e = absurd (cc)
seek-none c way.Changed entries e = absurd (cc)

find-none : (t : Find) (p : FindPhase) (entries : List Entry) → find_asks t p ≡ Some (Swaps_for entries) → ⊥
find-none t find.Fresh entries e = absurd (cc)
find-none t find.Status entries e = absurd (cc)
find-none t find.Header entries e = absurd (cc)
find-none t find.Searching entries e = absurd (cc)
find-none t find.Again entries e = absurd (cc)
find-none t find.Link entries e = absurd (cc)
find-none t (find.Guard at) entries e = absurd (cc)
find-none t (find.Viewed at) entries e = absurd (cc)
find-none t find.Changed entries e = absurd (cc)

leaf-none : (c : Config) (link : Link) (image : NodeImage) (p : LeafPhase) (entries : List Entry) → leaf_asks c link image p ≡ Some (Swaps_for entries) → ⊥
leaf-none c link image leaf.Fresh entries e = absurd (cc)
leaf-none c link image leaf.Status entries e = absurd (cc)
leaf-none c link image (leaf.Word i) entries e = absurd (cc)
leaf-none c link image leaf.Again entries e = absurd (cc)
leaf-none c link image leaf.Link entries e = absurd (cc)
leaf-none c link image (leaf.Guard at) entries e = absurd (cc)
leaf-none c link image (leaf.Viewed at) entries e = absurd (cc)
leaf-none c link image leaf.Changed entries e = absurd (cc)

-- a task on the way up knows what it knows without that way
pub swaps-count : SwapsCount
unfolding view_of
swaps-count (Seeking t) entries s y w = absurd (seek-none t.config t.phase entries w.asks)
swaps-count (Finding t) entries s y w = absurd (find-none t t.phase entries w.asks)
swaps-count (Reading t) entries s y w = absurd (leaf-none t.config t.link t.image t.phase entries w.asks)
swaps-count (Inserting t) entries s y w = changes-keep.insert t entries s y (record { config = w.config; good = w.good; knows = w.knows; asks = w.asks; stand = w.stand; leads = w.leads })
swaps-count (Updating t) entries s y w = changes-keep.update t entries s y (record { config = w.config; good = w.good; knows = w.knows; asks = w.asks; stand = w.stand; leads = w.leads })
swaps-count (Deleting t) entries s y w = changes-keep.delete t entries s y (record { config = w.config; good = w.good; knows = w.knows; asks = w.asks; stand = w.stand; leads = w.leads })
swaps-count (Freezing t) entries s y w = changes-keep.freeze t entries s y (record { config = w.config; good = w.good; knows = w.knows; asks = w.asks; stand = w.stand; leads = w.leads })
swaps-count (Consolidating t) entries s y w = copies t entries s y (record { config = w.config; good = w.good; knows = w.knows; asks = w.asks; stand = w.stand; leads = w.leads })
swaps-count (Splitting t) entries s y w = root-halves t entries s y (record { config = w.config; good = w.good; knows = w.knows; asks = w.asks; stand = w.stand; leads = w.leads })
swaps-count (SplittingBelow t a) entries s y w = halves-below t entries s y (record { config = w.config; good = w.good; knows = w.knows.0; asks = w.asks; stand = w.stand; leads = w.leads })
swaps-count (SplittingInner t a) entries s y w = halves-inner t entries s y (record { config = w.config; good = w.good; knows = w.knows.0; asks = w.asks; stand = w.stand; leads = w.leads })
swaps-count (SplittingInnerRoot t a) entries s y w = root-parts t entries s y (record { config = w.config; good = w.good; knows = w.knows.0; asks = w.asks; stand = w.stand; leads = w.leads })
swaps-count (Merging t) entries s y w = merges-count t entries s y (record { config = w.config; good = w.good; knows = w.knows; asks = w.asks; stand = w.stand; leads = w.leads })
swaps-count (MergingInner t) entries s y w = inner-merged t entries s y (record { config = w.config; good = w.good; knows = w.knows; asks = w.asks; stand = w.stand; leads = w.leads })
swaps-count (Lowering t) entries s y w = root-lowered t entries s y (record { config = w.config; good = w.good; knows = w.knows; asks = w.asks; stand = w.stand; leads = w.leads })

-- of a merge: it keeps them, or takes one away
merge-cases : (t : Merge) (phase : MergePhase) (s : Scene) (y : Instant) → MergeCounts t phase s y → KeepsTheLeaves s y ⊎ (Renews (Merging t) s y ⊎ (Grows (Merging t) s y ⊎ Shrinks (Merging t) s y))
merge-cases t Swap s y h = inr (inr (inr (record { slot = t.lower.slot; beside = t.side.slot; own = t.leaf.0; other = t.beside.0; is = (refl, (refl, (refl, refl))); merges = h })))
merge-cases t phase s y h = inl h

come-and-go : (t : AnyTask) (s : Scene) (y : Instant) → LeavesFollow t s y → KeepsTheLeaves s y ⊎ (Renews t s y ⊎ (Grows t s y ⊎ Shrinks t s y))
come-and-go (Splitting t) s y h = inr (inr (inl (record { slot = t.link.slot; is = refl; splits = h })))
come-and-go (SplittingBelow t a) s y h = inr (inr (inl (record { slot = t.lower.slot; is = refl; splits = h })))
come-and-go (Merging t) s y h = merge-cases t t.phase s y h
come-and-go (Seeking t) s y h = inl h
come-and-go (Finding t) s y h = inl h
come-and-go (Reading t) s y h = inl h
come-and-go (Inserting t) s y h = inl h
come-and-go (Updating t) s y h = inl h
come-and-go (Deleting t) s y h = inl h
come-and-go (Freezing t) s y h = inl h
come-and-go (Consolidating t) s y h = inr (inl (record { slot = t.link.slot; is = refl; renews = h }))
come-and-go (SplittingInner t a) s y h = inl h
come-and-go (SplittingInnerRoot t a) s y h = inl h
come-and-go (MergingInner t) s y h = inl h
come-and-go (Lowering t) s y h = inl h

pub leaves-come-and-go : LeavesComeAndGo
leaves-come-and-go t entries s y w = come-and-go t s y (swaps-count t entries s y w)
