-- A merge asks for the swap of the link where it can ask for no other any more, and for its freezes before.
use Rattle.std.proofs.Common.{◌≡◌, ◌<◌, ◌≤◌, ◌+◌, List, Some, arith}
use Rattle.bz_layout.specs.declared.config.Config.{Config}
use Rattle.bz_any_task.specs.FromMerge.Counts.{merge_swaps}
use Rattle.bz_any_task.specs.FromMerge.Duties.{merging_of}
use Rattle.bz_any_task.specs.FromMerge.Facts.{merge_asks}
use Rattle.bz_any_task.specs.FromMerge.Plans.{Merging as MergePlan}
use Rattle.bz_any_task.specs.FromMerge.Merge.{Merge}
use Rattle.bz_any_task.specs.FromMerge.MergePhase.{MergePhase}
use Rattle.bz_any_task.specs.FromMerge.MergePhase.TheVariants.{Freeze, FreezeBeside, Swap}
use Rattle.bz_any_task.specs.Duties.{config_of, asks_of, facts_of, view_of}
use Rattle.bz_any_task.specs.Kinds.{kind_of}
use Rattle.bz_any_task.specs.Kinds as kinds
use Rattle.bz_any_task.specs.declared.running.AnyTask.{AnyTask}
use Rattle.bz_any_task.specs.declared.running.AnyTask.TheVariants.{Merging}
use Rattle.bz_word.specs.declared.entry.Entry.{Entry}
use Rattle.bz_task.specs.Instant.{Instant}
use Rattle.bz_task.specs.Scene.{Scene}
use Rattle.bz_task.specs.declared.todo.Todo.TheVariants.{Swap as Swaps_for}
use Rattle.bz_tally.specs.Counts.{leaves_now, leaves_then}
use Rattle.bz_tally.specs.Laws.{CountsAtLast, LeavesFollow, MergeCounts, MergesCountAtLast}
use Rattle.bz_tally.specs.Swaps.{IsOwnSwap}
use Rattle.bz_tally.proofs.Tasks.{swaps-count}

last : (t : Merge) (c : Config) (r : MergePlan) (phase : MergePhase) (entries : List Entry) (s : Scene) (y : Instant) → merge_asks c r phase ≡ Some (Swaps_for entries) → MergeCounts t phase s y → merge_swaps phase ≤ 1 → leaves_then s y + 1 ≡ leaves_now s
last t c r Swap entries s y e h l = h.less
last t c r Freeze entries s y e h l = absurd (omega (arith, l))
last t c r FreezeBeside entries s y e h l = absurd (omega (arith, l))
last t c r phase entries s y e h l = absurd (cc)

before : (t : Merge) (c : Config) (r : MergePlan) (phase : MergePhase) (entries : List Entry) (s : Scene) (y : Instant) → merge_asks c r phase ≡ Some (Swaps_for entries) → MergeCounts t phase s y → 1 < merge_swaps phase → leaves_then s y ≡ leaves_now s
before t c r Swap entries s y e h l = absurd (omega (arith, l))
before t c r Freeze entries s y e h l = h.same
before t c r FreezeBeside entries s y e h l = h.same
before t c r phase entries s y e h l = absurd (cc)

-- of whichever task it is
at-last : (t : AnyTask) (entries : List Entry) (s : Scene) (y : Instant) → IsOwnSwap (config_of t) (asks_of t) (facts_of t) entries s y → LeavesFollow t s y → kind_of t ≡ kinds.Merge → CountsAtLast t s y
unfolding view_of kind_of
at-last (Merging t) entries s y w h e = record { last = last t t.config (merging_of t) t.phase entries s y w.asks h; before = before t t.config (merging_of t) t.phase entries s y w.asks h }
at-last t entries s y w h e = absurd (cc)

pub merges-count-at-last : MergesCountAtLast
merges-count-at-last t entries s y w e = at-last t entries s y w (swaps-count t entries s y w) e
