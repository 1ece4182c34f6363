-- What a task owes, and what it is owed: relations of its views before and after.
use Rattle.std.specs.Prelude.{◌≡◌, ◌<◌, ◌≤◌, ◌⊎◌, ℕ, ◌+◌, true, false, List, length, Some, None}
use Rattle.bz_call.specs.declared.replies.Spent.TheVariants.{Nodes, Swaps}
use Rattle.bz_layout.specs.Slots.{FreeSlots}
use Rattle.bz_layout.specs.declared.config.Config.{Config}
use Rattle.bz_layout.specs.declared.thresholds.TheConstants.{SPLIT_SLOTS}
use Rattle.bz_word.specs.declared.entry.Entry.{Entry}
use Rattle.bz_task.specs.Instant.{Instant}
use Rattle.bz_task.specs.OwnActs.{Stores, Flushes, AreTakenFrom, AreUnreached, gained}
use Rattle.bz_task.specs.Requests.{IsAskable, Hears, Tells, IsKnown, IsCause, EndsAtOnce, swaps_in, steps_in, effects_in}
use Rattle.bz_task.specs.Scene.{Scene, Stage, Waiting, Took, IsScene, IsLawful, HasFilled, here}
use Rattle.bz_task.specs.Swaps.{Stand, SwapsTo, IsGoodSwap, Takes}
use Rattle.bz_task.specs.TaskView.{TaskView}
use Rattle.bz_task.specs.declared.todo.Outcome.{Outcome}
use Rattle.bz_task.specs.declared.todo.Outcome.TheVariants.{Done, Restart, Full}
use Rattle.bz_task.specs.declared.todo.Seen.{Seen}
use Rattle.bz_task.specs.declared.todo.Seen.TheVariants.{Start, Swapped, NoSwap}
use Rattle.bz_task.specs.declared.todo.Todo.{Todo}
use Rattle.bz_task.specs.declared.todo.Todo.TheVariants.{Store, Flush, Swap, Finish}

-- it was told nothing yet: so many steps, swaps and slots at most are before it
pub record IsBegun (v : TaskView) (c : Config) (steps most slots : ℕ) : Type 0 where
  pub config : v.config ≡ c
  pub asks : v.asks ≡ None
  pub left : v.left ≡ steps
  pub swaps : v.swaps ≡ most
  pub made : v.made ≡ 0
  pub needs : v.needs ≡ slots

-- this may be told to it, with these slots free
pub record MayHear (v : TaskView) (seen : Seen) (moment : ℕ) (free : FreeSlots) : Type 0 where
  pub hears : Hears v.asks seen
  pub known : IsKnown v.config v.facts v.asks seen moment
  -- while it is still to take slots, these are the slots of its memory
  pub memory : 0 < v.needs → free.nodes ≡ v.config.nodes

-- told this it asks for that, and these slots are left
pub record GoesOn (v w : TaskView) (seen : Seen) (free left : FreeSlots) (todo : Todo) : Type 0 where
  pub asked : w.asks ≡ Some todo
  pub nearer : w.left + steps_in w.asks ≤ v.left
  pub fewer : w.swaps + swaps_in v.asks ≤ v.swaps
  pub counted : w.end ≡ None → w.made ≡ v.made + effects_in seen
  pub config : w.config ≡ v.config
  pub change : w.change ≡ v.change
  pub basis : w.basis ≡ v.basis
  pub meant : (outcome : Outcome) (s : Scene) → w.means outcome s → v.means outcome s
  pub slots : AreTakenFrom v.needs w.needs free left
  -- none is taken where it ends
  pub kept : (outcome : Outcome) → w.end ≡ Some outcome → left ≡ free
  -- how it ends, and why
  -- told to begin it asks for an act; only one that takes no slots may end at once: with what its leaf says of the key, or for want of
  -- room there
  pub begins : (outcome : Outcome) → seen ≡ Start → w.end ≡ Some outcome → EndsAtOnce v.needs outcome
  -- it ends with Done where the last swap that it could still ask for took effect, and nowhere else
  pub last : seen ≡ Swapped true → v.swaps ≡ 1 → w.end ≡ Some Done
  pub only_last : w.end ≡ Some Done → v.swaps ≡ 1
  pub done : w.end ≡ Some Done → seen ≡ Swapped true
  -- the swap that makes the change is its last act, where it takes effect
  pub published : v.publishing ≡ true → seen ≡ Swapped true → w.asks ≡ Some Finish
  pub restart : w.end ≡ Some Restart → (seen ≡ Swapped false) ⊎ v.differs seen
  pub no_swap : seen ≡ NoSwap → w.end ≡ Some (Full Swaps)
  pub full_swaps : w.end ≡ Some (Full Swaps) → seen ≡ NoSwap
  pub full_nodes : w.end ≡ Some (Full Nodes) → length free.free < v.needs

-- what it learns, in every scene in which the answer is true, and in which no link has led to a free slot
abbrev pub Learns : TaskView → TaskView → Seen → ℕ → FreeSlots → FreeSlots → Type 0
Learns v w seen moment free left =
    (stage : Stage) (s : Scene) → s.past.now ≡ moment → s.past.config ≡ v.config → IsScene s → (0 < v.needs → AreUnreached s free) → v.facts stage s → Tells v.asks stage seen s → w.facts Waiting (gained s free left)

-- what it has learnt is sound
pub record IsSound (v : TaskView) : Type 0 where
  -- it survives every lawful step
  pub stable : (stage : Stage) (s after : Scene) → s.past.config ≡ v.config → v.facts stage s → IsScene after → IsLawful s after → v.facts stage after
  -- what is asked for may be asked for
  pub askable : (s : Scene) (todo : Todo) → s.past.config ≡ v.config → v.facts Waiting s → IsScene s → v.asks ≡ Some todo → IsAskable s todo
  -- a load that differs is worth a restart: what was read before holds no longer
  pub cause : (s : Scene) (seen : Seen) → s.past.config ≡ v.config → v.facts Waiting s → v.differs seen → IsCause v.asks seen s
  -- at most so many slots are taken
  pub few : v.needs ≤ SPLIT_SLOTS
  -- the change is made once
  pub once : (s : Scene) → v.facts Waiting s → v.publishing ≡ true → s.effected ≡ false
  -- the end means what it should, and every slot that was taken has been stored into
  pub ends : (s : Scene) (outcome : Outcome) → v.facts Waiting s → v.end ≡ Some outcome → v.means outcome s × HasFilled s

-- its own acts, by which the memory changes, are as they should be
pub record ActsWell (v : TaskView) : Type 0 where
  -- where the expected values stand, its swap is lawful for everybody, and changes the content as it should
  pub effect : (s : Scene) (y : Instant) (entries : List Entry) → s.past.config ≡ v.config → v.facts Waiting s → IsScene s → v.asks ≡ Some (Swap entries) → Stand entries (here s) → SwapsTo s.past.config entries (here s) y
      → IsGoodSwap v.publishing v.change entries s y
  -- and what it knows then
  pub took : (s after : Scene) (entries : List Entry) → s.past.config ≡ v.config → v.facts Waiting s → IsScene s → IsScene after → v.asks ≡ Some (Swap entries) → Stand entries (here s) → Takes v.publishing entries s after
      → v.facts Took after
  -- what it knows once its store, or its flush, is made
  pub stored : (s after : Scene) (a x : ℕ) → s.past.config ≡ v.config → v.facts Waiting s → IsScene s → IsScene after → v.asks ≡ Some (Store a x) → Stores a x s after → v.facts Took after
  pub flushed : (s after : Scene) (line : ℕ) → s.past.config ≡ v.config → v.facts Waiting s → IsScene s → IsScene after → v.asks ≡ Some (Flush line) → Flushes line s after → v.facts Took after
