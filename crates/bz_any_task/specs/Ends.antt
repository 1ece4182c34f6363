-- How a task of each kind ends, and how many slots and swaps it takes.
use Rattle.std.specs.Prelude.{◌≡◌, ◌≤◌}
use Rattle.bz_task.specs.declared.todo.Outcome.{Outcome}
use Rattle.bz_task.specs.declared.todo.Outcome.TheVariants.{Path, View, Key, Done, Restart, NeedsRoom, Full}
use Rattle.bz_any_task.specs.Duties.{made_of, needs_of, swaps_of, wants_of}
use Rattle.bz_any_task.specs.Kinds.{Kind, Seek, Find, ReadWhole, Insert, Update, Delete, Freeze, Copy, SplitRootLeaf, SplitLeaf, SplitNode, SplitRootNode, Merge, MergeNodes, LowerRoot}
use Rattle.bz_any_task.specs.declared.running.AnyTask.{AnyTask}

-- a look-up takes no slot and asks for no swap
pub record TakesNothing (t : AnyTask) : Type 0 where
  pub wants : wants_of t ≡ 0
  pub needs : needs_of t ≡ 0
  pub swaps : swaps_of t ≡ 0
  pub made : made_of t ≡ 0

-- one swap at most is asked for, and while the task goes on none was made
pub record TakesOneSwap (t : AnyTask) : Type 0 where
  pub made : made_of t ≡ 0
  pub swaps : swaps_of t ≤ 1

-- a look-up ends with what it looked for, or is to begin again
abbrev pub EndsWithPath : Outcome → Type 0
EndsWithPath (Path path) = Unit {0}
EndsWithPath Restart = Unit {0}
EndsWithPath outcome = ⊥

abbrev pub EndsWithKey : Outcome → Type 0
EndsWithKey (Key view) = Unit {0}
EndsWithKey Restart = Unit {0}
EndsWithKey outcome = ⊥

abbrev pub EndsWithView : Outcome → Type 0
EndsWithView (View view) = Unit {0}
EndsWithView Restart = Unit {0}
EndsWithView outcome = ⊥

-- its swap took effect, or it is to begin again, or something ran out
abbrev pub EndsInRoom : Outcome → Type 0
EndsInRoom Done = Unit {0}
EndsInRoom Restart = Unit {0}
EndsInRoom (Full spent) = Unit {0}
EndsInRoom outcome = ⊥

-- or there was no room
abbrev pub EndsOrNeedsRoom : Outcome → Type 0
EndsOrNeedsRoom Done = Unit {0}
EndsOrNeedsRoom Restart = Unit {0}
EndsOrNeedsRoom NeedsRoom = Unit {0}
EndsOrNeedsRoom (Full spent) = Unit {0}
EndsOrNeedsRoom outcome = ⊥

-- a task of this kind may end so
abbrev pub IsEndOf : Kind → Outcome → Type 0
IsEndOf Seek = EndsWithPath
IsEndOf Find = EndsWithKey
IsEndOf ReadWhole = EndsWithView
IsEndOf Insert = EndsOrNeedsRoom
IsEndOf Update = EndsOrNeedsRoom
IsEndOf Delete = EndsOrNeedsRoom
IsEndOf Freeze = EndsInRoom
IsEndOf Copy = EndsInRoom
IsEndOf SplitRootLeaf = EndsInRoom
IsEndOf (SplitLeaf a) = EndsOrNeedsRoom
IsEndOf (SplitNode a) = EndsOrNeedsRoom
IsEndOf (SplitRootNode a) = EndsInRoom
IsEndOf Merge = EndsOrNeedsRoom
IsEndOf MergeNodes = EndsOrNeedsRoom
IsEndOf LowerRoot = EndsOrNeedsRoom
