-- A split on the way up from a leaf: what it knows beside its own.
use Rattle.std.specs.Prelude.{ℕ, List}
use Rattle.bz_call.specs.declared.replies.Spent.TheVariants.{Height}
use Rattle.bz_ascent.specs.Ascents.{IsAscent, IsOneUp}
use Rattle.bz_ascent.specs.declared.ascent.Ascent.{Ascent}
use Rattle.bz_ascent.specs.FromBelow.Facts.{LackedRoom}
use Rattle.bz_crown.specs.Facts.{WasTooHigh}
use Rattle.bz_task.specs.Scene.{Past, Scene}
use Rattle.bz_task.specs.TaskView.{TaskView}
use Rattle.bz_task.specs.declared.path.Link.{Link}
use Rattle.bz_task.specs.declared.todo.Outcome.{Outcome}
use Rattle.bz_task.specs.declared.todo.Outcome.TheVariants.{Full, NeedsRoom}

-- the node to which the upper link leads lacked the room for some separator
pub record LackedSome (upper lower : Link) (p : Past) : Type 0 where
  pub sep : List ℕ
  pub lacked : LackedRoom upper lower sep p

-- where such a task ends for want of room, it was the node above the one that is to be split that lacked it; and where the tree is too
-- high, that one stood at the greatest level
pub record LooksUp (a : Ascent) (means : Outcome → Scene → Type 0) : Type 0 where
  pub lacks : (next : Ascent) (s : Scene) → IsOneUp a next → means NeedsRoom s → LackedSome next.node a.node s.past
  pub high : (s : Scene) → means (Full Height) s → WasTooHigh a.node s.past

-- a task that knows this of the past beside its own: all but the facts is as it was
abbrev pub also : (Past → Type 0) → TaskView → TaskView
also Known v = record v { facts = λ stage s. v.facts stage s × Known s.past }

-- that the nodes below were full
abbrev pub on_ascent : Ascent → TaskView → TaskView
on_ascent a v = also (λ p. IsAscent a p × LooksUp a v.means) v
