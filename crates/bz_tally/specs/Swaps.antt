-- A swap that a task asks for, and the instant to which it leads.
use Rattle.std.specs.Prelude.{◌≡◌, List, Option, Some}
use Rattle.bz_layout.specs.declared.config.Config.{Config}
use Rattle.bz_word.specs.declared.entry.Entry.{Entry}
use Rattle.bz_task.specs.Instant.{Instant}
use Rattle.bz_task.specs.Scene.{Scene, Stage, Waiting, IsScene, here}
use Rattle.bz_task.specs.Swaps.{Stand, SwapsTo}
use Rattle.bz_task.specs.declared.todo.Todo.{Todo}
use Rattle.bz_task.specs.declared.todo.Todo.TheVariants.{Swap}

-- a task over this memory, which knows these facts, asks for a swap of these entries; they stand, and it leads to y
pub record IsOwnSwap (c : Config) (asked : Option Todo) (facts : Stage → Scene → Type 0) (entries : List Entry) (s : Scene) (y : Instant) : Type 0 where
  pub config : s.past.config ≡ c
  pub good : IsScene s
  pub knows : facts Waiting s
  pub asks : asked ≡ Some (Swap entries)
  pub stand : Stand entries (here s)
  pub leads : SwapsTo s.past.config entries (here s) y
