-- A swap of a task whose worker is alone.
use Rattle.std.specs.Prelude.{◌≡◌, List, Option, Some}
use Rattle.bz_layout.specs.declared.config.Config.{Config}
use Rattle.bz_word.specs.declared.entry.Entry.{Entry}
use Rattle.bz_task.specs.Instant.{Instant}
use Rattle.bz_task.specs.Scene.{Scene, Stage, Waiting, IsScene, here}
use Rattle.bz_task.specs.Swaps.{SwapsTo}
use Rattle.bz_task.specs.declared.todo.Todo.{Todo}
use Rattle.bz_task.specs.declared.todo.Todo.TheVariants.{Swap}
use Rattle.bz_undisturbed.specs.Undisturbed.{IsUndisturbed}

-- a task over this memory, which knows these facts, asks for a swap of these entries; nobody's swap took effect since the look-up began;
-- and this one leads to y
pub record IsUndisturbedSwap (c : Config) (asked : Option Todo) (facts : Stage → Scene → Type 0) (entries : List Entry) (s : Scene) (y : Instant) : Type 0 where
  pub config : s.past.config ≡ c
  pub good : IsScene s
  pub knows : facts Waiting s
  pub asks : asked ≡ Some (Swap entries)
  pub alone : IsUndisturbed 0 s.past
  pub leads : SwapsTo s.past.config entries (here s) y
