-- Where nobody else's swap took effect since the look-up began. A scene's `since` is the moment at which it began.
use Rattle.std.specs.Prelude.{◌≡◌, ℕ, ◌+◌, List, Option, Some}
use Rattle.bz_layout.specs.declared.config.Config.{Config}
use Rattle.bz_word.specs.declared.entry.Entry.{Entry}
use Rattle.bz_task.specs.Requests.{Tells}
use Rattle.bz_task.specs.Scene.{Past, Scene, Stage, Waiting, IsScene, here}
use Rattle.bz_task.specs.Swaps.{Stand}
use Rattle.bz_task.specs.declared.todo.Seen.{Seen}
use Rattle.bz_task.specs.declared.todo.Todo.{Todo}
use Rattle.bz_task.specs.declared.todo.Todo.TheVariants.{Swap}

-- as many swaps took effect since then as this task's own, of which it was told: nobody else's
abbrev pub IsUndisturbed : ℕ → Past → Type 0
IsUndisturbed made p = (p.at p.now).effects ≡ (p.at p.since).effects + made

-- what a task that asks for this has read still stands: the expected values of its swap stand, and no answer to a read is one that
-- differs. So it does not come to begin again
pub record GoesOn (asks : Option Todo) (differs : Seen → Type 0) (s : Scene) : Type 0 where
  pub stands : (entries : List Entry) → asks ≡ Some (Swap entries) → Stand entries (here s)
  pub same : (seen : Seen) → Tells asks Waiting seen s → differs seen → ⊥

-- a task over a memory, that asks for this and knows these facts, goes on where its worker is alone and made so many swaps itself
abbrev pub GoesOnUndisturbed : ℕ → Config → Option Todo → (Stage → Scene → Type 0) → (Seen → Type 0) → Type 0
GoesOnUndisturbed made c asks facts differs = (s : Scene) → s.past.config ≡ c → IsScene s → facts Waiting s → IsUndisturbed made s.past → GoesOn asks differs s
