-- What every recovery knows of the memory, whatever its phase: for those who keep a recovery and make its acts.
use Rattle.std.specs.Prelude.{◌≡◌, ℕ, ◌^◌, ◌<◌, Bool, Some}
use Rattle.bz_layout.specs.Addresses.{words_of}
use Rattle.bz_layout.specs.Slots.{FreeSlots}
use Rattle.bz_layout.specs.declared.config.Config.{Config}
use Rattle.bz_task.specs.Scene.{Stage, Waiting, Took}
use Rattle.bz_task.specs.declared.todo.Outcome.TheVariants.{Recovered}
use Rattle.bz_task.specs.declared.todo.Todo.{Todo}
use Rattle.bz_task.specs.declared.todo.Todo.TheVariants.{Load, Store, Flush, Finish}
use Rattle.bz_recover.specs.Contents.{ResolvesSome}
use Rattle.bz_recover.specs.Duties.{config_of, asks_of, end_of, acts_left, Knows, WalksIn, IsReady}
use Rattle.bz_recover.specs.Laws.{IsAskable}
use Rattle.bz_sweep.specs.Areas.{area_of}
use Rattle.bz_sweep.specs.Knowledge.{IsNear as IsNearIn}
use Rattle.bz_sweep.specs.Memory.{Memory, StoresWord, Copies, Flushes}
use Rattle.bz_recover.specs.Sweep.{IsImage, IsRecovered}
use Rattle.bz_recover.specs.Walking.{IsTreeOf, AreReached}
use Rattle.bz_recover.specs.declared.recover.Recover.{Recover}

-- a cached word outside the descriptors is the durable one or the value, and one of a descriptor is the durable one or 0
abbrev pub IsNear : Config → (ℕ → ℕ) → Memory → Type 0
IsNear c = IsNearIn (area_of c)

pub record RecoveriesKnow : Type 0 where
  -- no fence and no eviction of anybody changes what is known, nor what the words resolve to
  pub stable : (t : Recover) (values : ℕ → ℕ) (stage : Stage) (old new : Memory) (copied : ℕ → Bool) → IsReady t → Knows t values stage old → Copies old new copied → Knows t values stage new
  pub resolves : (t : Recover) (values : ℕ → ℕ) (stage : Stage) (old new : Memory) (copied : ℕ → Bool) → IsReady t → Knows t values stage old → Copies old new copied → ResolvesSome (config_of t) values old.durable new.durable
  -- its own acts
  pub loaded : (t : Recover) (values : ℕ → ℕ) (m : Memory) (a : ℕ) → IsReady t → asks_of t ≡ Some (Load a) → Knows t values Waiting m → Knows t values Took m
  pub stored : (t : Recover) (values : ℕ → ℕ) (old new : Memory) (a x : ℕ) → IsReady t → asks_of t ≡ Some (Store a x) → Knows t values Waiting old → StoresWord old new a x → Knows t values Took new
  pub flushed : (t : Recover) (values : ℕ → ℕ) (old new : Memory) (line : ℕ) → IsReady t → asks_of t ≡ Some (Flush line) → Knows t values Waiting old → Flushes old new line → Knows t values Took new
  -- what it knows says of every moment
  pub image : (t : Recover) (values : ℕ → ℕ) (stage : Stage) (m : Memory) → IsReady t → Knows t values stage m → IsImage (config_of t) values m.durable
  pub near : (t : Recover) (values : ℕ → ℕ) (stage : Stage) (m : Memory) → IsReady t → Knows t values stage m → IsNear (config_of t) values m
  pub words : (t : Recover) (values : ℕ → ℕ) (stage : Stage) (m : Memory) (a : ℕ) → IsReady t → Knows t values stage m → a < words_of (config_of t) → m.cached a < 2 ^ 64
  -- what it asks for may be asked for; where that is nothing more it has ended, and this stands then
  pub askable : (t : Recover) (values : ℕ → ℕ) (m : Memory) (todo : Todo) → IsReady t → Knows t values Waiting m → asks_of t ≡ Some todo → IsAskable (config_of t) todo
  pub finishes : (t : Recover) → asks_of t ≡ Some Finish → end_of t ≡ Some Recovered
  pub ends : (t : Recover) (values : ℕ → ℕ) (stage : Stage) (m : Memory) → IsReady t → Knows t values stage m → end_of t ≡ Some Recovered → IsRecovered (config_of t) values m
  -- and exactly the slots of the tree are held
  pub reached : (t : Recover) (values image : ℕ → ℕ) (slots : FreeSlots) → IsReady t → slots.nodes ≡ (config_of t).nodes → WalksIn t values slots → IsTreeOf (config_of t) values image → end_of t ≡ Some Recovered → AreReached (config_of t) image slots

-- how many acts are left changes by what a recovery is told alone
pub record ActsLeftStay : Type 0 where
  pub copied : (t : Recover) (values : ℕ → ℕ) (stage : Stage) (old new : Memory) (copied : ℕ → Bool) → Knows t values stage old → Copies old new copied → acts_left t new ≡ acts_left t old
  pub stored : (t : Recover) (old new : Memory) (a x : ℕ) → StoresWord old new a x → acts_left t new ≡ acts_left t old
