-- Starts of what tasks ask for: when they may come, and that the same memory is seen after them.
use Rattle.std.specs.Prelude.{◌≡◌, ℕ, ◌*◌, ◌<◌, List, All}
use Rattle.bz_layout.specs.declared.config.Config.{Config}
use Rattle.bz_layout.specs.declared.sizes.TheConstants.{LINE_WORDS}
use Rattle.bz_swap.specs.Held.{Holds}
use Rattle.bz_swap.specs.Starts.{MayWork, MayRead, MayStore, MayFlush, MaySwap, started, swapping}
use Rattle.bz_swap.specs.SwapMemory.{SwapMemory, Doing, Storing, doing_of}
use Rattle.bz_word.specs.declared.entry.Entry.{Entry}
use Rattle.bz_task.specs.Instant.{Instant}
use Rattle.bz_task.specs.Requests.{IsReadable, IsOwnStore, IsEntryToAsk}
use Rattle.bz_task.specs.Scene.{Scene, IsMine, IsScene, here}
use Rattle.bz_sight.specs.Sight.{IsSeen, IsHidden}

-- the scene of a worker who sees this memory
pub record Sees (c : Config) (x : Instant) (s : Scene) : Type 0 where
  pub scene : IsScene s
  pub config : s.past.config ≡ c
  pub here : here s ≡ x

-- every private store that is started and not made goes to a hidden word
abbrev pub StoresAreHidden : Config → Instant → SwapMemory → Type 0
StoresAreHidden c x m = (w a v : ℕ) → doing_of m w ≡ Storing a v → IsHidden c x a

-- what a task may ask for may be started
pub record TasksMayStart : Type 0 where
  pub read : (c : Config) (x : Instant) (m : SwapMemory) (s : Scene) (w a : ℕ) → IsSeen c m x → Sees c x s → MayWork m w → IsReadable s a → MayRead m w a
  pub store : (c : Config) (x : Instant) (m : SwapMemory) (s : Scene) (w a v : ℕ) → IsSeen c m x → Sees c x s → MayWork m w → IsOwnStore s a v → MayStore m w a v
  pub flush : (c : Config) (x : Instant) (m : SwapMemory) (s : Scene) (w line : ℕ) → IsSeen c m x → Sees c x s → MayWork m w → IsReadable s (LINE_WORDS * line) → MayFlush m w line
  pub swap : (c : Config) (x : Instant) (m : SwapMemory) (s : Scene) (w : ℕ) (entries : List Entry) → IsSeen c m x → StoresAreHidden c x m → Sees c x s → MayWork m w → All (IsEntryToAsk s) entries → MaySwap m w entries

-- what one owns is hidden
abbrev pub OwnWordsAreHidden : Type 0
OwnWordsAreHidden = (c : Config) (x : Instant) (s : Scene) (a : ℕ) → Sees c x s → IsMine s a → IsHidden c x a

-- a start makes no act: the same memory is seen
pub record StartsAreSeen : Type 0 where
  pub start : (c : Config) (x : Instant) (m : SwapMemory) (w : ℕ) (doing : Doing) → IsSeen c m x → 0 < w → Holds (started m w doing) → IsSeen c (started m w doing) x
  pub swap : (c : Config) (x : Instant) (m : SwapMemory) (w : ℕ) (entries : List Entry) (s : Scene) → IsSeen c m x → Sees c x s → MaySwap m w entries → All (IsEntryToAsk s) entries → Holds (swapping m w entries) → IsSeen c (swapping m w entries) x
