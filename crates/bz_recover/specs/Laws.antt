-- The laws of a recovery's acts, whatever its phase.
use Rattle.std.specs.Prelude.{◌≡◌, ℕ, ◌*◌, ◌^◌, ◌<◌, length}
use Rattle.bz_layout.specs.Addresses.{words_of}
use Rattle.bz_layout.specs.declared.config.Config.{Config}
use Rattle.bz_layout.specs.declared.sizes.TheConstants.{LINE_WORDS}
use Rattle.bz_swap.specs.Power.{MayRenew}
use Rattle.bz_swap.specs.SwapMemory.{SwapMemory, Idle, doing_of, memory_words as words_in}
use Rattle.bz_task.specs.declared.todo.Todo.{Todo}
use Rattle.bz_task.specs.declared.todo.Todo.TheVariants.{Load, Store, Flush, Finish}
use Rattle.bz_sweep.specs.Memory.{Memory, memory_of, Cuts}
use Rattle.bz_recover.specs.Sweep.{IsImage, IsPoweredOn, IsRecovered}

-- what is asked for lies in the memory, and is a load, a store, a flush or the end
abbrev pub IsAskable : Config → Todo → Type 0
IsAskable c (Load a) = a < words_of c
IsAskable c (Store a x) = (a < words_of c) × (x < 2 ^ 61)
IsAskable c (Flush line) = line * LINE_WORDS < words_of c
IsAskable c Finish = Unit {0}
IsAskable c other = ⊥

-- after a power cut an image resolves to what it resolved to before
abbrev pub CutsKeepTheImage : Type 0
CutsKeepTheImage = (c : Config) (values : ℕ → ℕ) (old new : Memory) → IsImage c values old.durable → Cuts old new → IsPoweredOn c values new

-- where a recovery has ended, and nothing else is going on, the swap memory may be renewed
abbrev pub RecoveredMemoriesMayBeRenewed : Type 0
RecoveredMemoriesMayBeRenewed =
    (c : Config) (values : ℕ → ℕ) (m : SwapMemory) → m.swaps ≡ c.swaps → length m.cached ≡ words_of c → length m.durable ≡ words_of c → ((w : ℕ) → doing_of m w ≡ Idle) →
    IsRecovered c values (memory_of (words_in m)) → MayRenew m
