-- The laws of a sweep's acts, whatever its phase.
use Rattle.std.specs.Prelude.{◌≡◌, ℕ, ◌-◌, ◌*◌, ◌^◌, ◌<◌, [], length}
use Rattle.bz_layout.specs.Config.{IsConfig}
use Rattle.bz_layout.specs.declared.config.Config.{Config}
use Rattle.bz_layout.specs.declared.sizes.TheConstants.{LINE_WORDS}
use Rattle.bz_pm.specs.Acts.{stored, evicted, after_cut}
use Rattle.bz_pm.specs.After.{after_ask, after_fence}
use Rattle.bz_pm.specs.State.{State, IsState, asks_of}
use Rattle.bz_pm.specs.Words.{Words, IsMemory, HoldsWords}
use Rattle.bz_swap.specs.Power.{MayRenew}
use Rattle.bz_swap.specs.SwapMemory.{SwapMemory, Idle, doing_of, memory_words as words_in}
use Rattle.bz_sweep.specs.Areas.{area_of, size_of, IsArea}
use Rattle.bz_sweep.specs.Memory.{Memory, memory_of, StoresWord, Flushes, Evicts, Cuts}
use Rattle.bz_sweep.specs.Words.{IsImage, IsPoweredOn, IsRecovered}
use Rattle.bz_sweep.specs.declared.area.Area.{Area}
use Rattle.bz_sweep.specs.declared.ask.Ask.{Ask}
use Rattle.bz_sweep.specs.declared.ask.Ask.TheVariants.{Load, Store, Flush, Finish}

-- what is asked for lies in the memory, and what is stored is plain
abbrev pub IsAskable : Area → Ask → Type 0
IsAskable r (Load a) = a < size_of r
IsAskable r (Store a x) = (a < size_of r) × (x < 2 ^ 61)
IsAskable r (Flush line) = line * LINE_WORDS < size_of r
IsAskable r Finish = Unit {0}

-- a configuration has an area
abbrev pub ConfigsHaveAreas : Type 0
ConfigsHaveAreas = (c : Config) → IsConfig c → IsArea (area_of c)

-- after a power cut an image resolves to what it resolved to before
abbrev pub CutsKeepTheImage : Type 0
CutsKeepTheImage = (r : Area) (values : ℕ → ℕ) (old new : Memory) → IsImage r values old.durable → Cuts old new → IsPoweredOn r values new

-- what the acts of a simulated memory leave
pub record ActsAreThese : Type 0 where
  pub store : (m : Words) (a x : ℕ) → IsMemory m → a < length m.cached → x < 2 ^ 64 → StoresWord (memory_of m) (memory_of (stored m a x)) a x
  -- an ask for a line, and then the fence of this worker, which has asked for nothing else
  pub flush : (m : State) (w line : ℕ) → IsState m → HoldsWords m.words → m.count < 2 ^ 64 - 1 → w < length m.asks → asks_of m w ≡ [] → line * LINE_WORDS < length m.words.cached
      → Flushes (memory_of m.words) (memory_of (after_fence (after_ask m w line) w).words) line
  pub evict : (m : Words) (a : ℕ) → IsMemory m → a < length m.cached → Evicts (memory_of m) (memory_of (evicted m a)) a
  pub cut : (m : Words) → IsMemory m → Cuts (memory_of m) (memory_of (after_cut m))

-- where a sweep has ended, and nothing else is going on, the swap memory may be renewed
abbrev pub RecoveredMemoriesMayBeRenewed : Type 0
RecoveredMemoriesMayBeRenewed =
    (r : Area) (values : ℕ → ℕ) (m : SwapMemory) → m.swaps ≡ r.swaps → length m.cached ≡ size_of r → length m.durable ≡ size_of r → ((w : ℕ) → doing_of m w ≡ Idle) →
    IsRecovered r values (memory_of (words_in m)) → MayRenew m
