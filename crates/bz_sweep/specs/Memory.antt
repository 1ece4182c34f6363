-- The words of a memory by address, and what the acts of a recovery, evictions and power cuts change of them.
use Rattle.std.specs.Prelude.{◌≡◌, ◌==◌, if◌then◌else◌, ℕ, Bool, slice_index}
use Rattle.bz_layout.specs.Addresses.{line_of}
use Rattle.bz_pm.specs.Words.{Words}

-- the cached and the durable word of each address
pub record Memory : Type 0 where
  pub cached : ℕ → ℕ
  pub durable : ℕ → ℕ

-- those of a simulated memory
abbrev pub memory_of : Words → Memory
memory_of m = record { cached = slice_index m.cached; durable = slice_index m.durable }

-- a store changes one cached word
pub record StoresWord (old new : Memory) (a x : ℕ) : Type 0 where
  pub cached : (b : ℕ) → new.cached b ≡ (if b == a then x else old.cached b)
  pub durable : (b : ℕ) → new.durable b ≡ old.durable b

-- the cached words of these addresses become durable
pub record Copies (old new : Memory) (copied : ℕ → Bool) : Type 0 where
  pub cached : (b : ℕ) → new.cached b ≡ old.cached b
  pub durable : (b : ℕ) → new.durable b ≡ (if copied b then old.cached b else old.durable b)

-- a flush, which is an ask and its fence, makes a line durable, an eviction one word
abbrev pub Flushes : Memory → Memory → ℕ → Type 0
Flushes old new line = Copies old new (λ b. line_of b == line)

abbrev pub Evicts : Memory → Memory → ℕ → Type 0
Evicts old new a = Copies old new (λ b. b == a)

-- a power cut leaves the durable words alone
pub record Cuts (old new : Memory) : Type 0 where
  pub cached : (b : ℕ) → new.cached b ≡ old.durable b
  pub durable : (b : ℕ) → new.durable b ≡ old.durable b
