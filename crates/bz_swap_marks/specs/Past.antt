-- What the swap memory keeps of the past, and what the journal says of it.
use Rattle.std.specs.Prelude.{◌≡◌, ◌≢◌, ℕ, ◌≤◌, [], length, get_or}
use Rattle.bz_swap_cells.specs.Store.{Past}
use Rattle.bz_pm.specs.State.{State, asks_of}
use Rattle.bz_swap.specs.SwapMemory.{SwapMemory}

-- both keep the same: how many asks were made, from which of them on each durable word dates, and what each worker asked for
pub record SamePast (m : SwapMemory) (s : State) : Type 0 where
  pub count : m.past.count ≡ s.count
  pub since : m.past.since ≡ s.since
  pub asks : (w : ℕ) → get_or m.past.asks w [] ≡ asks_of s w
  pub workers : length m.past.asks ≤ length s.asks

-- nobody waits for a fence, or at most worker w does
abbrev pub IsClean : Past → Type 0
IsClean p = (v : ℕ) → get_or p.asks v [] ≡ []

abbrev pub IsCleanBut : ℕ → Past → Type 0
IsCleanBut w p = (v : ℕ) → v ≢ w → get_or p.asks v [] ≡ []
