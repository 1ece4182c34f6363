-- What makes that a queue's swap memory can be swept after a power cut: swaps name the counters and what stands behind the descriptors alone, and the other
-- words of descriptors are plain.
use Rattle.std.specs.Prelude.{◌≡◌, ◌≤◌, ◌⊎◌, ℕ, All}
use Rattle.bz_layout.specs.Addresses.{swap_address}
use Rattle.bz_word.specs.declared.entry.Entry.{Entry}
use Rattle.bz_swap.specs.PlainFields.{HavePlainFields}
use Rattle.bz_swap.specs.SwapMemory.{SwapMemory, entries_of}
use Rattle.bz_ring.specs.declared.ring.TheConstants.{HEAD_AT, TAIL_AT}

-- a counter, or a word behind so many descriptors
abbrev pub IsNamable : ℕ → ℕ → Type 0
IsNamable swaps a = (a ≡ HEAD_AT) ⊎ ((a ≡ TAIL_AT) ⊎ (swap_address swaps ≤ a))

pub record IsSweepable (m : SwapMemory) : Type 0 where
  pub fields : HavePlainFields m
  pub targets : (s : ℕ) → All (λ (e : Entry). IsNamable m.swaps e.target) (entries_of m s)
