-- Openings, power cuts and renewals.
use Rattle.std.specs.Prelude.{◌≡◌, ◌+◌, ◌^◌, ◌<◌, ◌↔◌, ℕ, false, List, [], length, slice_index, replicate}
use Rattle.bz_layout.specs.Addresses.{swap_address}
use Rattle.bz_swap_cells.specs.Store.{IsOutside}
use Rattle.bz_swap.specs.declared.phase.Phase.{Phase}
use Rattle.bz_swap.specs.declared.phase.Phase.TheVariants.{Opened, Running, Recovering}
use Rattle.bz_swap.specs.SwapMemory.{SwapMemory, Idle, idle, doing_of}

-- words that need no recovery: outside the descriptors all are plain, and each descriptor is free
pub record AreRecovered (swaps : ℕ) (words : List ℕ) : Type 0 where
  pub plain : (a : ℕ) → IsOutside swaps a → slice_index words a < 2 ^ 61
  pub free : (s : ℕ) → s < swaps → slice_index words (swap_address s) ≡ 0

-- what a renewal needs: nothing is going on; every word outside the descriptors is plain and the same in the caches and
-- in the memory itself, and every descriptor is free in both
pub record MayRenew (m : SwapMemory) : Type 0 where
  pub idle : (w : ℕ) → doing_of m w ≡ Idle
  pub same : (a : ℕ) → IsOutside m.swaps a → slice_index m.cached a ≡ slice_index m.durable a
  pub cached : AreRecovered m.swaps m.cached
  pub durable : AreRecovered m.swaps m.durable

-- a memory of these words, of which nothing is asked yet
abbrev pub opened : Phase → List ℕ → ℕ → ℕ → SwapMemory
opened phase start swaps workers = record {
  cached = start;
  durable = start;
  swaps = swaps;
  past = record { count = 0; since = replicate (length start) 0; asks = replicate (workers + 1) [] };
  phase = phase;
  begun = [];
  missed = replicate swaps false;
  taken = 0;
  steps = 0;
  workers = replicate (workers + 1) idle;
  runner = 0;
  left = 0;
}

-- opened for work where the words need no recovery, and otherwise in a recovery time
pub record IsOpened (m : SwapMemory) (start : List ℕ) (swaps workers : ℕ) : Type 0 where
  pub phase : Phase
  pub is : m ≡ opened phase start swaps workers
  pub needs_none : (phase ≡ Opened) ↔ AreRecovered swaps start
  pub otherwise : (phase ≡ Running) → ⊥

-- a power cut: the durable words are all that is left, nothing goes on, and a recovery time begins; steps and asks are counted
-- anew
abbrev pub after_cut : SwapMemory → SwapMemory
after_cut m = record m {
  cached = m.durable;
  past = record { count = 0; since = replicate (length m.past.since) 0; asks = replicate (length m.past.asks) [] };
  phase = Recovering;
  begun = [];
  steps = 0;
  workers = replicate (length m.workers) idle;
}

-- a renewal: all descriptors are given back
abbrev pub renewed : SwapMemory → SwapMemory
renewed m = record m {
  phase = Running;
  begun = [];
  missed = replicate (length m.missed) false;
  taken = 0;
}
