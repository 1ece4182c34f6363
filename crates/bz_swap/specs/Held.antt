-- What holds of a swap memory at every moment outside a recovery time.
use Rattle.std.specs.Prelude.{All, ◌≡◌, ◌≢◌, ℕ, ◌^◌, ◌/◌, ◌<◌, ◌≤◌, true, false, get_or, slice_index, [], None}
use Rattle.bz_word.specs.declared.entry.Entry.{Entry}
use Rattle.bz_word.specs.declared.kind.WordKind.TheVariants.{Value}
use Rattle.bz_swap_cells.specs.Store.{IsOutside, kind_at, status_word, status_at}
use Rattle.bz_layout.specs.Addresses.{swap_address}
use Rattle.bz_swap_cells.specs.FromPm.State.{ask_for}
use Rattle.bz_swap_cells.specs.FromPm.Words.{IsMemory}
use Rattle.bz_swap.specs.declared.phase.Phase.{Phase}
use Rattle.bz_swap.specs.declared.phase.Phase.TheVariants.{Opened, Running, Recovering}
use Rattle.bz_swap.specs.Lawful.{IsLawful}
use Rattle.bz_swap.specs.SwapMemory.{SwapMemory, memory_words, value_at, entries_of, is_named}
use Rattle.bz_swap.specs.Starts.{IsAddress}

-- worker w has asked, since its last fence, for the line that holds a descriptor's status
abbrev pub HasAskedForStatus : SwapMemory → ℕ → ℕ → Type 0
HasAskedForStatus m w s = ask_for (get_or m.past.asks w []) (swap_address s / 8) ≢ None

pub record IsHeld (m : SwapMemory) : Type 0 where
  -- a durable word for each cached one, in whole lines
  pub memory : IsMemory (memory_words m)
  -- no more descriptors are taken than there are
  pub taken : m.taken ≤ m.swaps
  -- every word outside the descriptors is lawful, in the memory itself; each descriptor's status is one, in the
  -- caches too
  pub lawful : (a : ℕ) → IsOutside m.swaps a → IsLawful m.swaps m.durable a
  pub status : (s : ℕ) → s < m.swaps → slice_index m.durable (swap_address s) ≡ status_word (status_at m.swaps m.durable s)
  pub cached_status : (s : ℕ) → s < m.swaps → slice_index m.cached (swap_address s) ≡ status_word (status_at m.swaps m.cached s)
  -- a plain word in the caches of a named address is its value
  pub plain : (a v : ℕ) → is_named m a ≡ true → kind_at m.swaps m.cached a ≡ Value v → value_at m a ≡ v
  -- the targets of the swaps begun lie outside the descriptors, within the memory
  pub targets : (s : ℕ) → All (λ (e : Entry). IsAddress m e.target) (entries_of m s)
  -- a private word is plain, in the caches and in the memory itself, where it is its value
  pub private : (a : ℕ) → IsOutside m.swaps a → is_named m a ≡ false → (slice_index m.cached a < 2 ^ 61) × (value_at m a ≡ slice_index m.durable a)
  -- between two fences a worker asks for at most one line that holds a descriptor's status
  pub asks : (w s t : ℕ) → s < m.swaps → t < m.swaps → HasAskedForStatus m w s → HasAskedForStatus m w t → s ≡ t

abbrev pub HoldsIn : Phase → SwapMemory → Type 0
HoldsIn Opened m = IsHeld m
HoldsIn Running m = IsHeld m
HoldsIn Recovering m = Unit {0}

-- outside a recovery time
abbrev pub Holds : SwapMemory → Type 0
Holds m = HoldsIn m.phase m
