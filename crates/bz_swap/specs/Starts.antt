-- When an operation may start, and what its start changes.
use Rattle.std.specs.Prelude.{◌≡◌, ◌≢◌, ℕ, zero, suc, ◌+◌, ◌*◌, ◌^◌, ◌<◌, true, false, List, [], ◌∷◌, ◌++◌, length, All, slice_set}
use Rattle.bz_word.specs.declared.entry.Entry.{Entry}
use Rattle.bz_swap_cells.specs.Store.{IsOutside}
use Rattle.bz_swap.specs.declared.phase.Phase.{Phase}
use Rattle.bz_swap.specs.declared.phase.Phase.TheVariants.{Running, Recovering}
use Rattle.bz_swap.specs.Solo.{allowed_by_kind, left_to}
use Rattle.bz_swap.specs.SwapMemory.{SwapMemory, Doing, Idle, Swapping, Storing, is_named, is_settled_at, doing_of}

-- an address of the memory outside the descriptors
pub record IsAddress (m : SwapMemory) (a : ℕ) : Type 0 where
  pub outside : IsOutside m.swaps a
  pub within : a < length m.cached

-- worker w from 1 on may start something
pub record MayWork (m : SwapMemory) (w : ℕ) : Type 0 where
  pub some : 0 < w
  pub within : w < length m.workers
  pub idle : doing_of m w ≡ Idle
  pub phase : m.phase ≢ Recovering

-- worker 0 may start something
pub record MayRecover (m : SwapMemory) : Type 0 where
  pub idle : doing_of m 0 ≡ Idle
  pub phase : m.phase ≢ Running

pub record MayRead (m : SwapMemory) (w a : ℕ) : Type 0 where
  pub work : MayWork m w
  pub address : IsAddress m a

pub record MayLoad (m : SwapMemory) (w a : ℕ) : Type 0 where
  pub zero : w ≡ 0
  pub recover : MayRecover m
  pub within : a < length m.cached

-- a private store: the word is named by no swap since the last renewal
pub record IsPrivateStore (m : SwapMemory) (w a v : ℕ) : Type 0 where
  pub work : MayWork m w
  pub address : IsAddress m a
  pub value : v < 2 ^ 61
  pub private : is_named m a ≡ false

pub record IsRawStore (m : SwapMemory) (a : ℕ) : Type 0 where
  pub recover : MayRecover m
  pub within : a < length m.cached

abbrev pub MayStore : SwapMemory → ℕ → ℕ → ℕ → Type 0
MayStore m zero a v = IsRawStore m a
MayStore m (suc w) a v = IsPrivateStore m (suc w) a v

-- the flush of a line outside the descriptors
pub record IsPrivateFlush (m : SwapMemory) (w line : ℕ) : Type 0 where
  pub work : MayWork m w
  pub address : IsAddress m (line * 8)

pub record IsRawFlush (m : SwapMemory) (line : ℕ) : Type 0 where
  pub recover : MayRecover m
  pub within : line * 8 < length m.cached

abbrev pub MayFlush : SwapMemory → ℕ → ℕ → Type 0
MayFlush m zero line = IsRawFlush m line
MayFlush m (suc w) line = IsPrivateFlush m (suc w) line

-- an entry that a swap may have: a target that no swap has named is settled, and no private store of it is started and not made
pub record IsEntry (m : SwapMemory) (e : Entry) : Type 0 where
  pub address : IsAddress m e.target
  pub expected : e.expected < 2 ^ 61
  pub value : e.new < 2 ^ 61
  pub settled : is_named m e.target ≡ false → is_settled_at m e.target ≡ true
  pub not_stored : (w v : ℕ) → doing_of m w ≢ Storing e.target v

pub record MaySwap (m : SwapMemory) (w : ℕ) (entries : List Entry) : Type 0 where
  pub work : MayWork m w
  pub each : All (IsEntry m) entries

-- the phase that a start of worker w leads to
abbrev pub phase_of : ℕ → Phase
phase_of zero = Recovering
phase_of (suc w) = Running

-- worker w has started this, which adds to the steps that are left to it, and nothing else is changed
abbrev pub started : SwapMemory → ℕ → Doing → SwapMemory
started m w doing = record m {
  phase = phase_of w;
  workers = slice_set m.workers w (record { doing = doing; flush_next = false });
  runner = w;
  left = left_to m w + allowed_by_kind doing;
}

-- worker w has begun a swap of these entries, whose number is the next one
abbrev pub swapping : SwapMemory → ℕ → List Entry → SwapMemory
swapping m w entries = record (started m w (Swapping m.taken)) { begun = m.begun ++ entries ∷ []; taken = m.taken + 1 }
