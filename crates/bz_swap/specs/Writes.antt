-- What a step writes into the descriptors, and what a swap that is answered leaves in its status.
use Rattle.std.specs.Prelude.{◌≡◌, ◌≢◌, ◌⊎◌, ℕ, ◌^◌, ◌<◌, ◌≤◌, Bool, true, false, slice_index}
use Rattle.bz_layout.specs.Addresses.{swap_address}
use Rattle.bz_swap_acts.specs.declared.acted.Act.{Act}
use Rattle.bz_swap_acts.specs.declared.acted.Act.TheVariants.{Store, Cas}
use Rattle.bz_swap_cells.specs.Store.{IsOutside, field_address, status_word, status_at}
use Rattle.bz_swap_machine.specs.Sound.{IsUnset}
use Rattle.bz_swap_machine.specs.declared.status.SwapStatus.TheVariants.{Free, Undecided, Deciding, Decided}
use Rattle.bz_swap_machine.specs.declared.status.Verdict.{Verdict}
use Rattle.bz_swap_machine.specs.declared.status.Verdict.TheVariants.{Succeeded, Failed}
use Rattle.bz_swap.specs.SwapMemory.{SwapMemory, Swapping, Storing, is_named, doing_of}

-- a store of a plain value at a private word outside the descriptors, which the worker was asked for
pub record StoresPrivate (old : SwapMemory) (w a v : ℕ) : Type 0 where
  pub doing : doing_of old w ≡ Storing a v
  pub outside : IsOutside old.swaps a
  pub private : is_named old a ≡ false
  pub value : v < 2 ^ 61

-- a store of a plain value at a word of a descriptor after its status; the last two words are never written
pub record StoresField (swap a v : ℕ) : Type 0 where
  pub number : ℕ
  pub below : number ≤ 12
  pub address : a ≡ field_address swap number
  pub value : v < 2 ^ 61

-- a store into the descriptor of the worker's own swap, while the swap is prepared and its status is free or undecided:
-- a word after the status, or the status, which becomes undecided
pub record StoresOwn (old : SwapMemory) (w a v : ℕ) : Type 0 where
  pub swap : ℕ
  pub doing : doing_of old w ≡ Swapping swap
  pub begun : swap < old.taken
  pub number : swap < old.swaps
  pub unset : IsUnset (status_at old.swaps old.cached swap) × IsUnset (status_at old.swaps old.durable swap)
  pub word : ((a ≡ swap_address swap) × (v ≡ status_word Undecided)) ⊎ StoresField swap a v

-- a compare-and-swap of a status that is not free: from undecided to a verdict with the dirty bit, or from that to the
-- verdict without
pub record ChangesStatus (old : SwapMemory) (a before after : ℕ) : Type 0 where
  pub swap : ℕ
  pub begun : swap < old.taken
  pub number : swap < old.swaps
  pub address : a ≡ swap_address swap
  pub verdict : Verdict
  pub change : ((before ≡ status_word Undecided) × (after ≡ status_word (Deciding verdict))) ⊎ ((before ≡ status_word (Deciding verdict)) × (after ≡ status_word (Decided verdict)))
  pub taken : (before ≢ status_word Free) × (after ≢ status_word Free)

-- a step stores at a private word, or into its own descriptor; it compares and swaps outside the descriptors, or a status
pub record WritesLawfully (old : SwapMemory) (w : ℕ) (made : Act) : Type 0 where
  pub stores : (a v : ℕ) → made ≡ Store a v → StoresPrivate old w a v ⊎ StoresOwn old w a v
  pub swaps : (a before after found : ℕ) → made ≡ Cas a before after found → IsOutside old.swaps a ⊎ ChangesStatus old a before after

-- the word of a status that is decided so, with the dirty bit or without
abbrev pub IsVerdictWord : Bool → ℕ → Type 0
IsVerdictWord true x = (x ≡ status_word (Deciding Succeeded)) ⊎ (x ≡ status_word (Decided Succeeded))
IsVerdictWord false x = (x ≡ status_word (Deciding Failed)) ⊎ (x ≡ status_word (Decided Failed))

-- the swap is decided so, in the caches and in the memory itself
pub record IsDecided (m : SwapMemory) (s : ℕ) (won : Bool) : Type 0 where
  pub begun : s < m.taken
  pub number : s < m.swaps
  pub cached : IsVerdictWord won (slice_index m.cached (swap_address s))
  pub durable : IsVerdictWord won (slice_index m.durable (swap_address s))
