-- The values of a queue's swap memory, and what changes them.
use Rattle.std.specs.Prelude.{◌≡◌, ◌≢◌, ℕ, true, false}
use Rattle.bz_swap_cells.specs.Store.{IsOutside}
use Rattle.bz_swap.specs.SwapMemory.{SwapMemory, Storing, value_at, entries_of, doing_of, is_named, is_settled_at}
use Rattle.bz_ring.specs.declared.calls.QCall.{QCall}
use Rattle.bz_ring.specs.declared.calls.QCall.TheVariants as call
use Rattle.bz_ring.specs.declared.ring.Ring.{Ring}
use Rattle.bz_ring.specs.Content.{cell_of}
use Rattle.bz_ring.specs.ContentLaws.{Puts, Takes}
use Rattle.bz_change.specs.Changes as change

-- no private store stands unflushed, so that what readers see of an address is what the durable words stand for
abbrev pub IsSettled : SwapMemory → Type 0
IsSettled m = (a : ℕ) → IsOutside m.swaps a → is_named m a ≡ false → is_settled_at m a ≡ true

-- every value is what it was
abbrev pub SameValues : SwapMemory → SwapMemory → Type 0
SameValues old new = (a : ℕ) → value_at new a ≡ value_at old a

-- the worker does no private store
abbrev pub StoresNothing : SwapMemory → ℕ → Type 0
StoresNothing m w = (a v : ℕ) → doing_of m w ≢ Storing a v

-- a call's change of the counters and the cells
abbrev pub MakesChange : Ring → QCall → (ℕ → ℕ) → (ℕ → ℕ) → Type 0
MakesChange r (call.Put item) old new = Puts r item old new
MakesChange r call.Take old new = Takes r old new

-- this is the swap of such a call
pub record IsSwapOf (r : Ring) (m : SwapMemory) (s : ℕ) (called : QCall) (counter word : ℕ) : Type 0 where
  pub swaps : m.swaps ≡ r.swaps
  pub entries : entries_of m s ≡ change.entries_of r called counter word

-- its effect: the counter and the cell were as the call had read them, and its change is made
pub record IsChanged (r : Ring) (old new : SwapMemory) (called : QCall) (counter word : ℕ) : Type 0 where
  pub at_counter : value_at old (change.counter_of called) ≡ counter
  pub at_cell : value_at old (cell_of r counter) ≡ word
  pub changes : MakesChange r called (value_at old) (value_at new)
