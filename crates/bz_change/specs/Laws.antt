-- What acts, evictions and starts make of the values of a queue's swap memory, and the changes of its calls of the list.
use Rattle.std.specs.Prelude.{◌≡◌, ◌≢◌, ◌<◌, ℕ, List, Some, None}
use Rattle.bz_word.specs.declared.entry.Entry.{Entry}
use Rattle.bz_swap_acts.specs.declared.acted.Act.{Act}
use Rattle.bz_swap_acts.specs.declared.acted.Act.TheVariants.{Load}
use Rattle.bz_swap_cells.specs.Store.{IsOutside}
use Rattle.bz_swap_machine.specs.declared.done.Done.{Done}
use Rattle.bz_swap_machine.specs.declared.done.Done.TheVariants.{Read}
use Rattle.std.specs.declared.option.Option.{Option}
use Rattle.bz_swap.specs.declared.phase.Phase.TheVariants.{Recovering}
use Rattle.bz_swap.specs.Evictions.{IsEviction}
use Rattle.bz_swap.specs.Held.{IsHeld}
use Rattle.bz_swap.specs.Starts.{MaySwap, started, swapping}
use Rattle.bz_swap.specs.Steps.{IsStep}
use Rattle.bz_swap.specs.SwapMemory.{SwapMemory, Doing, Reading, value_at, doing_of}
use Rattle.bz_ring.specs.declared.calls.QCall.{QCall}
use Rattle.bz_ring.specs.declared.ring.Ring.{Ring}
use Rattle.bz_ring.specs.Content.{cell_of}
use Rattle.bz_ring.specs.ContentLaws.{HoldsItems}
use Rattle.bz_ring.specs.Lists.{apply}
use Rattle.bz_change.specs.Changes as change
use Rattle.bz_change.specs.Values.{IsSettled, SameValues, StoresNothing, MakesChange, IsSwapOf, IsChanged}

-- a memory outside a recovery time that is settled
pub record IsCalm (m : SwapMemory) : Type 0 where
  pub phase : m.phase ≢ Recovering
  pub held : IsHeld m
  pub settled : IsSettled m

pub record QuietActsLeave : Type 0 where
  pub step : (old new : SwapMemory) (w : ℕ) (made : Act) (done : Done) → IsCalm old → StoresNothing old w → IsHeld new → IsStep old w made done None new → IsCalm new × SameValues old new
  pub eviction : (old new : SwapMemory) (a : ℕ) → IsCalm old → IsHeld new → IsEviction old a None new → IsCalm new × SameValues old new

pub record EffectsChange : Type 0 where
  pub step : (r : Ring) (old new : SwapMemory) (w : ℕ) (made : Act) (done : Done) (s : ℕ) (called : QCall) (counter word : ℕ) → IsCalm old → IsHeld new → IsStep old w made done (Some s) new
      → IsSwapOf r old s called counter word → IsCalm new × IsChanged r old new called counter word
  pub eviction : (r : Ring) (old new : SwapMemory) (a s : ℕ) (called : QCall) (counter word : ℕ) → IsCalm old → IsHeld new → IsEviction old a (Some s) new
      → IsSwapOf r old s called counter word → IsCalm new × IsChanged r old new called counter word

-- a start changes no word, so that the values are the same
pub record StartsLeave : Type 0 where
  pub start : (m : SwapMemory) (w : ℕ) (doing : Doing) → 0 < w → IsCalm m → IsHeld (started m w doing) → IsCalm (started m w doing)
  pub swap : (m : SwapMemory) (w : ℕ) (entries : List Entry) → IsCalm m → MaySwap m w entries → IsHeld (swapping m w entries) → IsCalm (swapping m w entries)

abbrev pub ReadsTell : Type 0
ReadsTell = (old new : SwapMemory) (w a v : ℕ) (made : Act) (told : Option ℕ) → IsCalm old → IsCalm new → IsOutside old.swaps a → IsStep old w made (Read v) told new → doing_of old w ≡ Reading a
    → (made ≡ Load a v) × (value_at new a ≡ v)

pub record ListsFollow : Type 0 where
  -- a call's change makes of the list what the call does, and is answered so
  pub changed : (r : Ring) (old new : ℕ → ℕ) (items : List ℕ) (called : QCall) (counter word : ℕ) → 0 < r.capacity → HoldsItems r old items → old (change.counter_of called) ≡ counter → old (cell_of r counter) ≡ word
      → change.Suits called word → MakesChange r called old new
      → HoldsItems r new (apply r.capacity items called).items × ((apply r.capacity items called).reply ≡ change.change_reply called word)
  -- and where the cell of its counter does not suit the call changes nothing
  pub unchanged : (r : Ring) (value : ℕ → ℕ) (items : List ℕ) (called : QCall) (word : ℕ) → 0 < r.capacity → HoldsItems r value items → value (cell_of r (value (change.counter_of called))) ≡ word → (change.Suits called word → ⊥)
      → (apply r.capacity items called).reply ≡ change.none_reply called
