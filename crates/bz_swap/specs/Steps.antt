-- What one step of a worker does.
use Rattle.std.specs.Prelude.{◌≡◌, ◌≢◌, ◌⊎◌, ℕ, ◌+◌, ◌-◌, ◌^◌, ◌<◌, Bool, true, false, length, slice_index, Option, None, Some}
use Rattle.bz_layout.specs.Addresses.{swap_address}
use Rattle.bz_swap_acts.specs.Rule.{IsActOf, IsWithin, is_fence_act}
use Rattle.bz_swap_acts.specs.declared.acted.Act.{Act}
use Rattle.bz_swap_acts.specs.declared.acted.Act.TheVariants.{Load, Store, Ask, Fence}
use Rattle.bz_swap_cells.specs.FromPm.State.{IsState}
use Rattle.bz_swap_cells.specs.FromPm.Words.{HoldsWords}
use Rattle.bz_swap_cells.specs.Store.{IsOutside}
use Rattle.bz_swap_machine.specs.declared.done.Done.{Done}
use Rattle.bz_swap_machine.specs.declared.done.Done.TheVariants.{Busy, Read, Swapped, Stored, Flushed}
use Rattle.bz_swap.specs.declared.phase.Phase.{Phase}
use Rattle.bz_swap.specs.declared.phase.Phase.TheVariants.{Opened, Running, Recovering}
use Rattle.bz_swap.specs.Solo.{left_to}
use Rattle.bz_swap.specs.SwapMemory.{SwapMemory, Doing, Idle, Reading, Swapping, Loading, Storing, Flushing, memory_words, memory_state, value_at, has_effect, is_missed, is_named, worker_of, doing_of}
use Rattle.bz_swap.specs.Effects.{EffectIs, NotesMisses, KeepsDurableOutside}
use Rattle.bz_swap.specs.Writes.{WritesLawfully, IsDecided}

-- a read answers at a load that found the plain word, which is the value of the address
pub record AnswersRead (m : SwapMemory) (a : ℕ) (act : Act) (v : ℕ) : Type 0 where
  pub load : act ≡ Load a v
  pub plain : v < 2 ^ 61
  pub value : is_named m a ≡ true → value_at m a ≡ v

-- what an operation may answer, with this act, in the memory after it
abbrev pub IsAnswer : SwapMemory → Doing → Act → Done → Type 0
IsAnswer m (Reading a) act Busy = Unit {0}
IsAnswer m (Reading a) act (Read v) = AnswersRead m a act v
IsAnswer m (Swapping s) act Busy = Unit {0}
IsAnswer m (Swapping s) act (Swapped true) = has_effect m s ≡ true
IsAnswer m (Swapping s) act (Swapped false) = (has_effect m s ≡ false) × (is_missed m s ≡ true)
IsAnswer m (Loading a) act (Read v) = act ≡ Load a v
IsAnswer m (Storing a v) act Stored = act ≡ Store a v
-- a flush is an ask and then a fence
IsAnswer m (Flushing line) act Busy = act ≡ Ask line
IsAnswer m (Flushing line) act Flushed = act ≡ Fence
IsAnswer m doing act done = ⊥

-- what is done afterwards: the same, or nothing where the operation has answered
abbrev pub doing_after : Doing → Done → Doing
doing_after doing Busy = doing
doing_after doing done = Idle

-- what no step changes: how many words, descriptors and workers there are, how many descriptors are taken, which swaps
-- have begun, the phase, and what other workers do
pub record KeepsOthers (old new : SwapMemory) (w : ℕ) : Type 0 where
  pub size : length new.cached ≡ length old.cached
  pub count : length new.workers ≡ length old.workers
  pub swaps : new.swaps ≡ old.swaps
  pub phase : new.phase ≡ old.phase
  pub begun : new.begun ≡ old.begun
  pub taken : new.taken ≡ old.taken
  pub workers : (v : ℕ) → v ≢ w → worker_of new v ≡ worker_of old v

-- worker w may act: the memory is one whose past is one, w is a worker of it, and one ask more can be counted
pub record MayAct (m : SwapMemory) (w : ℕ) : Type 0 where
  pub state : IsState (memory_state m)
  pub fit : HoldsWords (memory_words m)
  pub worker : w < length m.past.asks
  pub counted : m.past.count < 2 ^ 64 - 1

-- one step of worker w: exactly one memory act, on a word or line of the memory, by the memory's own rule
pub record IsOneAct (old : SwapMemory) (w : ℕ) (made : Act) (done : Done) (new : SwapMemory) : Type 0 where
  pub may : MayAct old w
  pub act : IsActOf (memory_state old) w made (memory_state new)
  pub within : IsWithin (length old.cached) made
  pub flush : is_fence_act made ≡ (worker_of old w).flush_next
  pub doing : doing_of new w ≡ doing_after (doing_of old w) done
  pub steps : new.steps ≡ old.steps + 1
  pub others : KeepsOthers old new w
  pub answer : IsAnswer new (doing_of old w) made done
  -- a flush that goes on has asked for its line, and fences next
  pub fences : (line : ℕ) → doing_of new w ≡ Flushing line → (worker_of new w).flush_next ≡ true
  -- of the steps that are left to it alone
  pub spent : left_to new w < left_to old w

-- and outside a recovery time: the effect that is told; misses; a private word changes in the caches only by the
-- private store at it; an act that gives a swap its effect answers nothing, and is a fence that leaves the durable words
-- outside the descriptors, and the swap's status is not free; what is written into descriptors; a swap that
-- is answered is decided so
pub record IsStep (old : SwapMemory) (w : ℕ) (made : Act) (done : Done) (told : Option ℕ) (new : SwapMemory) : Type 0 where
  pub one : IsOneAct old w made done new
  pub effect : EffectIs old new told
  pub misses : NotesMisses old new
  pub untouched : (a : ℕ) → IsOutside old.swaps a → is_named old a ≡ false → ((v : ℕ) → doing_of old w ≢ Storing a v) → slice_index new.cached a ≡ slice_index old.cached a
  pub later : (done ≡ Busy) ⊎ (told ≡ None)
  pub inside : (s : ℕ) → told ≡ Some s → (made ≡ Fence) × KeepsDurableOutside old new × (slice_index new.cached (swap_address s) ≢ 0)
  pub writes : WritesLawfully old w made
  pub decided : (s : ℕ) (won : Bool) → doing_of old w ≡ Swapping s → done ≡ Swapped won → IsDecided new s won

-- in a recovery time
pub record IsRawStep (old : SwapMemory) (w : ℕ) (made : Act) (done : Done) (told : Option ℕ) (new : SwapMemory) : Type 0 where
  pub one : IsOneAct old w made done new
  pub effect : told ≡ None
  pub missed : new.missed ≡ old.missed

abbrev pub StepsIn : Phase → SwapMemory → ℕ → Act → Done → Option ℕ → SwapMemory → Type 0
StepsIn Opened old w made done told new = IsStep old w made done told new
StepsIn Running old w made done told new = IsStep old w made done told new
StepsIn Recovering old w made done told new = IsRawStep old w made done told new
