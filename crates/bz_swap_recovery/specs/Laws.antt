-- How a recovery goes on: from the power cut through the sweep's acts and the evictions between them to the renewal.
use Rattle.std.specs.Prelude.{◌≡◌, ◌≢◌, ℕ, ◌+◌, ◌<◌, true, false, length, slice_index, Option, Some, None}
use Rattle.bz_swap_acts.specs.declared.acted.Act.{Act}
use Rattle.bz_swap_cells.specs.Store.{IsOutside}
use Rattle.bz_swap_machine.specs.declared.done.Done.{Done}
use Rattle.bz_swap_machine.specs.declared.done.Done.TheVariants as done
use Rattle.bz_swap.specs.Evictions.{IsEviction}
use Rattle.bz_swap.specs.PlainFields.{HavePlainFields}
use Rattle.bz_swap.specs.Power.{MayRenew, after_cut, renewed}
use Rattle.bz_swap.specs.Starts.{MayLoad, MayStore, MayFlush, started}
use Rattle.bz_swap.specs.Steps.{StepsIn}
use Rattle.bz_swap.specs.SwapMemory.{SwapMemory, Doing, Loading, Storing, Flushing, has_effect, is_settled_at, value_at}
use Rattle.bz_swap.specs.TakenStatuses.{IsTaken}
use Rattle.bz_sweep.specs.Duties.{acts_left, asks_of, Hears, Tells}
use Rattle.bz_sweep.specs.Words.{IsImage, IsShared}
use Rattle.bz_sweep.specs.declared.area.Area.{Area}
use Rattle.bz_sweep.specs.declared.ask.Answer.{Answer}
use Rattle.bz_sweep.specs.declared.ask.Answer.TheVariants as answer
use Rattle.bz_sweep.specs.declared.ask.Ask.TheVariants as ask
use Rattle.bz_sweep.specs.declared.sweep.Sweep.{Sweep}
use Rattle.bz_swap_recovery.specs.Recovering.{IsAtWork, IsOff, Turn, Asked, Started, Made, IsSweeping, IsNew, IsNext, words_in, to_come}

-- an image whose words are lawful holds the values to which they resolve: the swap reads it so too
abbrev pub LawfulImagesHoldTheirValues : Type 0
LawfulImagesHoldTheirValues = (r : Area) (values : ℕ → ℕ) (m : SwapMemory) (a : ℕ) → m.swaps ≡ r.swaps → IsImage r values (slice_index m.durable) → IsShared r a → value_at m a ≡ values a

-- a power cut leaves every value, of a memory at work and of one that is swept
pub record CutsLeaveTheValues : Type 0 where
  pub working : (r : Area) (m : SwapMemory) → IsAtWork r m → IsOff r (value_at m) (after_cut m)
  pub sweeping : (r : Area) (values : ℕ → ℕ) (m : SwapMemory) (turn : Turn) (t : Sweep) → IsSweeping r values m turn t → IsOff r values (after_cut m)

-- a new sweep knows such a memory, and is to be told that nothing was asked for
pub record Begins (r : Area) (values : ℕ → ℕ) (m : SwapMemory) (t : Sweep) : Type 0 where
  pub sweeping : IsSweeping r values m Made t
  pub hears : Hears t answer.Start
  pub tells : Tells t answer.Start (words_in m)

abbrev pub SweepsBegin : Type 0
SweepsBegin = (r : Area) (values : ℕ → ℕ) (m : SwapMemory) (t : Sweep) → IsOff r values m → IsNew r t → Begins r values m t

-- from the power cut on the values of the memory are those of then
pub record ValuesStay : Type 0 where
  pub off : (r : Area) (values : ℕ → ℕ) (m : SwapMemory) (a : ℕ) → IsOff r values m → IsShared r a → value_at m a ≡ values a
  pub sweeping : (r : Area) (values : ℕ → ℕ) (m : SwapMemory) (turn : Turn) (t : Sweep) (a : ℕ) → IsSweeping r values m turn t → IsShared r a → value_at m a ≡ values a

-- the sweep is told what came of its act, and asks for the next one
abbrev pub SweepsGoOn : Type 0
SweepsGoOn =
    (r : Area) (values : ℕ → ℕ) (m : SwapMemory) (old new : Sweep) (told : Answer) → IsSweeping r values m Made old → IsNext old told new → Tells old told (words_in m) →
    IsSweeping r values m Asked new

-- worker 0 starts the act, which it may
abbrev pub Starts : (May : Type 0) → Area → (ℕ → ℕ) → SwapMemory → Doing → Sweep → Type 0
Starts May r values m doing t = May × IsSweeping r values (started m 0 doing) Started t

pub record ActsMayStart : Type 0 where
  pub load : (r : Area) (values : ℕ → ℕ) (m : SwapMemory) (t : Sweep) (a : ℕ) → IsSweeping r values m Asked t → asks_of t ≡ Some (ask.Load a) → Starts (MayLoad m 0 a) r values m (Loading a) t
  pub store : (r : Area) (values : ℕ → ℕ) (m : SwapMemory) (t : Sweep) (a x : ℕ) → IsSweeping r values m Asked t → asks_of t ≡ Some (ask.Store a x) → Starts (MayStore m 0 a x) r values m (Storing a x) t
  pub flush : (r : Area) (values : ℕ → ℕ) (m : SwapMemory) (t : Sweep) (line : ℕ) → IsSweeping r values m Asked t → asks_of t ≡ Some (ask.Flush line) → Starts (MayFlush m 0 line) r values m (Flushing line) t

-- what the sweep is told of an act
abbrev pub answer_of : Done → Answer
answer_of (done.Read x) = answer.Read x
answer_of done.Stored = answer.Stored
answer_of done.Flushed = answer.Flushed
answer_of other = answer.Start

-- worker 0 makes the act: it gives no swap its effect, the sweep hears what it should and goes on knowing the memory, with as many acts left
pub record Recovers (r : Area) (values : ℕ → ℕ) (old new : SwapMemory) (t : Sweep) (ended : Done) (told : Option ℕ) : Type 0 where
  pub quiet : told ≡ None
  pub hears : Hears t (answer_of ended)
  pub tells : Tells t (answer_of ended) (words_in new)
  pub sweeping : IsSweeping r values new Made t
  pub left : acts_left t (words_in new) ≡ acts_left t (words_in old)

-- a word is evicted: no swap takes effect, and the sweep knows the memory as before
pub record StaysSweeping (r : Area) (values : ℕ → ℕ) (old new : SwapMemory) (turn : Turn) (t : Sweep) (told : Option ℕ) : Type 0 where
  pub quiet : told ≡ None
  pub sweeping : IsSweeping r values new turn t
  pub left : acts_left t (words_in new) ≡ acts_left t (words_in old)

-- so it is where worker 0 asks for the line of a flush, which goes on; with any other act it has made what was asked for
pub record ActsOn (r : Area) (values : ℕ → ℕ) (old new : SwapMemory) (t : Sweep) (ended : Done) (told : Option ℕ) : Type 0 where
  pub ends : ended ≢ done.Busy → Recovers r values old new t ended told
  pub goes_on : ended ≡ done.Busy → (to_come Started old (asks_of t) ≡ to_come Started new (asks_of t) + 1) × StaysSweeping r values old new Started t told

abbrev pub ActsRecover : Type 0
ActsRecover =
    (r : Area) (values : ℕ → ℕ) (old new : SwapMemory) (t : Sweep) (made : Act) (ended : Done) (told : Option ℕ) → IsSweeping r values old Started t → StepsIn old.phase old 0 made ended told new →
    ActsOn r values old new t ended told

abbrev pub EvictionsLeaveSweeps : Type 0
EvictionsLeaveSweeps =
    (r : Area) (values : ℕ → ℕ) (old new : SwapMemory) (turn : Turn) (t : Sweep) (a : ℕ) (told : Option ℕ) → IsSweeping r values old turn t → a < length old.cached → IsEviction old a told new →
    StaysSweeping r values old new turn t told

-- where the sweep asks for nothing more the memory may be renewed; then no descriptor is taken, no swap has had an effect, and every word is settled
pub record IsRevived (r : Area) (m : SwapMemory) : Type 0 where
  pub may_renew : MayRenew m
  pub untaken : (s : ℕ) → s < r.swaps → ¬ IsTaken (renewed m) s
  pub unused : (s : ℕ) → has_effect (renewed m) s ≡ false
  pub settled : (a : ℕ) → IsOutside m.swaps a → is_settled_at (renewed m) a ≡ true
  pub fields : HavePlainFields (renewed m)

abbrev pub SweepsRevive : Type 0
SweepsRevive = (r : Area) (values : ℕ → ℕ) (m : SwapMemory) (t : Sweep) → IsSweeping r values m Asked t → asks_of t ≡ Some ask.Finish → IsRevived r m
