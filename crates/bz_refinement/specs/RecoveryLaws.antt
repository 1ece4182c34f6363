-- How a recovery goes on: from the power cut through its acts and the evictions between them to the renewal.
use Rattle.std.specs.Prelude.{◌≡◌, ℕ, ◌+◌, ◌<◌, false, List, length, slice_index, Option, Some, None, ◌≢◌}
use Rattle.bz_swap_acts.specs.declared.acted.Act.{Act}
use Rattle.bz_swap_acts.specs.declared.acted.Act.TheVariants as act
use Rattle.bz_content.specs.Content.{image_fault}
use Rattle.bz_content.specs.Resolving.{resolve}
use Rattle.bz_layout.specs.Addresses.{words_of as size_of}
use Rattle.bz_layout.specs.Config.{IsConfig}
use Rattle.bz_layout.specs.declared.config.Config.{Config}
use Rattle.bz_swap_machine.specs.declared.done.Done.{Done}
use Rattle.bz_swap_machine.specs.declared.done.Done.TheVariants as done
use Rattle.bz_recover.specs.Contents.{SaysTheSame}
use Rattle.bz_recover.specs.Duties.{asks_of, acts_left, Hears, Tells}
use Rattle.bz_recover.specs.Sweep.{IsImage}
use Rattle.bz_recover.specs.declared.recover.Recover.{Recover}
use Rattle.bz_sight.specs.Sight.{IsSeen}
use Rattle.bz_sight.specs.Renewal.{renewed_instant}
use Rattle.bz_swap.specs.Evictions.{IsEviction}
use Rattle.bz_swap.specs.Held.{Holds}
use Rattle.bz_swap.specs.Power.{IsOpened, MayRenew, after_cut, renewed}
use Rattle.bz_swap.specs.Starts.{MayLoad, MayStore, MayFlush, started}
use Rattle.bz_swap.specs.Steps.{StepsIn}
use Rattle.bz_swap.specs.SwapMemory.{SwapMemory, Doing, Loading, Storing, Flushing, has_effect}
use Rattle.bz_swap.specs.TakenStatuses.{IsTaken}
use Rattle.bz_task.specs.Instant.{Instant}
use Rattle.bz_task.specs.declared.todo.Seen.{Seen}
use Rattle.bz_task.specs.declared.todo.Seen.TheVariants as seen
use Rattle.bz_task.specs.declared.todo.Todo.{Todo}
use Rattle.bz_task.specs.declared.todo.Todo.TheVariants as todo
use Rattle.bz_refinement.specs.Recovering.{IsOff, Turn, Asked, Started, Made, IsRecovering, IsNew, IsNext, words_in, to_come}

-- a power cut, of a memory that tasks see and of one that is being recovered, leaves every word to which the durable words
-- resolved
pub record CutsLeaveTheImage : Type 0 where
  pub seen : (c : Config) (x : Instant) (m : SwapMemory) → IsSeen c m x → length m.workers ≡ c.workers + 1 → IsOff c (resolve x.image) (after_cut m)
  pub recovering : (c : Config) (values : ℕ → ℕ) (m : SwapMemory) (turn : Turn) (t : Recover) → IsRecovering c values m turn t → IsOff c values (after_cut m)

-- so does an opening over an image that breaks no rule
abbrev pub ImagesAreOff : Type 0
ImagesAreOff =
    (c : Config) (m : SwapMemory) (image : List ℕ) → IsConfig c → length image ≡ size_of c → image_fault c (slice_index image) ≡ None → IsOpened m image c.swaps c.workers →
    IsOff c (resolve (slice_index image)) m

-- a new recovery knows such a memory, and is to be told that nothing was asked for
pub record Begins (c : Config) (values : ℕ → ℕ) (m : SwapMemory) (t : Recover) : Type 0 where
  pub recovering : IsRecovering c values m Made t
  pub hears : Hears t seen.Start
  pub tells : Tells t seen.Start (words_in m)

abbrev pub RecoveriesBegin : Type 0
RecoveriesBegin = (c : Config) (values : ℕ → ℕ) (m : SwapMemory) (t : Recover) → IsOff c values m → IsNew c t → Begins c values m t

-- at every moment of a recovery the durable words are lawful and resolve to the values of power on
abbrev pub RecoveriesKeepTheImage : Type 0
RecoveriesKeepTheImage = (c : Config) (values : ℕ → ℕ) (m : SwapMemory) (turn : Turn) (t : Recover) → IsRecovering c values m turn t → IsImage c values (slice_index m.durable)

-- it is told what came of its act, and asks for the next one
abbrev pub RecoveriesGoOn : Type 0
RecoveriesGoOn =
    (c : Config) (values : ℕ → ℕ) (m : SwapMemory) (old new : Recover) (seen : Seen) → IsRecovering c values m Made old → IsNext old seen new → Tells old seen (words_in m) →
    IsRecovering c values m Asked new

-- worker 0 starts the act, which it may
abbrev pub Starts : (May : Type 0) → Config → (ℕ → ℕ) → SwapMemory → Doing → Recover → Type 0
Starts May c values m doing t = May × IsRecovering c values (started m 0 doing) Started t

pub record ActsMayStart : Type 0 where
  pub load : (c : Config) (values : ℕ → ℕ) (m : SwapMemory) (t : Recover) (a : ℕ) → IsRecovering c values m Asked t → asks_of t ≡ Some (todo.Load a) → Starts (MayLoad m 0 a) c values m (Loading a) t
  pub store : (c : Config) (values : ℕ → ℕ) (m : SwapMemory) (t : Recover) (a x : ℕ) → IsRecovering c values m Asked t → asks_of t ≡ Some (todo.Store a x) → Starts (MayStore m 0 a x) c values m (Storing a x) t
  pub flush : (c : Config) (values : ℕ → ℕ) (m : SwapMemory) (t : Recover) (line : ℕ) → IsRecovering c values m Asked t → asks_of t ≡ Some (todo.Flush line) → Starts (MayFlush m 0 line) c values m (Flushing line) t

-- the act is the one that was asked for, or the last one
abbrev pub IsAsked : Option Todo → Act → Type 0
IsAsked (Some (todo.Load a)) made = (x : ℕ) × (made ≡ act.Load a x)
IsAsked (Some (todo.Store a x)) made = made ≡ act.Store a x
IsAsked (Some (todo.Flush line)) made = made ≡ act.Fence
IsAsked asks made = ⊥

-- what the recovery is told of it
abbrev pub seen_of : Done → Seen
seen_of (done.Read x) = seen.Read x
seen_of done.Stored = seen.Stored
seen_of done.Flushed = seen.Flushed
seen_of other = seen.Start

-- worker 0 makes the act: it gives no swap its effect, the recovery hears what it should and goes on knowing the memory, with
-- as many acts left, and the durable words hold what they held
pub record Recovers (c : Config) (values : ℕ → ℕ) (old new : SwapMemory) (t : Recover) (made : Act) (done : Done) (told : Option ℕ) : Type 0 where
  pub asked : IsAsked (asks_of t) made
  pub quiet : told ≡ None
  pub hears : Hears t (seen_of done)
  pub tells : Tells t (seen_of done) (words_in new)
  pub recovering : IsRecovering c values new Made t
  pub left : acts_left t (words_in new) ≡ acts_left t (words_in old)
  pub same : SaysTheSame c (slice_index old.durable) (slice_index new.durable)

-- a word is evicted: no swap takes effect, the recovery knows the memory as before, and the durable words hold what they held
pub record StaysRecovering (c : Config) (values : ℕ → ℕ) (old new : SwapMemory) (turn : Turn) (t : Recover) (told : Option ℕ) : Type 0 where
  pub quiet : told ≡ None
  pub recovering : IsRecovering c values new turn t
  pub left : acts_left t (words_in new) ≡ acts_left t (words_in old)
  pub same : SaysTheSame c (slice_index old.durable) (slice_index new.durable)

-- so it is where worker 0 asks for the line of a flush, which goes on; with any other act it has made what was asked for
pub record ActsOn (c : Config) (values : ℕ → ℕ) (old new : SwapMemory) (t : Recover) (made : Act) (ended : Done) (told : Option ℕ) : Type 0 where
  pub ends : ended ≢ done.Busy → Recovers c values old new t made ended told
  pub goes_on : ended ≡ done.Busy → (to_come Started old (asks_of t) ≡ to_come Started new (asks_of t) + 1) × StaysRecovering c values old new Started t told

abbrev pub ActsRecover : Type 0
ActsRecover =
    (c : Config) (values : ℕ → ℕ) (old new : SwapMemory) (t : Recover) (made : Act) (done : Done) (told : Option ℕ) → IsRecovering c values old Started t → StepsIn old.phase old 0 made done told new →
    ActsOn c values old new t made done told

abbrev pub EvictionsLeaveRecoveries : Type 0
EvictionsLeaveRecoveries =
    (c : Config) (values : ℕ → ℕ) (old new : SwapMemory) (turn : Turn) (t : Recover) (a : ℕ) (told : Option ℕ) → IsRecovering c values old turn t → a < length old.cached → IsEviction old a told new →
    StaysRecovering c values old new turn t told

-- where the recovery asks for nothing more the memory may be renewed; then no descriptor is taken, no swap has had an effect, and
-- it is seen as a settled one
pub record IsRevived (c : Config) (m : SwapMemory) : Type 0 where
  pub may_renew : MayRenew m
  pub untaken : (s : ℕ) → s < c.swaps → ¬ IsTaken (renewed m) s
  pub unused : (s : ℕ) → has_effect (renewed m) s ≡ false
  pub seen : Holds (renewed m) → IsSeen c (renewed m) (renewed_instant c m)

abbrev pub RecoveriesRevive : Type 0
RecoveriesRevive = (c : Config) (values : ℕ → ℕ) (m : SwapMemory) (t : Recover) → IsRecovering c values m Asked t → asks_of t ≡ Some todo.Finish → IsRevived c m
