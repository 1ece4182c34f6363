-- A swap memory whose power has failed, and the recovery that makes it ready again: what holds of both from the power cut to
-- the renewal.
use Rattle.std.specs.Prelude.{◌≡◌, ◌≢◌, ℕ, ◌+◌, ◌*◌, ◌<◌, length, slice_index, Option, Some, None, ◌⊎◌, if◌then◌else◌, true, false, [], get_or, ◌≤◌}
use Rattle.bz_content.specs.Content.{image_fault}
use Rattle.bz_layout.specs.Addresses.{words_of as size_of, line_of}
use Rattle.bz_layout.specs.Config.{IsConfig}
use Rattle.bz_layout.specs.declared.config.Config.{Config}
use Rattle.bz_recover.specs.Duties.{config_of, asks_of, acts_left, Knows, Tells, IsReady}
use Rattle.bz_recover.specs.FromSweep.Memory.{Memory, memory_of}
use Rattle.bz_recover.specs.Places.{MOST_ACTS}
use Rattle.bz_recover.specs.Sweep.{IsPoweredOn}
use Rattle.bz_recover.specs.declared.recover.Recover.{Recover}
use Rattle.bz_swap.specs.PlainFields.{HavePlainFields}
use Rattle.bz_swap.specs.SwapMemory.{SwapMemory, Doing, Idle, Loading, Storing, Flushing, memory_words, doing_of, worker_of}
use Rattle.bz_swap.specs.declared.phase.Phase.{Phase}
use Rattle.bz_swap.specs.declared.phase.Phase.TheVariants.{Running, Recovering}
use Rattle.bz_task.specs.Scene.{Stage, Waiting, Took}
use Rattle.bz_task.specs.declared.todo.Seen.{Seen}
use Rattle.bz_task.specs.declared.todo.Todo.{Todo}
use Rattle.bz_task.specs.declared.todo.Todo.TheVariants.{Load, Store, Flush}
use Rattle.bz_swap.specs.SettledWords.{IsAwaited}
use Rattle.bz_swap_cells.specs.Store.{word_pending}
use Rattle.bz_swap_marks.specs.Past.{IsClean, IsCleanBut}
use Rattle.bz_task.specs.Requests.{steps_in}

-- a memory of these sizes whose image breaks no rule, in which every worker but 0 does nothing
pub record IsInRecovery (c : Config) (m : SwapMemory) : Type 0 where
  pub config : IsConfig c
  pub swaps : m.swaps ≡ c.swaps
  pub cached : length m.cached ≡ size_of c
  pub durable : length m.durable ≡ size_of c
  pub workers : length m.workers ≡ c.workers + 1
  pub others : (w : ℕ) → 0 < w → doing_of m w ≡ Idle
  pub fields : HavePlainFields m
  pub form : image_fault c (slice_index m.durable) ≡ None

-- its words, by address
abbrev pub words_in : SwapMemory → Memory
words_in m = memory_of (memory_words m)

-- worker 0 has asked for this line alone, and awaits the words there
pub record HasAsked (m : SwapMemory) (line : ℕ) : Type 0 where
  pub awaited : (a : ℕ) → line_of a ≡ line → IsAwaited m 0 a
  pub alone : (a : ℕ) → line_of a ≢ line → (word_pending m.past a).asked 0 ≡ None

-- worker 0 waits for no fence
abbrev pub IsResting : SwapMemory → Type 0
IsResting m = ((worker_of m 0).flush_next ≡ false) ⊎ (doing_of m 0 ≡ Idle)

-- nobody has asked for a line, but for worker 0 for the one that it flushes
pub record AsksRightly (m : SwapMemory) : Type 0 where
  pub others : IsCleanBut 0 m.past
  pub own : IsResting m → get_or m.past.asks 0 [] ≡ []
  pub flushes : (line : ℕ) → doing_of m 0 ≡ Flushing line → (worker_of m 0).flush_next ≡ true → HasAsked m line

-- the power is off, after a cut or where a memory was opened over an image: worker 0 does nothing either, and the caches hold the
-- durable words, which resolve to these values
pub record IsOff (c : Config) (values : ℕ → ℕ) (m : SwapMemory) : Type 0 where
  pub memory : IsInRecovery c m
  pub phase : m.phase ≢ Running
  pub idle : doing_of m 0 ≡ Idle
  pub clean : IsClean m.past
  pub powered : IsPoweredOn c values (words_in m)

-- whose turn it is: the recovery has asked for an act; worker 0 has started it; it is made, and the recovery is to be told. A
-- flush, which is an ask and a fence, is started until its fence is made
pub data Turn : Type 0 where
  Asked : Turn
  Started : Turn
  Made : Turn

abbrev pub stage_of : Turn → Stage
stage_of Asked = Waiting
stage_of Started = Waiting
stage_of Made = Took

-- what worker 0 does to make what is asked for
abbrev pub doing_for : Option Todo → Doing
doing_for (Some (Load a)) = Loading a
doing_for (Some (Store a x)) = Storing a x
doing_for (Some (Flush line)) = Flushing line
doing_for asks = Idle

abbrev pub doing_in : Turn → Option Todo → Doing
doing_in Started asks = doing_for asks
doing_in turn asks = Idle

-- a recovery time begins with a power cut, or else with the first act that worker 0 starts
abbrev pub IsPhaseIn : Turn → Phase → Type 0
IsPhaseIn Started phase = phase ≡ Recovering
IsPhaseIn turn phase = phase ≢ Running

-- and where an act is started, worker 0 does something
abbrev pub IsBusyIn : Turn → Doing → Type 0
IsBusyIn Started doing = doing ≢ Idle
IsBusyIn turn doing = Unit {0}

-- a recovery of this memory, which knows it: worker 0 makes what it asks for, and the words resolve to these values
pub record IsRecovering (c : Config) (values : ℕ → ℕ) (m : SwapMemory) (turn : Turn) (t : Recover) : Type 0 where
  pub memory : IsInRecovery c m
  pub config : config_of t ≡ c
  pub ready : IsReady t
  pub phase : IsPhaseIn turn m.phase
  pub doing : doing_of m 0 ≡ doing_in turn (asks_of t)
  pub busy : IsBusyIn turn (doing_of m 0)
  pub asks : AsksRightly m
  pub knows : Knows t values (stage_of turn) (words_in m)

-- the acts still to be made of what is asked for: of a flush the fence alone, where that is next
abbrev pub to_come : Turn → SwapMemory → Option Todo → ℕ
to_come Asked m asks = steps_in asks
to_come Started m asks = if (worker_of m 0).flush_next then 1 else steps_in asks
to_come Made m asks = 0

-- a recovery that has asked for nothing yet, as `new` makes it
pub record IsNew (c : Config) (t : Recover) : Type 0 where
  pub config : config_of t ≡ c
  pub ready : IsReady t
  pub asks : asks_of t ≡ None
  pub knows : (values : ℕ → ℕ) (m : Memory) → IsPoweredOn c values m → Knows t values Took m
  pub left : (m : Memory) → acts_left t m < MOST_ACTS * size_of c

-- the same recovery after `next`, which was told this
pub record IsNext (old : Recover) (seen : Seen) (new : Recover) : Type 0 where
  pub config : config_of new ≡ config_of old
  pub ready : IsReady new
  pub learns : (values : ℕ → ℕ) (m : Memory) → Knows old values Took m → Tells old seen m → Knows new values Waiting m
  pub sooner : (values : ℕ → ℕ) (m : Memory) → Knows old values Took m → acts_left new m + steps_in (asks_of new) ≤ acts_left old m
