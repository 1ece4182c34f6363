-- A swap memory whose power has failed, and the sweep that makes it ready again: what holds of both from the power cut to the renewal.
use Rattle.std.specs.Prelude.{◌≡◌, ◌≢◌, ℕ, ◌+◌, ◌*◌, ◌^◌, ◌<◌, ◌≤◌, length, slice_index, Option, Some, None, ◌⊎◌, if◌then◌else◌, true, false, [], get_or}
use Rattle.bz_content.specs.Lawful.{is_fixed}
use Rattle.bz_layout.specs.Addresses.{line_of}
use Rattle.bz_swap.specs.Held.{IsHeld}
use Rattle.bz_swap.specs.PlainFields.{HavePlainFields}
use Rattle.bz_swap.specs.SettledWords.{IsAwaited}
use Rattle.bz_swap.specs.SwapMemory.{SwapMemory, Doing, Idle, Loading, Storing, Flushing, memory_words, doing_of, worker_of}
use Rattle.bz_swap.specs.declared.phase.Phase.{Phase}
use Rattle.bz_swap.specs.declared.phase.Phase.TheVariants.{Running, Recovering}
use Rattle.bz_swap_cells.specs.Store.{word_pending}
use Rattle.bz_swap_marks.specs.Past.{IsClean, IsCleanBut}
use Rattle.bz_sweep.specs.Areas.{size_of, IsArea}
use Rattle.bz_sweep.specs.Duties.{Stage, Asked as To_make, Made as To_tell, acts_in, acts_left, area_in, asks_of, IsReady, Knows, Tells}
use Rattle.bz_sweep.specs.Memory.{Memory, memory_of}
use Rattle.bz_sweep.specs.Places.{MOST_ACTS}
use Rattle.bz_sweep.specs.Words.{IsPoweredOn}
use Rattle.bz_sweep.specs.declared.area.Area.{Area}
use Rattle.bz_sweep.specs.declared.ask.Answer.{Answer}
use Rattle.bz_sweep.specs.declared.ask.Ask.{Ask}
use Rattle.bz_sweep.specs.declared.ask.Ask.TheVariants.{Load, Store, Flush}
use Rattle.bz_sweep.specs.declared.sweep.Sweep.{Sweep}

-- a memory of these sizes
pub record HasSizes (r : Area) (m : SwapMemory) : Type 0 where
  pub area : IsArea r
  pub swaps : m.swaps ≡ r.swaps
  pub cached : length m.cached ≡ size_of r
  pub durable : length m.durable ≡ size_of r
  pub workers : 0 < length m.workers

-- outside a recovery time: the memory is held, the words of descriptors after their statuses are plain, and so are those of the superblock that no swap may name
pub record IsAtWork (r : Area) (m : SwapMemory) : Type 0 where
  pub sizes : HasSizes r m
  pub held : IsHeld m
  pub fields : HavePlainFields m
  pub fixed : (a : ℕ) → is_fixed a ≡ true → slice_index m.durable a < 2 ^ 61

-- in a recovery time every worker but 0 does nothing
pub record IsInRecovery (r : Area) (m : SwapMemory) : Type 0 where
  pub sizes : HasSizes r m
  pub others : (w : ℕ) → 0 < w → doing_of m w ≡ Idle
  pub fields : HavePlainFields m

-- its words, by address
abbrev pub words_in : SwapMemory → Memory
words_in m = memory_of (memory_words m)

-- worker 0 has asked for this line alone, and awaits the words there
pub record HasAsked (m : SwapMemory) (line : ℕ) : Type 0 where
  pub awaited : (a : ℕ) → line_of a ≡ line → IsAwaited m 0 a
  pub alone : (a : ℕ) → line_of a ≢ line → (word_pending m.past a).asked 0 ≡ None

-- worker 0 waits for no fence
abbrev pub IsResting : SwapMemory → Type 0
IsResting m = ((worker_of m 0).flush_next ≡ false) ⊎ (doing_of m 0 ≡ Idle)

-- nobody has asked for a line, but for worker 0 for the one that it flushes
pub record AsksRightly (m : SwapMemory) : Type 0 where
  pub others : IsCleanBut 0 m.past
  pub own : IsResting m → get_or m.past.asks 0 [] ≡ []
  pub flushes : (line : ℕ) → doing_of m 0 ≡ Flushing line → (worker_of m 0).flush_next ≡ true → HasAsked m line

-- the power is off: worker 0 does nothing either, and the caches hold the durable words, which resolve to these values
pub record IsOff (r : Area) (values : ℕ → ℕ) (m : SwapMemory) : Type 0 where
  pub memory : IsInRecovery r m
  pub phase : m.phase ≢ Running
  pub idle : doing_of m 0 ≡ Idle
  pub clean : IsClean m.past
  pub powered : IsPoweredOn r values (words_in m)

-- whose turn it is: the sweep has asked for an act; worker 0 has started it; it is made, and the sweep is to be told. A flush, which is an ask and a fence, is
-- started until its fence is made
pub data Turn : Type 0 where
  Asked : Turn
  Started : Turn
  Made : Turn

abbrev pub stage_of : Turn → Stage
stage_of Asked = To_make
stage_of Started = To_make
stage_of Made = To_tell

-- what worker 0 does to make what is asked for
abbrev pub doing_for : Option Ask → Doing
doing_for (Some (Load a)) = Loading a
doing_for (Some (Store a x)) = Storing a x
doing_for (Some (Flush line)) = Flushing line
doing_for asks = Idle

abbrev pub doing_in : Turn → Option Ask → Doing
doing_in Started asks = doing_for asks
doing_in turn asks = Idle

-- a recovery time begins with a power cut
abbrev pub IsPhaseIn : Turn → Phase → Type 0
IsPhaseIn Started phase = phase ≡ Recovering
IsPhaseIn turn phase = phase ≢ Running

-- and where an act is started, worker 0 does something
abbrev pub IsBusyIn : Turn → Doing → Type 0
IsBusyIn Started doing = doing ≢ Idle
IsBusyIn turn doing = Unit {0}

-- a sweep over this memory, which knows it: worker 0 makes what it asks for, and the words resolve to these values
pub record IsSweeping (r : Area) (values : ℕ → ℕ) (m : SwapMemory) (turn : Turn) (t : Sweep) : Type 0 where
  pub memory : IsInRecovery r m
  pub area : area_in t ≡ r
  pub ready : IsReady t
  pub phase : IsPhaseIn turn m.phase
  pub doing : doing_of m 0 ≡ doing_in turn (asks_of t)
  pub busy : IsBusyIn turn (doing_of m 0)
  pub asks : AsksRightly m
  pub knows : Knows t values (stage_of turn) (words_in m)

-- the acts still to be made of what is asked for: of a flush the fence alone, where that is next
abbrev pub to_come : Turn → SwapMemory → Option Ask → ℕ
to_come Asked m asks = acts_in asks
to_come Started m asks = if (worker_of m 0).flush_next then 1 else acts_in asks
to_come Made m asks = 0

-- a sweep that has asked for nothing yet, as `new` makes it
pub record IsNew (r : Area) (t : Sweep) : Type 0 where
  pub area : area_in t ≡ r
  pub ready : IsReady t
  pub asks : asks_of t ≡ None
  pub knows : (values : ℕ → ℕ) (m : Memory) → IsPoweredOn r values m → Knows t values To_tell m
  pub left : (m : Memory) → acts_left t m < MOST_ACTS * size_of r

-- the same sweep after `next`, which was told this
pub record IsNext (old : Sweep) (answer : Answer) (new : Sweep) : Type 0 where
  pub area : area_in new ≡ area_in old
  pub ready : IsReady new
  pub learns : (values : ℕ → ℕ) (m : Memory) → Knows old values To_tell m → Tells old answer m → Knows new values To_make m
  pub sooner : (values : ℕ → ℕ) (m : Memory) → Knows old values To_tell m → acts_left new m + acts_in (asks_of new) ≤ acts_left old m
