-- The atomic swap memory, on one page: what a caller must believe of `Access`. It has one value per address outside the
-- descriptors. Outside a recovery time a value changes by the effect of a swap, whole, and by a private store.
use Rattle.std.specs.Prelude.{◌≡◌, ◌⊎◌, ◌||◌, ◌==◌, if◌then◌else◌, ℕ, ◌<◌, Bool, true, false, All, Option, None, Some, slice_index}
use Rattle.bz_word.specs.declared.entry.Entry.{Entry}
use Rattle.bz_layout.specs.Addresses.{line_of}
use Rattle.bz_swap_acts.specs.Rule.{IsActOf}
use Rattle.bz_swap_acts.specs.declared.acted.Act.{Act}
use Rattle.bz_swap_cells.specs.Store.{IsOutside, word_pending}
use Rattle.bz_swap_machine.specs.Pending.{Saved}
use Rattle.bz_swap_machine.specs.declared.done.Done.{Done}
use Rattle.bz_swap_machine.specs.declared.done.Done.TheVariants.{Busy, Read, Swapped, Stored, Flushed}
use Rattle.bz_swap.specs.declared.phase.Phase.{Phase}
use Rattle.bz_swap.specs.declared.phase.Phase.TheVariants.{Opened, Running, Recovering}
use Rattle.bz_swap.specs.SettledWords.{IsAwaited}
use Rattle.bz_swap.specs.SwapMemory.{SwapMemory, Doing, Reading, memory_state, Swapping, Loading, Storing, Flushing, value_at, has_effect, is_missed, entries_of, is_target, is_named}

-- the value of an address: of a private word, which no swap has named since the last renewal, the cached word; of a named
-- one, and of every one in a recovery time, what the durable words stand for, which a power cut leaves (`value_at`)
abbrev pub value_in : Phase → SwapMemory → ℕ → ℕ
value_in Opened m a = if is_named m a then value_at m a else slice_index m.cached a
value_in Running m a = if is_named m a then value_at m a else slice_index m.cached a
value_in Recovering m a = value_at m a

abbrev pub value_of : SwapMemory → ℕ → ℕ
value_of m a = value_in m.phase m a

-- what an act or an eviction is to the values: nothing, the effect of a swap, or a private store
pub data Event : Type 0 where
  Quiet : Event
  Effect : (s : ℕ) → Event
  PrivateStore : (a v : ℕ) → Event

-- the addresses that it changes
abbrev pub changes : SwapMemory → Event → ℕ → Bool
changes m Quiet a = false
changes m (Effect s) a = is_target (entries_of m s) a
changes m (PrivateStore b v) a = b == a

-- and how: a swap takes effect once, where every target holds its expected value, and then each holds its new one; a
-- private store is at a word that no swap has named
abbrev pub Changes : SwapMemory → Event → SwapMemory → Type 0
Changes old Quiet new = Unit {0}
Changes old (Effect s) new = (has_effect old s ≡ false) × All (λ (e : Entry). value_of old e.target ≡ e.expected) (entries_of old s) × All (λ (e : Entry). value_of new e.target ≡ e.new) (entries_of old s)
Changes old (PrivateStore a v) new = (is_named old a ≡ false) × (value_of new a ≡ v)

-- which swaps have had their effect afterwards
abbrev pub effect_after : SwapMemory → Event → ℕ → Bool
effect_after m Quiet t = has_effect m t
effect_after m (Effect s) t = (s == t) || has_effect m t
effect_after m (PrivateStore a v) t = has_effect m t

-- a worker has asked for this value of the word since the durable one was put there
abbrev pub WasAsked : SwapMemory → ℕ → ℕ → Type 0
WasAsked m a v = (w : ℕ) × (q : Saved ℕ) × ((word_pending m.past a).asked w ≡ Some q) × (slice_index m.past.since a < q.moment) × (v ≡ q.value)

-- the event, and nothing else; what a power cut would leave of a word is what it was, the word's value, or a value that a
-- worker had asked for
pub record Happens (old : SwapMemory) (event : Event) (new : SwapMemory) : Type 0 where
  pub changed : Changes old event new
  pub others : (a : ℕ) → IsOutside old.swaps a → changes old event a ≡ false → value_of new a ≡ value_of old a
  pub effects : (t : ℕ) → has_effect new t ≡ effect_after old event t
  pub left : (a : ℕ) → IsOutside old.swaps a → (value_at new a ≡ value_at old a) ⊎ (value_at new a ≡ value_of new a) ⊎ WasAsked old a (value_at new a)

-- a miss is noted of a swap without effect one of whose targets holds another value than expected, and the note stays
pub record NotesRightly (old new : SwapMemory) : Type 0 where
  pub miss : (s : ℕ) → is_missed old s ≡ false → is_missed new s ≡ true → (has_effect old s ≡ false) × ¬ All (λ (e : Entry). value_of old e.target ≡ e.expected) (entries_of old s)
  pub stays : (s : ℕ) → is_missed old s ≡ true → is_missed new s ≡ true

-- what an operation may answer: a read the value of its address, true after the effect, false of a swap that is noted as
-- missed and has no effect; a private flush first asks for its line, so that each word of it is awaited, and after its fence a
-- power cut leaves the value of each that was awaited until then
abbrev pub Answers : SwapMemory → ℕ → SwapMemory → Doing → Done → Type 0
Answers old w m (Reading a) Busy = Unit {0}
Answers old w m (Reading a) (Read v) = value_of m a ≡ v
Answers old w m (Swapping s) Busy = Unit {0}
Answers old w m (Swapping s) (Swapped true) = has_effect m s ≡ true
Answers old w m (Swapping s) (Swapped false) = (has_effect m s ≡ false) × (is_missed m s ≡ true)
Answers old w m (Loading a) (Read v) = slice_index m.cached a ≡ v
Answers old w m (Storing a v) Stored = Unit {0}
Answers old w m (Flushing line) Busy = (a : ℕ) → line_of a ≡ line → IsAwaited m w a
Answers old w m (Flushing line) Flushed = (a : ℕ) → IsOutside m.swaps a → IsAwaited old w a → value_at m a ≡ value_of m a
Answers old w m doing done = ⊥

-- the event of an act that tells this effect, and of an eviction that does
abbrev pub told_event : Option ℕ → Event → Event
told_event None event = event
told_event (Some s) event = Effect s

abbrev pub event_of : Doing → Event
event_of (Storing a v) = PrivateStore a v
event_of doing = Quiet

-- a step of worker w, which does this
pub record IsAtomicStep (old : SwapMemory) (w : ℕ) (doing : Doing) (done : Done) (told : Option ℕ) (new : SwapMemory) : Type 0 where
  pub happens : Happens old (told_event told (event_of doing)) new
  pub notes : NotesRightly old new
  pub answer : Answers old w new doing done

-- in a recovery time worker 0 alone loads, stores and flushes words as they are, by the memory's own rule
pub record IsRecoveryStep (old : SwapMemory) (w : ℕ) (made : Act) (told : Option ℕ) (new : SwapMemory) : Type 0 where
  pub rule : IsActOf (memory_state old) w made (memory_state new)
  pub effect : told ≡ None
  pub notes : new.missed ≡ old.missed
