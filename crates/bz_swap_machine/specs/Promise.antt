-- The promise of the swap: whatever happens, it is the atomic swap memory.
use Rattle.std.specs.Prelude.{◌⊎◌, ◌≡◌, ℕ, true, false, List, Some, None}
use Rattle.std.specs.declared.option.Option.{Option}
use Rattle.bz_word.specs.declared.kind.WordKind.TheVariants.{Value}
use Rattle.bz_swap_machine.specs.declared.status.Verdict.TheVariants.{Succeeded, Failed}
use Rattle.bz_swap_machine.specs.declared.worker.Operation.{Operation}
use Rattle.bz_swap_machine.specs.declared.worker.Operation.TheVariants.{Nothing, Reading, Swapping}
use Rattle.bz_swap_machine.specs.declared.done.Done.{Done}
use Rattle.bz_swap_machine.specs.declared.done.Done.TheVariants.{Busy, Read, Swapped, Stored, Flushed}
use Rattle.bz_swap_machine.specs.Machine.{Entries, Memory}
use Rattle.bz_swap_machine.specs.Changes.{after_cut}
use Rattle.bz_swap_machine.specs.Content.{content, has_effect, TakesEffect, Quiet, NotesMiss}
use Rattle.bz_swap_machine.specs.Recovery.{IsRecoverable}
use Rattle.bz_swap_machine.specs.Steps.{effect_of}
use Rattle.bz_swap_machine.specs.State.{State, Event, StartRead, StartStore, StartFlush, StartSwap, Act, Evict, EvictStatus, EvictField, stepped, happens, MayHappen, IsRenewable, power_on, AllMayHappen, after_all}

-- what is said of an effect is so: the one named takes effect, and where none is named nothing does
abbrev pub EffectIs : (ℕ → Entries) → Memory → Memory → Option ℕ → Type 0
EffectIs e m n None = Quiet e m n
EffectIs e m n (Some s) = TakesEffect e m n s

-- the swap that an event can give its effect
abbrev pub swap_at : State → Event → ℕ
swap_at x (StartRead w a) = 0
swap_at x (StartStore w a v) = 0
swap_at x (StartFlush w line) = 0
swap_at x (StartSwap w new targets) = 0
swap_at x (Act w) = (x.local w).current
swap_at x (Evict a) = 0
swap_at x (EvictStatus s) = s
swap_at x (EvictField s k) = 0

abbrev pub effect_at : State → Event → Option ℕ
effect_at x v = effect_of x.memory (happens x v).memory (swap_at x v)

-- what a worker's operation may answer
abbrev pub IsAnswer : (ℕ → Entries) → Memory → Operation → Done → Type 0
IsAnswer e m operation Busy = Unit {0}
IsAnswer e m (Reading a) (Read v) = (m.cached a ≡ Value v) × (m.named a ≡ true → content e m a ≡ v)
IsAnswer e m Nothing (Read v) = ⊥
IsAnswer e m (Swapping s) (Read v) = ⊥
IsAnswer e m (Swapping s) (Swapped true) = (m.answer s ≡ Some Succeeded) × (has_effect m s ≡ true)
IsAnswer e m (Swapping s) (Swapped false) = (m.answer s ≡ Some Failed) × (has_effect m s ≡ false) × (m.missed s ≡ true)
IsAnswer e m Nothing (Swapped b) = ⊥
IsAnswer e m (Reading a) (Swapped b) = ⊥
IsAnswer e m operation Stored = Unit {0}
IsAnswer e m operation Flushed = Unit {0}

abbrev pub AnswersRightly : State → Event → Type 0
AnswersRightly x (StartRead w a) = Unit {0}
AnswersRightly x (StartStore w a v) = Unit {0}
AnswersRightly x (StartFlush w line) = Unit {0}
AnswersRightly x (StartSwap w new targets) = Unit {0}
AnswersRightly x (Act w) = IsAnswer x.entries (happens x (Act w)).memory (x.local w).operation (stepped x w).done
AnswersRightly x (Evict a) = Unit {0}
AnswersRightly x (EvictStatus s) = Unit {0}
AnswersRightly x (EvictField s k) = Unit {0}

-- an act that gives a swap its effect answers nothing yet
abbrev pub EndsLater : State → Event → Type 0
EndsLater x (StartRead w a) = Unit {0}
EndsLater x (StartStore w a v) = Unit {0}
EndsLater x (StartFlush w line) = Unit {0}
EndsLater x (StartSwap w new targets) = Unit {0}
EndsLater x (Act w) = ((stepped x w).done ≡ Busy) ⊎ (effect_at x (Act w) ≡ None)
EndsLater x (Evict a) = Unit {0}
EndsLater x (EvictStatus s) = Unit {0}
EndsLater x (EvictField s k) = Unit {0}

-- what one event does
pub record IsAtomic (x : State) (v : Event) : Type 0 where
  pub effect : EffectIs (happens x v).entries x.memory (happens x v).memory (effect_at x v)
  -- a swap that begins changes nothing that an address holds
  pub entries : (a : ℕ) → x.memory.named a ≡ true → content (happens x v).entries x.memory a ≡ content x.entries x.memory a
  pub misses : NotesMiss x.entries x.memory (happens x v).memory
  pub answer : AnswersRightly x v
  pub ends : EndsLater x v

-- the state after these events since a power on that left this memory
abbrev pub since : Memory → List Event → State
since m events = after_all (power_on m) events

-- whatever may happen since power on is atomic
abbrev pub Atomic : Type 0
Atomic = (m : Memory) → IsRenewable m → (before : List Event) → AllMayHappen (power_on m) before →
    (v : Event) → MayHappen (since m before) v → IsAtomic (since m before) v

-- an effect is for good, so no swap takes effect twice
abbrev pub EffectsLast : Type 0
EffectsLast = (m : Memory) → IsRenewable m → (before later : List Event) → AllMayHappen (power_on m) before → AllMayHappen (since m before) later →
    (s : ℕ) → has_effect (since m before).memory s ≡ true → has_effect (after_all (since m before) later).memory s ≡ true

-- a swap that was answered with false never takes effect afterwards
abbrev pub FailuresLast : Type 0
FailuresLast = (m : Memory) → IsRenewable m → (before later : List Event) → AllMayHappen (power_on m) before → AllMayHappen (since m before) later →
    (s : ℕ) → (since m before).memory.answer s ≡ Some Failed → has_effect (after_all (since m before) later).memory s ≡ false

-- where a named address has a plain word in the cache, that is what it holds
abbrev pub PlainIsHeld : Type 0
PlainIsHeld = (m : Memory) → IsRenewable m → (before : List Event) → AllMayHappen (power_on m) before →
    (a v : ℕ) → (since m before).memory.named a ≡ true → (since m before).memory.cached a ≡ Value v → content (since m before).entries (since m before).memory a ≡ v

-- a power cut leaves what every address holds, and can be recovered from
abbrev pub CutsKeep : Type 0
CutsKeep = (m : Memory) → IsRenewable m → (before : List Event) → AllMayHappen (power_on m) before →
    IsRecoverable (since m before).entries (since m before).memory (after_cut (since m before).memory)
