-- The laws of a single event, for the crates above: the invariant is kept, and what the event does is atomic.
use Rattle.std.specs.Prelude.{ℕ}
use Rattle.bz_word.specs.Kinds.{IsKind}
use Rattle.bz_swap_machine.specs.Machine.{Memory}
use Rattle.bz_swap_machine.specs.State.{State, Event, MayHappen, IsState, IsRenewable, happens, power_on}
use Rattle.bz_swap_machine.specs.Promise.{IsAtomic}
use Rattle.bz_swap_machine.specs.Lawful.{AreInRange, MayHold}
use Rattle.bz_swap_machine.specs.Recovery.{IsRecoverable}
use Rattle.bz_swap_machine.specs.Changes.{after_cut}

-- the invariant holds at power on
abbrev pub BeginsAsState : Type 0
BeginsAsState = (m : Memory) → IsRenewable m → IsState (power_on m)

-- and after each event that may happen
abbrev pub KeepsState : Type 0
KeepsState = (x : State) (v : Event) → MayHappen x v → IsState x → IsState (happens x v)

-- which is atomic
abbrev pub ActsAtomically : Type 0
ActsAtomically = (x : State) (v : Event) → MayHappen x v → IsState x → IsAtomic x v

-- and keeps all numbers in range
abbrev pub KeepsRange : Type 0
KeepsRange = (x : State) (v : Event) → MayHold x v → IsState x → AreInRange x → AreInRange (happens x v)

abbrev pub BeginsInRange : Type 0
BeginsInRange = (m : Memory) → IsRenewable m → ((a : ℕ) → IsKind (m.cached a) × IsKind (m.durable a)) → AreInRange (power_on m)

-- a cut leaves what is needed to recover
abbrev pub CutRecovers : Type 0
CutRecovers = (x : State) → IsState x → IsRecoverable x.entries x.memory (after_cut x.memory)
