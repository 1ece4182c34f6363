-- A swap without an answer is the operation of the worker that began it, and a worker has an operation where its place says so.
use Rattle.std.specs.Prelude.{◌≡◌, ℕ, ◌<◌, None}
use Rattle.bz_swap_machine.specs.declared.place.Place.{Place}
use Rattle.bz_swap_machine.specs.declared.place.Place.TheVariants.{Idle, LoadWord, StoreWord, AskLine, FenceLine}
use Rattle.bz_swap_machine.specs.declared.worker.Operation.{Operation}
use Rattle.bz_swap_machine.specs.declared.worker.Operation.TheVariants.{Nothing, Reading, Swapping}
use Rattle.bz_swap_machine.specs.State.{State, Event, happens, MayHappen, IsState}

-- there is an operation to come back to
abbrev pub IsBusy : Operation → Type 0
IsBusy Nothing = ⊥
IsBusy (Reading a) = Unit {0}
IsBusy (Swapping s) = Unit {0}

-- an operation of one act, a flush, or none, is not come back to
abbrev pub RestsAt : Place → Operation → Type 0
RestsAt Idle o = o ≡ Nothing
RestsAt (StoreWord a v) o = o ≡ Nothing
RestsAt (AskLine line) o = o ≡ Nothing
RestsAt (FenceLine line) o = o ≡ Nothing
RestsAt (LoadWord a) o = o ≡ Nothing
RestsAt place o = IsBusy o

pub record AreOwned (x : State) : Type 0 where
  pub rests : (w : ℕ) → RestsAt (x.local w).place (x.local w).operation
  pub owned : (s : ℕ) → s < x.memory.taken → x.memory.answer s ≡ None → (x.local (x.memory.owner s)).operation ≡ Swapping s

-- so it stays, whatever may happen
abbrev pub OwnersStay : Type 0
OwnersStay = (x : State) (event : Event) → MayHappen x event → IsState x → AreOwned x → AreOwned (happens x event)
