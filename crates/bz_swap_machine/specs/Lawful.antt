-- That all numbers stay in the ranges that words can hold, whatever happens.
use Rattle.std.specs.Prelude.{ℕ, ◌^◌, ◌<◌, List, [], ◌∷◌}
use Rattle.bz_word.specs.Kinds.{IsKind}
use Rattle.bz_swap_machine.specs.Machine.{Memory}
use Rattle.bz_swap_machine.specs.Ranges.{IsTagger, AreValues, HoldsKinds, PlaceInRange}
use Rattle.bz_swap_machine.specs.State.{State, Event, StartRead, StartStore, StartFlush, StartSwap, Act, Evict, EvictStatus, EvictField, happens, AllMayHappen, IsRenewable, power_on}
use Rattle.bz_swap_machine.specs.Promise.{since}

pub record AreInRange (x : State) : Type 0 where
  pub kinds : HoldsKinds x.memory
  pub values : (s : ℕ) → AreValues (x.entries s)
  pub places : (w : ℕ) → PlaceInRange (x.local w).place

-- what is begun has numbers in range, and the worker that acts has a number left for a tag
abbrev pub MayHold : State → Event → Type 0
MayHold x (StartRead w a) = Unit {0}
MayHold x (StartStore w a v) = v < 2 ^ 61
MayHold x (StartFlush w line) = Unit {0}
MayHold x (StartSwap w new targets) = AreValues new × (x.memory.taken < 2 ^ 16)
MayHold x (Act w) = IsTagger w (x.memory.next_tag w)
MayHold x (Evict a) = Unit {0}
MayHold x (EvictStatus s) = Unit {0}
MayHold x (EvictField s k) = Unit {0}

abbrev pub AllMayHold : State → List Event → Type 0
AllMayHold x [] = Unit {0}
AllMayHold x (v ∷ vs) = MayHold x v × AllMayHold (happens x v) vs

-- each word outside the descriptors is one of a kind at every moment
abbrev pub StayInRange : Type 0
StayInRange = (m : Memory) → IsRenewable m → ((a : ℕ) → IsKind (m.cached a) × IsKind (m.durable a)) → (before : List Event) → AllMayHappen (power_on m) before → AllMayHold (power_on m) before →
    AreInRange (since m before)
