-- A run of one worker alone: its starts and its steps, while no other worker does anything, and evictions at any moment.
use Rattle.std.specs.Prelude.{◌≡◌, ◌≢◌, ℕ, ◌+◌, ◌<◌, ◌≤◌, List, [], ◌∷◌}
use Rattle.bz_swap_machine.specs.declared.place.Place.TheVariants.{Idle}
use Rattle.bz_swap_machine.specs.Allowed.{allowed, allowed_by_kind, allowed_by}
use Rattle.bz_swap_machine.specs.Budgets.{IsBounded}
use Rattle.bz_swap_machine.specs.Fronts.{Rises}
use Rattle.bz_swap_machine.specs.Sizes.{most_entries}
use Rattle.bz_swap_machine.specs.State.{State, Event, StartRead, StartStore, StartFlush, StartSwap, Act, Evict, EvictStatus, EvictField, happens, MayHappen}

-- worker w begins, or steps while it is not idle; a swap that it begins has at most four entries, whose targets rise
abbrev pub IsSolo : State → ℕ → Event → Type 0
IsSolo x w (StartRead u a) = u ≡ w
IsSolo x w (StartStore u a v) = u ≡ w
IsSolo x w (StartFlush u line) = u ≡ w
IsSolo x w (StartSwap u new targets) = (u ≡ w) × Rises new × (new.count ≤ most_entries)
IsSolo x w (Act u) = (u ≡ w) × ((x.local w).place ≢ Idle)
IsSolo x w (Evict a) = Unit {0}
IsSolo x w (EvictStatus s) = Unit {0}
IsSolo x w (EvictField s k) = Unit {0}

abbrev pub AreSolo : State → ℕ → List Event → Type 0
AreSolo x w [] = Unit {0}
AreSolo x w (v ∷ vs) = IsSolo x w v × MayHappen x v × AreSolo (happens x v) w vs

-- the steps of a run, and what its starts allow
abbrev pub step_of : Event → ℕ
step_of (Act w) = 1
step_of event = 0

abbrev pub steps_in : List Event → ℕ
steps_in [] = 0
steps_in (v ∷ vs) = step_of v + steps_in vs

abbrev pub allowed_in : List Event → ℕ
allowed_in [] = 0
allowed_in (v ∷ vs) = allowed v + allowed_in vs

abbrev pub allowed_by_kind_in : List Event → ℕ
allowed_by_kind_in [] = 0
allowed_by_kind_in (v ∷ vs) = allowed_by_kind v + allowed_by_kind_in vs

-- they are no more than what the starts allow, and what each worker that is not idle at first allows once
abbrev pub SoloStepsAreAllowed : Type 0
SoloStepsAreAllowed = (x : State) (w n : ℕ) (events : List Event) → w < n → IsBounded x n → AreSolo x w events → steps_in events ≤ allowed_by x n + allowed_in events

-- and by the finer count
abbrev pub SoloStepsAreAllowedByKind : Type 0
SoloStepsAreAllowedByKind = (x : State) (w n : ℕ) (events : List Event) → w < n → IsBounded x n → AreSolo x w events → steps_in events ≤ allowed_by x n + allowed_by_kind_in events
