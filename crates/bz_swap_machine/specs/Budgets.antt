-- The laws of budgets: what a worker may have, what starts add, and that each step spends one.
use Rattle.std.specs.Prelude.{◌≡◌, ◌≢◌, ℕ, ◌+◌, ◌<◌, ◌≤◌, Bool}
use Rattle.bz_swap_machine.specs.declared.place.Place.TheVariants.{Idle}
use Rattle.bz_swap_machine.specs.Allowed.{allowed, allowed_by_kind, allowed_by}
use Rattle.bz_swap_machine.specs.Budget.{budget}
use Rattle.bz_swap_machine.specs.Machine.{Entries, Memory}
use Rattle.bz_swap_machine.specs.DirtyHomes.{DirtyAreHome}
use Rattle.bz_swap_machine.specs.Ends.{EndWhole}
use Rattle.bz_swap_machine.specs.Fronts.{Rises, HaveFronts, AllRise}
use Rattle.bz_swap_machine.specs.Owners.{AreOwned}
use Rattle.bz_swap_machine.specs.Progress.{TagsAreHome}
use Rattle.bz_swap_machine.specs.Sound.{AreShort}
use Rattle.bz_swap_machine.specs.Sizes.{most_entries, most_workers}
use Rattle.bz_swap_machine.specs.State.{State, Event, StartRead, StartStore, StartFlush, StartSwap, Act, Evict, EvictStatus, EvictField, happens, MayHappen, IsState, IsRenewable, power_on}

-- the budget of one of n workers is at most what those that are not idle allow
abbrev pub BudgetsAreAllowed : Type 0
BudgetsAreAllowed = (x : State) (w n : ℕ) → w < n → n ≤ most_workers → AreShort x.entries → budget x w n ≤ allowed_by x n

-- the start of a read, a store or a flush adds what it allows
pub record AddsAllowed (x : State) (w n : ℕ) : Type 0 where
  pub read : (a : ℕ) → budget (happens x (StartRead w a)) w n ≤ budget x w n + allowed (StartRead w a)
  pub store : (a v : ℕ) → budget (happens x (StartStore w a v)) w n ≤ budget x w n + allowed (StartStore w a v)
  pub flush : (line : ℕ) → budget (happens x (StartFlush w line)) w n ≤ budget x w n + allowed (StartFlush w line)

abbrev pub StartsAddAllowed : Type 0
StartsAddAllowed = (x : State) (w n : ℕ) → AreOwned x → (x.local w).place ≡ Idle → AddsAllowed x w n

-- and by the finer count: one for a read or a store, two for a flush
pub record AddsByKind (x : State) (w n : ℕ) : Type 0 where
  pub read : (a : ℕ) → budget (happens x (StartRead w a)) w n ≤ budget x w n + allowed_by_kind (StartRead w a)
  pub store : (a v : ℕ) → budget (happens x (StartStore w a v)) w n ≤ budget x w n + allowed_by_kind (StartStore w a v)
  pub flush : (line : ℕ) → budget (happens x (StartFlush w line)) w n ≤ budget x w n + allowed_by_kind (StartFlush w line)

abbrev pub StartsAddByKind : Type 0
StartsAddByKind = (x : State) (w n : ℕ) → AreOwned x → (x.local w).place ≡ Idle → AddsByKind x w n

-- what holds at every moment of a state whose workers have numbers below n: its invariant, and what makes a solo worker end
pub record IsBounded (x : State) (n : ℕ) : Type 0 where
  pub state : IsState x
  pub tags : TagsAreHome x
  pub dirty : DirtyAreHome x
  pub fronts : HaveFronts x
  pub rising : AllRise x
  pub ends : EndWhole x
  pub owned : AreOwned x
  pub short : AreShort x.entries
  pub few : n ≤ most_workers
  pub idle : (v : ℕ) → n ≤ v → (x.local v).place ≡ Idle

-- an event of one of n workers; a swap that begins has at most four entries, whose targets rise
abbrev pub IsAmong : ℕ → Event → Type 0
IsAmong n (StartRead w a) = w < n
IsAmong n (StartStore w a v) = w < n
IsAmong n (StartFlush w line) = w < n
IsAmong n (StartSwap w new targets) = (w < n) × Rises new × (new.count ≤ most_entries)
IsAmong n (Act w) = w < n
IsAmong n (Evict a) = Unit {0}
IsAmong n (EvictStatus s) = Unit {0}
IsAmong n (EvictField s k) = Unit {0}

-- so it is at power on, and stays, whatever may happen
abbrev pub BeginsBounded : Type 0
BeginsBounded = (m : Memory) (n : ℕ) → IsRenewable m → n ≤ most_workers → IsBounded (power_on m) n

abbrev pub StaysBounded : Type 0
StaysBounded = (x : State) (n : ℕ) (event : Event) → MayHappen x event → IsAmong n event → IsBounded x n → IsBounded (happens x event) n

-- the start of a swap of at most four entries adds what it allows
abbrev pub SwapsAddAllowed : Type 0
SwapsAddAllowed = (x : State) (w n : ℕ) (new : Entries) (targets : ℕ → Bool) → IsBounded x n → MayHappen x (StartSwap w new targets) → new.count ≤ most_entries
    → budget (happens x (StartSwap w new targets)) w n ≤ budget x w n + allowed (StartSwap w new targets)

-- each act of a worker that is not idle spends one of its budget
abbrev pub ActsSpend : Type 0
ActsSpend = (x : State) (w n : ℕ) → IsBounded x n → (x.local w).place ≢ Idle → budget (happens x (Act w)) w n < budget x w n

-- no eviction changes a budget
pub record IsKept (x : State) (w n : ℕ) : Type 0 where
  pub word : (a : ℕ) → budget (happens x (Evict a)) w n ≡ budget x w n
  pub status : (s : ℕ) → budget (happens x (EvictStatus s)) w n ≡ budget x w n
  pub field : (s k : ℕ) → budget (happens x (EvictField s k)) w n ≡ budget x w n

abbrev pub EvictionsKeepBudgets : Type 0
EvictionsKeepBudgets = (x : State) (w n : ℕ) → IsKept x w n
