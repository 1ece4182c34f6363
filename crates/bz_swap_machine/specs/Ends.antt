-- The last phase of a swap leaves nothing of it behind: no pointer, and no tag that a worker could still change to one.
use Rattle.std.specs.Prelude.{◌≡◌, ◌≢◌, ℕ, ◌<◌, ◌≤◌, Some}
use Rattle.bz_word.specs.declared.kind.WordKind.{WordKind}
use Rattle.bz_word.specs.declared.kind.WordKind.TheVariants.{Swap, Tag}
use Rattle.bz_swap_machine.specs.declared.status.SwapStatus.{SwapStatus}
use Rattle.bz_swap_machine.specs.declared.status.SwapStatus.TheVariants.{Free, Undecided, Deciding, Decided}
use Rattle.bz_swap_machine.specs.declared.status.Verdict.{Verdict}
use Rattle.bz_swap_machine.specs.declared.place.HelpStep.{HelpStep}
use Rattle.bz_swap_machine.specs.declared.place.HelpStep.TheVariants.{InstallPointer, PutFinal, AskFinal, FenceFinal, ClearFinal, SweepTag}
use Rattle.bz_swap_machine.specs.declared.place.Place.{Place}
use Rattle.bz_swap_machine.specs.declared.place.Place.TheVariants.{Help}
use Rattle.bz_swap_machine.specs.Machine.{Entries}
use Rattle.bz_swap_machine.specs.Steps.{Local}
use Rattle.bz_swap_machine.specs.State.{State, Event, happens, MayHappen, IsState}

-- decided, without the dirty bit
abbrev pub IsClean : SwapStatus → Type 0
IsClean Free = ⊥
IsClean Undecided = ⊥
IsClean (Deciding d) = ⊥
IsClean (Decided d) = Unit {0}

-- the act is the compare-and-swap of tag q of worker v to the pointer, at entry i
abbrev pub PutsPointer : HelpStep → ℕ → ℕ → ℕ → Type 0
PutsPointer (InstallPointer j u p) i v q = (j ≡ i) × (u ≡ v) × (p ≡ q)
PutsPointer step i v q = ⊥

abbrev pub IsAtPointer : Place → ℕ → ℕ → ℕ → Type 0
IsAtPointer (Help step) i v q = PutsPointer step i v q
IsAtPointer place i v q = ⊥

-- swap s is through with entry j: its pointer does not stand there, and no worker is about to put it
pub record IsDone (e : ℕ → Entries) (cached : ℕ → WordKind) (local : ℕ → Local) (s j : ℕ) : Type 0 where
  pub pointer : cached ((e s).target j) ≢ Swap s
  pub late : (w v q : ℕ) → (local w).current ≡ s → IsAtPointer (local w).place j v q → cached ((e s).target j) ≢ Tag s j v q

-- an act of the last phase, and the entries that it has behind it
abbrev pub IsLast : HelpStep → Type 0
IsLast (PutFinal i d) = Unit {0}
IsLast (AskFinal i d) = Unit {0}
IsLast (FenceFinal i d) = Unit {0}
IsLast (ClearFinal i d) = Unit {0}
IsLast (SweepTag i d v q) = Unit {0}
IsLast step = ⊥

abbrev pub IsBehind : HelpStep → ℕ → Type 0
IsBehind (PutFinal i d) j = j < i
IsBehind (AskFinal i d) j = j ≤ i
IsBehind (FenceFinal i d) j = j ≤ i
IsBehind (ClearFinal i d) j = j ≤ i
IsBehind (SweepTag i d v q) j = j < i
IsBehind step j = ⊥

abbrev pub IsInLast : Place → Type 0
IsInLast (Help step) = IsLast step
IsInLast place = ⊥

abbrev pub HasBehind : Place → ℕ → Type 0
HasBehind (Help step) j = IsBehind step j
HasBehind place j = ⊥

-- a worker in the last phase of a swap goes by its clean status, and the swap is through with the entries behind it; an
-- answered swap is through with all
pub record EndWhole (x : State) : Type 0 where
  pub clean : (w : ℕ) → IsInLast (x.local w).place → IsClean (x.memory.status (x.local w).current)
  pub done : (w j : ℕ) → HasBehind (x.local w).place j → j < (x.entries (x.local w).current).count → IsDone x.entries x.memory.cached x.local (x.local w).current j
  pub answered_clean : (s : ℕ) (d : Verdict) → x.memory.answer s ≡ Some d → IsClean (x.memory.status s)
  pub answered_done : (s : ℕ) (d : Verdict) (j : ℕ) → x.memory.answer s ≡ Some d → j < (x.entries s).count → IsDone x.entries x.memory.cached x.local s j

-- so it stays, whatever may happen
abbrev pub EndsStayWhole : Type 0
EndsStayWhole = (x : State) (event : Event) → MayHappen x event → IsState x → EndWhole x → EndWhole (happens x event)
