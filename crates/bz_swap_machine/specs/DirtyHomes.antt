-- A word with a dirty value is one that a worker goes on to clean.
use Rattle.std.specs.Prelude.{◌≡◌, ℕ, ◌+◌, ◌*◌}
use Rattle.bz_word.specs.declared.kind.WordKind.TheVariants.{Dirty}
use Rattle.bz_swap_machine.specs.declared.status.Verdict.{Verdict}
use Rattle.bz_swap_machine.specs.declared.place.HelpStep.{HelpStep}
use Rattle.bz_swap_machine.specs.declared.place.HelpStep.TheVariants.{AskFinal, FenceFinal, ClearFinal}
use Rattle.bz_swap_machine.specs.declared.place.Place.{Place}
use Rattle.bz_swap_machine.specs.declared.place.Place.TheVariants.{Help}
use Rattle.bz_swap_machine.specs.Machine.{entries_in}
use Rattle.bz_swap_machine.specs.HelpActs.{final_value}
use Rattle.bz_swap_machine.specs.Steps.{Local}
use Rattle.bz_swap_machine.specs.State.{State, Event, happens, MayHappen}

-- the act goes on with the final value that verdict d leaves at entry i
abbrev pub CleansFinal : HelpStep → ℕ → Verdict → Type 0
CleansFinal (AskFinal j c) i d = (j ≡ i) × (c ≡ d)
CleansFinal (FenceFinal j c) i d = (j ≡ i) × (c ≡ d)
CleansFinal (ClearFinal j c) i d = (j ≡ i) × (c ≡ d)
CleansFinal step i d = ⊥

abbrev pub IsAtFinal : Place → ℕ → Verdict → Type 0
IsAtFinal (Help step) i d = CleansFinal step i d
IsAtFinal place i d = ⊥

-- the worker goes on to clean the value v at address a
pub record Cleans (l : Local) (a v : ℕ) : Type 0 where
  pub entry : ℕ
  pub verdict : Verdict
  pub place : IsAtFinal l.place entry verdict
  pub target : l.list (1 + 3 * entry) ≡ a
  pub value : final_value (entries_in l.list) entry verdict ≡ v

-- some worker does
pub record IsCleaned (local : ℕ → Local) (a v : ℕ) : Type 0 where
  pub worker : ℕ
  pub cleans : Cleans (local worker) a v

abbrev pub DirtyAreHome : State → Type 0
DirtyAreHome x = (a v : ℕ) → x.memory.cached a ≡ Dirty v → IsCleaned x.local a v

-- so it stays, whatever may happen
abbrev pub DirtyStayHome : Type 0
DirtyStayHome = (x : State) (event : Event) → MayHappen x event → DirtyAreHome x → DirtyAreHome (happens x event)
