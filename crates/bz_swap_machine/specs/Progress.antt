-- What holds of a machine's state besides its invariant, so that a worker that steps alone ends.
use Rattle.std.specs.Prelude.{◌≡◌, ℕ}
use Rattle.bz_word.specs.declared.kind.WordKind.TheVariants.{Tag}
use Rattle.bz_swap_machine.specs.declared.place.HelpStep.{HelpStep}
use Rattle.bz_swap_machine.specs.declared.place.HelpStep.TheVariants.{LookUnderTag, InstallPointer, RemoveTag}
use Rattle.bz_swap_machine.specs.declared.place.Place.{Place}
use Rattle.bz_swap_machine.specs.declared.place.Place.TheVariants.{Help}
use Rattle.bz_swap_machine.specs.Steps.{Local}
use Rattle.bz_swap_machine.specs.State.{State, Event, happens, MayHappen, IsState}

-- the act goes on with tag q of worker v, for entry i
abbrev pub GoesOnWith : HelpStep → ℕ → ℕ → ℕ → Type 0
GoesOnWith (LookUnderTag j u p) i v q = (j ≡ i) × (u ≡ v) × (p ≡ q)
GoesOnWith (InstallPointer j u p) i v q = (j ≡ i) × (u ≡ v) × (p ≡ q)
GoesOnWith (RemoveTag j u p) i v q = (j ≡ i) × (u ≡ v) × (p ≡ q)
GoesOnWith step i v q = ⊥

abbrev pub IsAtTag : Place → ℕ → ℕ → ℕ → Type 0
IsAtTag (Help step) i v q = GoesOnWith step i v q
IsAtTag place i v q = ⊥

-- a worker goes on with its own tag for entry i of swap s
pub record IsHome (l : Local) (v s i q : ℕ) : Type 0 where
  pub current : l.current ≡ s
  pub place : IsAtTag l.place i v q

-- each tag that stands in the caches is one that its worker goes on with
abbrev pub TagsAreHome : State → Type 0
TagsAreHome x = (a s i v q : ℕ) → x.memory.cached a ≡ Tag s i v q → IsHome (x.local v) v s i q

-- so it stays, whatever may happen
abbrev pub TagsStayHome : Type 0
TagsStayHome = (x : State) (event : Event) → MayHappen x event → IsState x → TagsAreHome x → TagsAreHome (happens x event)
