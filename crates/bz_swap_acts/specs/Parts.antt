-- What the parts of an act promise one another.
use Rattle.std.specs.Prelude.{◌≡◌, ◌==◌, not, Bool, false, ℕ, ◌<◌, ◌^◌, length}
use Rattle.bz_word.specs.declared.kind.WordKind.{WordKind}
use Rattle.bz_word.specs.declared.kind.WordKind.TheVariants.{Value, Dirty, Swap, Tag}
use Rattle.bz_swap_machine.specs.declared.place.Place.{Place}
use Rattle.bz_swap_machine.specs.declared.place.HelpStep.{HelpStep}
use Rattle.bz_swap_machine.specs.declared.worker.Worker.{Worker}
use Rattle.bz_swap_machine.specs.Machine.{Entries}
use Rattle.bz_swap_machine.specs.HelpActs.{help_act}
use Rattle.bz_swap_machine.specs.Steps.{Stepped, act}
use Rattle.bz_swap_machine.specs.Workers.{local_of}
use Rattle.bz_swap_machine.specs.Fences.{helps_by_fence, is_fence}
use Rattle.bz_swap_cells.specs.Store.{Store, Beside, IsStore, SameShape, typed, store_state}
use Rattle.bz_swap_acts.specs.declared.acted.Act.{Act}
use Rattle.bz_swap_acts.specs.declared.acted.Acted.{Acted}
use Rattle.bz_swap_acts.specs.declared.entry.Aim.{Aim}
use Rattle.bz_swap_acts.specs.declared.help.Helped.{Helped}
use Rattle.bz_swap_acts.specs.Made.{beside_in}
use Rattle.bz_swap_acts.specs.Ready.{LiesOutside}
use Rattle.bz_swap_acts.specs.Rule.{IsActOf, IsToldAt, IsWithin, is_fence_act}
use Rattle.bz_swap_acts.specs.Writes.{HelpsBy, WritesAt}

-- this act, on a word or line of the memory, leads from the one store to the other, whose words can be read too; whoever
-- makes it
pub record IsMade (old : Store) (act : Act) (new : Store) : Type 0 where
  pub rule : (w : ℕ) → IsActOf (store_state old) w act (store_state new)
  pub within : IsWithin (length old.cached) act
  pub typed : IsStore new
  pub shape : SameShape old new

-- the same of an act of worker w
pub record IsMadeBy (old : Store) (w : ℕ) (act : Act) (new : Store) : Type 0 where
  pub rule : IsActOf (store_state old) w act (store_state new)
  pub within : IsWithin (length old.cached) act
  pub typed : IsStore new
  pub shape : SameShape old new

-- a plain value was found that is not the expected one
abbrev pub is_other_value : WordKind → ℕ → Bool
is_other_value (Value v) expected = not (v == expected)
is_other_value (Dirty v) expected = false
is_other_value (Swap s) expected = false
is_other_value (Tag s i w q) expected = false

-- entry i of a worker's list
pub record IsAim (st : Store) (x : Entries) (i : ℕ) (aim : Aim) : Type 0 where
  pub count : aim.count ≡ x.count
  pub target : aim.target ≡ x.target i
  pub expected : aim.expected ≡ x.expected i
  pub value : aim.value ≡ x.value i
  pub entry : i < aim.count
  pub four : i < 4
  pub lies : LiesOutside st aim.target
  pub expected_fits : aim.expected < 2 ^ 61
  pub value_fits : aim.value < 2 ^ 61

-- what worker w made on swap s, whose entries are x, is what the machine makes at this step
pub record IsHelp (x : Entries) (old : Store) (w s : ℕ) (step : HelpStep) (helped : Helped) (new : Store) : Type 0 where
  pub memory : (b : Beside) → typed new b ≡ (help_act x (typed old b) w s step).memory
  pub next : (b : Beside) → helped.next ≡ (help_act x (typed old b) w s step).next
  pub flush : is_fence_act helped.act ≡ helps_by_fence step
  pub writes : HelpsBy old.swaps s step helped.act
  pub made : IsMadeBy old w helped.act new

-- what the machine makes at a worker's place
abbrev pub made_at : Store → Beside → Worker → ℕ → Place → Stepped
made_at st b l w place = act (typed st b) w (local_of l) place

-- what worker w made is what the machine makes at this place
pub record IsStep (old : Store) (from : Worker) (w : ℕ) (place : Place) (acted : Acted) (new : Store) (to : Worker) : Type 0 where
  pub local : (b : Beside) → local_of to ≡ (made_at old b from w place).local
  pub done : (b : Beside) → acted.done ≡ (made_at old b from w place).done
  pub memory : (b : Beside) → typed new (beside_in (made_at old b from w place).memory) ≡ (made_at old b from w place).memory
  pub flush : is_fence_act acted.act ≡ is_fence place
  pub told : IsToldAt place acted.act
  pub writes : WritesAt old.swaps from place acted.act
  pub made : IsMadeBy old w acted.act new
