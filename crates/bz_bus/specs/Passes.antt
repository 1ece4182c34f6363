-- What clauses say of a bus and of its passes.
use Rattle.std.specs.Prelude.{◌≡◌, ℕ, List, Bool, Some}
use Rattle.bz_bus.specs.declared.Chronicle.{Ghosts}
use Rattle.bz_bus.specs.declared.bus.Bus.{Bus}
use Rattle.bz_bus.specs.declared.bus.Pass.{Pass}
use Rattle.bz_bus.specs.Entries.{IsFreeIn}

module _ {T E F : Type 0} where
  -- the value that the bus was opened with, whose fixed part stays
  abbrev pub opened : Bus T E F → T
  opened b = b.table.shared.key

  -- how many passes the bus may have
  abbrev pub passes_of : Bus T E F → ℕ
  passes_of b = b.passes

module _ {T E F : Type 0} {g : Ghosts T E F} where
  -- the pass's number
  abbrev pub number_of : Pass T E F g → ℕ
  number_of p = p.number

  -- the list that the pass has seen
  abbrev pub seen_by : Pass T E F g → List E
  seen_by p = p.seat.me.0.seen

  -- for each number whether no pass has it, as the first pass knows
  abbrev pub free_in : Pass T E F g → List Bool
  free_in p = p.free

  -- no pass has the number n
  abbrev pub IsFree : Pass T E F g → ℕ → Type 0
  IsFree p n = IsFreeIn p.free n

  -- it is a pass of this bus, and knows its fixed part
  abbrev pub IsPassOf : Bus T E F → Pass T E F g → Type 0
  IsPassOf b p = (p.seat.table_id ≡ b.table.shared.table_id) × (p.seat.me.0.fixed ≡ Some (g.fixed b.table.shared.key))
