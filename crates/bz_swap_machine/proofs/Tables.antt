-- The table of the budget's numbers, by computation.
use Rattle.std.proofs.Common.{refl}
use Rattle.bz_swap_machine.specs.BudgetTable.{PlacesCount, BudgetsAreSpent}

pub places_count : PlacesCount
places_count = record {
  single = refl;
  read = refl;
  write = refl;
  publish = refl;
  learn = refl;
  install_tag = refl;
  look_under = refl;
  install_pointer = refl;
  ask_dirty = refl;
  fence_dirty = refl;
  clear_dirty = refl;
  ask_target = refl;
  verdict = refl;
  put_final = refl;
  ask_final = refl;
  fence_final = refl;
  sweep = refl;
  clear_final = refl;
}

pub budgets_are_spent : BudgetsAreSpent
budgets_are_spent = record { swap = refl; read = refl }
