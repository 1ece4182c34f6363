-- A freeze as a task.
use Rattle.std.specs.Prelude.{false}
use Rattle.bz_task.specs.TaskView.{TaskView}
use Rattle.bz_freeze.specs.Facts.{freeze_asks, freeze_basis, freeze_end, freeze_left, freeze_swaps, freeze_facts, freeze_means, freeze_change}
use Rattle.bz_freeze.specs.declared.freeze.Freeze.{Freeze}

-- as its contract sees it
abbrev pub freeze_view : Freeze → TaskView
freeze_view t = record {
  config = t.config;
  asks = freeze_asks t.config t.slot t.status t.phase;
  end = freeze_end t.phase;
  left = freeze_left t.phase;
  swaps = freeze_swaps t.phase;
  made = 0;
  needs = 0;
  change = freeze_change;
  basis = freeze_basis t.slot;
  publishing = false;
  facts = freeze_facts t.slot t.status t.phase;
  means = freeze_means t.slot;
  differs = λ seen. ⊥;
}
