-- A lowering of the root as a task.
use Rattle.std.specs.Prelude.{Option, false}
use Rattle.bz_layout.specs.declared.config.Config.{Config}
use Rattle.bz_task.specs.TaskView.{TaskView}
use Rattle.bz_task.specs.declared.todo.Todo.{Todo}
use Rattle.bz_writer.specs.Phases.{no_change}
use Rattle.bz_inner.specs.LowerFacts.{Lowering, lower_asks, lower_basis, lower_differs, lower_end, lower_facts, lower_left, lower_means, lower_ready, lower_swaps}
use Rattle.bz_inner.specs.declared.lower.Lower.{Lower}
use Rattle.bz_inner.specs.declared.lower_phase.LowerPhase.{LowerPhase}

abbrev pub lowering_of : Lower → Lowering
lowering_of t = record { lone = t.lone; upper = t.upper; lower = t.lower }

abbrev pub asks_lower : Lower → Option Todo
asks_lower t = lower_asks t.config (lowering_of t) t.phase

-- what is named is there
abbrev pub IsReadyLower : Lower → Type 0
IsReadyLower t = lower_ready t.config (lowering_of t) t.phase

-- in a phase
abbrev pub view_in_phase : Config → Lowering → LowerPhase → TaskView
view_in_phase c r phase = record {
  config = c;
  asks = lower_asks c r phase;
  end = lower_end phase;
  left = lower_left phase;
  swaps = lower_swaps phase;
  -- its one swap is its last act where it takes effect: while it goes on it has made none
  made = 0;
  needs = 0;
  change = no_change;
  basis = lower_basis r;
  publishing = false;
  facts = lower_facts r phase;
  means = lower_means r;
  differs = lower_differs r.lower.status phase;
}

-- as its contract sees it
abbrev pub lower_view : Lower → TaskView
lower_view t = view_in_phase t.config (lowering_of t) t.phase
