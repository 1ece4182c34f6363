-- A consolidation as a task.
use Rattle.std.specs.Prelude.{ℕ, Option, slice_index}
use Rattle.bz_task.specs.Basis.{Basis}
use Rattle.bz_task.specs.Scene.{Scene, Stage}
use Rattle.bz_task.specs.TaskView.{TaskView}
use Rattle.bz_task.specs.declared.todo.Outcome.{Outcome}
use Rattle.bz_task.specs.declared.todo.Seen.{Seen}
use Rattle.bz_task.specs.declared.todo.Todo.{Todo}
use Rattle.bz_writer.specs.Facts.{write_ready, write_view}
use Rattle.bz_writer.specs.Phases.{write_end}
use Rattle.bz_consol.specs.Facts.{Renewal, consol_plan, consol_asks, consol_differs, consol_facts, consol_needs}
use Rattle.bz_consol.specs.declared.consolidate.Consolidate.{Consolidate}

abbrev pub renewal_of : Consolidate → Renewal
renewal_of t = record { link = t.link; image = t.image.0; slot = slice_index t.slots }

abbrev pub asks_of : Consolidate → Option Todo
asks_of t = consol_asks t.config (renewal_of t) t.phase

abbrev pub end_of : Consolidate → Option Outcome
end_of t = write_end t.phase

abbrev pub needs_of : Consolidate → ℕ
needs_of t = consol_needs t.phase

abbrev pub facts_of : Consolidate → Stage → Scene → Type 0
facts_of t = consol_facts (renewal_of t) t.phase

abbrev pub differs_of : Consolidate → Seen → Type 0
differs_of t = consol_differs t.link t.phase

abbrev pub basis_of : Consolidate → Basis
basis_of t = (consol_plan (renewal_of t)).basis

-- what is named is there
abbrev pub IsReady : Consolidate → Type 0
IsReady t = write_ready t.config (consol_plan (renewal_of t)) t.phase

-- as its contract sees it
abbrev pub consol_view : Consolidate → TaskView
consol_view t = write_view t.config (consol_plan (renewal_of t)) t.phase
