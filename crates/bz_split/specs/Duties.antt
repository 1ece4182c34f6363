-- The split of a root leaf as a task.
use Rattle.std.specs.Prelude.{ℕ, zero, suc, List, Option, slice_index}
use Rattle.bz_task.specs.Basis.{Basis}
use Rattle.bz_task.specs.Scene.{Scene, Stage}
use Rattle.bz_task.specs.TaskView.{TaskView}
use Rattle.bz_task.specs.declared.todo.Outcome.{Outcome}
use Rattle.bz_task.specs.declared.todo.Seen.{Seen}
use Rattle.bz_task.specs.declared.todo.Todo.{Todo}
use Rattle.bz_writer.specs.Facts.{write_ready, write_view}
use Rattle.bz_writer.specs.Phases.{write_end}
use Rattle.bz_split.specs.Facts.{Split, split_plan, split_asks, split_needs, split_facts, split_differs}
use Rattle.bz_split.specs.declared.split_root.SplitRoot.{SplitRoot}

-- the words of the root, of the left half and of the right half
abbrev pub image_in : SplitRoot → ℕ → List ℕ
image_in t zero = t.root.0
image_in t (suc zero) = t.halves.left.0
image_in t (suc (suc n)) = t.halves.right.0

abbrev pub split_of : SplitRoot → Split
split_of t = record { link = t.link; slot = slice_index t.slots; image = image_in t; sep = t.halves.separator }

abbrev pub asks_of : SplitRoot → Option Todo
asks_of t = split_asks t.config (split_of t) t.phase

abbrev pub end_of : SplitRoot → Option Outcome
end_of t = write_end t.phase

abbrev pub needs_of : SplitRoot → ℕ
needs_of t = split_needs t.phase

abbrev pub facts_of : SplitRoot → Stage → Scene → Type 0
facts_of t = split_facts (split_of t) t.phase

abbrev pub differs_of : SplitRoot → Seen → Type 0
differs_of t = split_differs t.link t.phase

abbrev pub basis_of : SplitRoot → Basis
basis_of t = (split_plan (split_of t)).basis

-- what is named is there
abbrev pub IsReady : SplitRoot → Type 0
IsReady t = write_ready t.config (split_plan (split_of t)) t.phase

-- as its contract sees it
abbrev pub split_view : SplitRoot → TaskView
split_view t = write_view t.config (split_plan (split_of t)) t.phase
