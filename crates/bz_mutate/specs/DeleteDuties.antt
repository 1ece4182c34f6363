-- A delete as a task.
use Rattle.std.specs.Prelude.{Bool, [], ◌∷◌, Option}
use Rattle.bz_task.specs.Basis.{Basis}
use Rattle.bz_task.specs.Scene.{Scene, Stage}
use Rattle.bz_task.specs.Swaps.{Change}
use Rattle.bz_task.specs.TaskView.{TaskView}
use Rattle.bz_task.specs.declared.todo.Todo.{Todo}
use Rattle.bz_mutate.specs.DeleteFacts.{delete_asks, delete_end, delete_left, delete_swaps, delete_publishes, delete_facts, delete_means, deletion, leaves_few_without}
use Rattle.bz_mutate.specs.declared.delete.Delete.{Delete}

abbrev pub asks_of : Delete → Option Todo
asks_of t = delete_asks t.config t.view t.phase

abbrev pub change_of : Delete → Change
change_of t = deletion t.key t.view

-- the leaf that was viewed, and its status then
abbrev pub basis_of : Delete → Basis
basis_of t = record { slot = t.view.slot; nodes = (t.view.status ∷ []) ∷ [] }

-- so few words are live in it once the record is gone
abbrev pub leaves_few_of : Delete → Bool
leaves_few_of t = leaves_few_without t.view.status t.key (change_of t).old

abbrev pub facts_of : Delete → Stage → Scene → Type 0
facts_of t = delete_facts t.key t.view t.phase

-- as its contract sees it
abbrev pub delete_view : Delete → TaskView
delete_view t = record {
  config = t.config;
  asks = asks_of t;
  end = delete_end t.phase;
  left = delete_left t.phase;
  swaps = delete_swaps t.phase;
  made = 0;
  needs = 0;
  change = change_of t;
  basis = basis_of t;
  publishing = delete_publishes t.phase;
  facts = facts_of t;
  means = delete_means t.view;
  differs = λ seen. ⊥;
}
