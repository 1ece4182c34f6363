-- An update as a task.
use Rattle.std.specs.Prelude.{ℕ, Option}
use Rattle.bz_task.specs.Basis.{no_basis}
use Rattle.bz_task.specs.Scene.{Scene, Stage}
use Rattle.bz_task.specs.TaskView.{TaskView}
use Rattle.bz_task.specs.declared.todo.Todo.{Todo}
use Rattle.bz_mutate.specs.UpdateFacts.{update_asks, update_end, update_left, update_swaps, update_made, update_publishes, update_facts, update_means, revision}
use Rattle.bz_mutate.specs.declared.update.Update.{Update}

abbrev pub asks_of : Update → Option Todo
asks_of t = update_asks t.config t.added t.phase

abbrev pub made_of : Update → ℕ
made_of t = update_made t.phase

abbrev pub facts_of : Update → Stage → Scene → Type 0
facts_of t = update_facts t.view t.added t.phase

-- as its contract sees it
abbrev pub update_view : Update → TaskView
update_view t = record {
  config = t.config;
  asks = asks_of t;
  end = update_end t.phase;
  left = update_left t.phase;
  swaps = update_swaps t.phase;
  made = made_of t;
  needs = 0;
  change = revision t.view t.added;
  basis = no_basis;
  publishing = update_publishes t.phase;
  facts = facts_of t;
  means = update_means t.added;
  differs = λ seen. ⊥;
}
