-- An insert as a task.
use Rattle.std.specs.Prelude.{ℕ, Option}
use Rattle.bz_record.specs.Laws.{inserts}
use Rattle.bz_task.specs.Basis.{no_basis}
use Rattle.bz_task.specs.Scene.{Scene, Stage}
use Rattle.bz_task.specs.TaskView.{TaskView}
use Rattle.bz_task.specs.declared.todo.Todo.{Todo}
use Rattle.bz_insert.specs.Facts.{insert_asks, insert_end, insert_left, insert_swaps, insert_made, insert_publishes, insert_facts, insert_means}
use Rattle.bz_insert.specs.declared.insert.Insert.{Insert}

abbrev pub asks_of : Insert → Option Todo
asks_of t = insert_asks t.config t.added t.phase

abbrev pub made_of : Insert → ℕ
made_of t = insert_made t.phase

abbrev pub facts_of : Insert → Stage → Scene → Type 0
facts_of t = insert_facts t.added t.phase

-- as its contract sees it
abbrev pub insert_view : Insert → TaskView
insert_view t = record {
  config = t.config;
  asks = asks_of t;
  end = insert_end t.phase;
  left = insert_left t.phase;
  swaps = insert_swaps t.phase;
  made = made_of t;
  needs = 0;
  change = inserts t.added;
  basis = no_basis;
  publishing = insert_publishes t.phase;
  facts = facts_of t;
  means = insert_means t.added;
  differs = λ seen. ⊥;
}
