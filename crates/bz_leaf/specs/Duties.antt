-- A reading of a leaf as a task.
use Rattle.std.specs.Prelude.{Option, false}
use Rattle.bz_task.specs.Basis.{no_basis}
use Rattle.bz_task.specs.Outcomes.{IsPath}
use Rattle.bz_task.specs.Scene.{Scene, Stage}
use Rattle.bz_task.specs.TaskView.{TaskView}
use Rattle.bz_task.specs.declared.todo.Outcome.{Outcome}
use Rattle.bz_task.specs.declared.todo.Seen.{Seen}
use Rattle.bz_task.specs.declared.todo.Todo.{Todo}
use Rattle.bz_leaf.specs.Facts.{IsLastLink, leaf_asks, leaf_end, leaf_left, leaf_facts, leaf_means, leaf_differs, leaf_change}
use Rattle.bz_leaf.specs.declared.read_leaf.ReadLeaf.{ReadLeaf}

abbrev pub asks_of : ReadLeaf → Option Todo
asks_of t = leaf_asks t.config t.link t.image t.phase

abbrev pub end_of : ReadLeaf → Option Outcome
end_of t = leaf_end t.link t.image t.phase

abbrev pub facts_of : ReadLeaf → Stage → Scene → Type 0
facts_of t stage s = leaf_facts t.key t.link t.image.0 t.phase stage s × IsPath t.key t.path s.past × IsLastLink t.path t.link

abbrev pub differs_of : ReadLeaf → Seen → Type 0
differs_of t = leaf_differs t.link t.image.0 t.phase

-- as its contract sees it
abbrev pub leaf_view : ReadLeaf → TaskView
leaf_view t = record {
  config = t.config;
  asks = asks_of t;
  end = end_of t;
  left = leaf_left t.phase;
  swaps = 0;
  made = 0;
  needs = 0;
  change = leaf_change;
  basis = no_basis;
  publishing = false;
  facts = facts_of t;
  means = leaf_means t.key t.path;
  differs = differs_of t;
}
