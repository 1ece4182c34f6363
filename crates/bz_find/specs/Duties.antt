-- A look-up of a key as a task.
use Rattle.std.specs.Prelude.{ℕ, ◌+◌, ◌-◌, List, Option, false}
use Rattle.bz_leaf.specs.Facts.{IsLastLink}
use Rattle.bz_task.specs.Basis.{no_basis}
use Rattle.bz_task.specs.Outcomes.{IsPath}
use Rattle.bz_task.specs.Scene.{Scene, Stage}
use Rattle.bz_task.specs.TaskView.{TaskView}
use Rattle.bz_task.specs.declared.path.Path.{Path}
use Rattle.bz_task.specs.declared.todo.Outcome.{Outcome}
use Rattle.bz_task.specs.declared.todo.Seen.{Seen}
use Rattle.bz_task.specs.declared.todo.Todo.{Todo}
use Rattle.bz_task.specs.declared.todo.Todo.TheVariants.{Read}
use Rattle.bz_find.specs.Facts.{find_acts, find_change, IsBounded, find_counts, find_facts, find_means, find_differs}
use Rattle.bz_find.specs.Phases.{find_asks, find_end, reads_of}
use Rattle.bz_find.specs.declared.find.Find.{Find}

-- the key that is looked up
abbrev pub key_of : Find → List ℕ
key_of t = t.key

-- how many reads it has asked for
abbrev pub asked_of : Find → ℕ
asked_of t = t.asked

-- the way to the leaf
abbrev pub path_of : Find → Path
path_of t = t.path

-- an answer that asks for a read
abbrev pub asked_by : Todo → ℕ
asked_by (Read a) = 1
asked_by todo = 0

abbrev pub asks_of : Find → Option Todo
asks_of t = find_asks t t.phase

abbrev pub end_of : Find → Option Outcome
end_of t = find_end t t.phase

-- what is left of the most acts of any look-up, its end among them, after the reads that it has asked for: so each act that it asks
-- for takes one, and each read is counted
abbrev pub left_of : Find → ℕ
left_of t = find_acts - 1 + reads_of t.phase - asked_of t

abbrev pub facts_of : Find → Stage → Scene → Type 0
facts_of t stage s = find_facts t t.phase stage s × IsPath t.key t.path s.past × IsBounded t × IsLastLink t.path t.link × find_counts t t.phase s.past

abbrev pub differs_of : Find → Seen → Type 0
differs_of t = find_differs t t.phase

-- as its contract sees it
abbrev pub find_view : Find → TaskView
find_view t = record {
  config = t.config;
  asks = asks_of t;
  end = end_of t;
  left = left_of t;
  swaps = 0;
  made = 0;
  needs = 0;
  -- it changes nothing at its key
  change = find_change t.key;
  basis = no_basis;
  publishing = false;
  facts = facts_of t;
  means = find_means t.key t.path;
  differs = differs_of t;
}
