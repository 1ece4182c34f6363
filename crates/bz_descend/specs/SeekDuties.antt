-- A descent as a task.
use Rattle.std.specs.Prelude.{ℕ, ◌+◌, ◌-◌, List, Option, false}
use Rattle.bz_task.specs.Basis.{no_basis}
use Rattle.bz_task.specs.Scene.{Scene, Stage}
use Rattle.bz_task.specs.TaskView.{TaskView}
use Rattle.bz_task.specs.declared.todo.Outcome.{Outcome}
use Rattle.bz_task.specs.declared.todo.Seen.{Seen}
use Rattle.bz_task.specs.declared.todo.Todo.{Todo}
use Rattle.bz_descend.specs.Facts.{descend_means, descend_change}
use Rattle.bz_descend.specs.SeekFacts.{seek_asks, seek_end, seek_reads, asks_one, seek_facts, seek_differs, IsCounted}
use Rattle.bz_descend.specs.declared.seek.Seek.{Seek}

-- how many reads it has asked for
abbrev pub asked_of : Seek → ℕ
asked_of t = t.asked

-- the key whose leaf is sought
abbrev pub key_of : Seek → List ℕ
key_of t = t.key

abbrev pub asks_of : Seek → Option Todo
asks_of t = seek_asks t.config t.phase

abbrev pub end_of : Seek → Option Outcome
end_of t = seek_end t.path t.phase

-- what is left of the most acts of any descent, its end among them, after the reads that it has asked for: so each act that it asks
-- for takes one, and each read is counted
abbrev pub left_of : Seek → ℕ
left_of t = seek_reads + asks_one t.phase - asked_of t

abbrev pub facts_of : Seek → Stage → Scene → Type 0
facts_of t stage s = seek_facts t.key t.path t.height t.words t.phase stage s × IsCounted t.config t.path t.height t.phase t.asked

abbrev pub differs_of : Seek → Seen → Type 0
differs_of t = seek_differs t.phase

-- as its contract sees it
abbrev pub seek_view : Seek → TaskView
seek_view t = record {
  config = t.config;
  asks = asks_of t;
  end = end_of t;
  left = left_of t;
  swaps = 0;
  made = 0;
  needs = 0;
  change = descend_change;
  basis = no_basis;
  publishing = false;
  facts = facts_of t;
  means = descend_means t.key;
  differs = differs_of t;
}
