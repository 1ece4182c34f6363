-- A merge as a task.
use Rattle.std.specs.Prelude.{ℕ, zero, suc, List, [], ◌∷◌, Option, slice_index, false}
use Rattle.bz_task.specs.Basis.{Basis}
use Rattle.bz_task.specs.Scene.{Scene, Stage}
use Rattle.bz_task.specs.TaskView.{TaskView}
use Rattle.bz_task.specs.declared.todo.Outcome.{Outcome}
use Rattle.bz_task.specs.declared.todo.Seen.{Seen}
use Rattle.bz_task.specs.declared.todo.Todo.{Todo}
use Rattle.bz_merge.specs.Counts.{merge_swaps, merge_made}
use Rattle.bz_merge.specs.Facts.{merge_asks, merge_end, merge_left, merge_needs, merge_facts, merge_differs, merge_change, merge_means}
use Rattle.bz_merge.specs.Plans.{Merging}
use Rattle.bz_merge.specs.declared.merge.Merge.{Merge}

-- the words of the new parent and of the merged leaf
abbrev pub two : List ℕ → List ℕ → ℕ → List ℕ
two parent leaf zero = parent
two parent leaf (suc n) = leaf

abbrev pub merging_of : Merge → Merging
merging_of t = record {
  upper = t.upper;
  lower = t.lower;
  status = t.status;
  leaf = t.leaf.0;
  read = t.read.0;
  right = t.side.right;
  place = t.side.place;
  beside_slot = t.side.slot;
  beside = t.beside.0;
  slot = slice_index t.slots;
  image = two t.parent.0 t.merged.0;
}

abbrev pub asks_of : Merge → Option Todo
asks_of t = merge_asks t.config (merging_of t) t.phase

abbrev pub end_of : Merge → Option Outcome
end_of t = merge_end t.phase

abbrev pub left_of : Merge → ℕ
left_of t = merge_left t.side.right t.phase

abbrev pub swaps_of : Merge → ℕ
swaps_of t = merge_swaps t.phase

abbrev pub made_of : Merge → ℕ
made_of t = merge_made (merging_of t) t.phase

abbrev pub needs_of : Merge → ℕ
needs_of t = merge_needs t.phase

-- the leaf that was viewed, and its status then
abbrev pub basis_of : Merge → Basis
basis_of t = record { slot = t.lower.slot; nodes = (t.status ∷ []) ∷ [] }

abbrev pub facts_of : Merge → Stage → Scene → Type 0
facts_of t = merge_facts (merging_of t) t.phase

abbrev pub differs_of : Merge → Seen → Type 0
differs_of t = merge_differs (merging_of t) t.phase

-- as its contract sees it
abbrev pub merge_view : Merge → TaskView
merge_view t = record {
  config = t.config;
  asks = asks_of t;
  end = end_of t;
  left = left_of t;
  swaps = swaps_of t;
  made = made_of t;
  needs = needs_of t;
  change = merge_change;
  basis = basis_of t;
  publishing = false;
  facts = facts_of t;
  means = merge_means t.upper t.lower t.status t.leaf.0;
  differs = differs_of t;
}
