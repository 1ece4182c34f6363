-- The split of an inner root as a task.
use Rattle.std.specs.Prelude.{ℕ, zero, suc, List, [], Option, slice_index, false}
use Rattle.bz_task.specs.Basis.{Basis}
use Rattle.bz_task.specs.Scene.{Scene, Stage}
use Rattle.bz_task.specs.TaskView.{TaskView}
use Rattle.bz_task.specs.declared.todo.Outcome.{Outcome}
use Rattle.bz_task.specs.declared.todo.Seen.{Seen}
use Rattle.bz_task.specs.declared.todo.Todo.{Todo}
use Rattle.bz_crown.specs.Facts.{Crown, crown_asks, crown_end, crown_left, crown_swaps, crown_needs, crown_facts, crown_differs, crown_means}
use Rattle.bz_crown.specs.declared.split_inner_root.SplitInnerRoot.{SplitInnerRoot}
use Rattle.bz_branch.specs.FromSplit.Facts.{split_change}

-- the words of the new root, of the left half and of the right half
abbrev pub three : List ℕ → List ℕ → List ℕ → ℕ → List ℕ
three root left right zero = root
three root left right (suc zero) = left
three root left right (suc (suc n)) = right

abbrev pub crown_of : SplitInnerRoot → Crown
crown_of t = record { upper = t.upper; lower = t.lower; slot = slice_index t.slots; image = three t.root.0 t.left.0 t.right.0; read = t.read.0 }

abbrev pub asks_crown : SplitInnerRoot → Option Todo
asks_crown t = crown_asks t.config (crown_of t) t.phase

abbrev pub end_crown : SplitInnerRoot → Option Outcome
end_crown t = crown_end t.phase

abbrev pub left_crown : SplitInnerRoot → ℕ
left_crown t = crown_left t.phase

abbrev pub swaps_crown : SplitInnerRoot → ℕ
swaps_crown t = crown_swaps t.phase

abbrev pub needs_crown : SplitInnerRoot → ℕ
needs_crown t = crown_needs t.phase

abbrev pub facts_crown : SplitInnerRoot → Stage → Scene → Type 0
facts_crown t = crown_facts (crown_of t) t.phase

abbrev pub differs_crown : SplitInnerRoot → Seen → Type 0
differs_crown t = crown_differs t.upper t.lower t.phase

-- the root
abbrev pub basis_crown : SplitInnerRoot → Basis
basis_crown t = record { slot = t.upper.slot; nodes = [] }

-- as its contract sees it
abbrev pub crown_view : SplitInnerRoot → TaskView
crown_view t = record {
  config = t.config;
  asks = asks_crown t;
  end = end_crown t;
  left = left_crown t;
  swaps = swaps_crown t;
  -- its one swap is its last act where it takes effect: while it goes on it has made none
  made = 0;
  needs = needs_crown t;
  change = split_change;
  basis = basis_crown t;
  publishing = false;
  facts = facts_crown t;
  means = crown_means t.upper;
  differs = differs_crown t;
}
