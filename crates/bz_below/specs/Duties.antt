-- The split of a leaf below a parent as a task.
use Rattle.std.specs.Prelude.{◌≡◌, ◌≤◌, ℕ, zero, suc, ◌+◌, List, Option, Some, slice_index, [], ◌∷◌, false}
use Rattle.bz_task.specs.Basis.{Basis}
use Rattle.bz_task.specs.Scene.{Scene, Stage}
use Rattle.bz_task.specs.TaskView.{TaskView}
use Rattle.bz_task.specs.declared.todo.Outcome.{Outcome}
use Rattle.bz_task.specs.declared.todo.Outcome.TheVariants.{NeedsRoom}
use Rattle.bz_task.specs.declared.todo.Seen.{Seen}
use Rattle.bz_task.specs.declared.todo.Todo.{Todo}
use Rattle.bz_below.specs.Facts.{Below, below_acts, below_fails, below_asks, below_end, below_left, below_swaps, below_needs, below_facts, below_differs, below_means}
use Rattle.bz_below.specs.declared.split_below.SplitBelow.{SplitBelow}
use Rattle.bz_split.specs.Facts.{split_change}

-- the words of the new parent, of the left half and of the right half
abbrev pub three : List ℕ → List ℕ → List ℕ → ℕ → List ℕ
three parent left right zero = parent
three parent left right (suc zero) = left
three parent left right (suc (suc n)) = right

abbrev pub below_of : SplitBelow → Below
below_of t = record { upper = t.upper; lower = t.lower; slot = slice_index t.slots; image = three t.parent.0 t.halves.left.0 t.halves.right.0; read = t.read.0; sep = t.halves.separator; guard = t.guard }

abbrev pub asks_below : SplitBelow → Option Todo
asks_below t = below_asks t.config (below_of t) t.phase

abbrev pub end_below : SplitBelow → Option Outcome
end_below t = below_end t.phase

abbrev pub left_below : SplitBelow → ℕ
left_below t = t.waits + below_left t.phase

abbrev pub swaps_below : SplitBelow → ℕ
swaps_below t = below_swaps t.phase

abbrev pub needs_below : SplitBelow → ℕ
needs_below t = below_needs t.phase

abbrev pub facts_below : SplitBelow → Stage → Scene → Type 0
facts_below t = below_facts (below_of t) t.phase

abbrev pub differs_below : SplitBelow → Seen → Type 0
differs_below t = below_differs t.lower t.phase

-- where it ends for want of room, all its acts are left but these few
abbrev pub WantOfRoomCostsLittle : Type 0
WantOfRoomCostsLittle = (t : SplitBelow) → end_below t ≡ Some NeedsRoom → below_acts ≤ left_below t + below_fails

-- the leaf, and the words of its halves, with the key between them
abbrev pub basis_below : SplitBelow → Basis
basis_below t = record { slot = t.lower.slot; nodes = t.halves.left.0 ∷ t.halves.right.0 ∷ t.halves.separator ∷ [] }

-- as its contract sees it
abbrev pub below_view : SplitBelow → TaskView
below_view t = record {
  config = t.config;
  asks = asks_below t;
  end = end_below t;
  left = left_below t;
  swaps = swaps_below t;
  -- its one swap is its last act where it takes effect: while it goes on it has made none
  made = 0;
  needs = needs_below t;
  change = split_change;
  basis = basis_below t;
  publishing = false;
  facts = facts_below t;
  means = below_means t.upper t.lower t.halves.left.0 t.halves.right.0 t.halves.separator;
  differs = differs_below t;
}
