-- The split of an inner node below a parent as a task.
use Rattle.std.specs.Prelude.{◌≡◌, ◌≤◌, ◌+◌, ℕ, zero, suc, List, Option, Some, slice_index, [], false}
use Rattle.bz_task.specs.Basis.{Basis}
use Rattle.bz_task.specs.Scene.{Scene, Stage}
use Rattle.bz_task.specs.TaskView.{TaskView}
use Rattle.bz_task.specs.declared.todo.Outcome.{Outcome}
use Rattle.bz_task.specs.declared.todo.Outcome.TheVariants.{NeedsRoom}
use Rattle.bz_task.specs.declared.todo.Seen.{Seen}
use Rattle.bz_task.specs.declared.todo.Todo.{Todo}
use Rattle.bz_fork.specs.Facts.{Fork, fork_acts, fork_fails, fork_asks, fork_end, fork_left, fork_swaps, fork_needs, fork_facts, fork_differs, fork_means}
use Rattle.bz_fork.specs.declared.split_inner.SplitInner.{SplitInner}
use Rattle.bz_branch.specs.FromSplit.Facts.{split_change}

-- the words of the new parent, of the left half and of the right half
abbrev pub three : List ℕ → List ℕ → List ℕ → ℕ → List ℕ
three parent left right zero = parent
three parent left right (suc zero) = left
three parent left right (suc (suc n)) = right

abbrev pub fork_of : SplitInner → Fork
fork_of t = record { upper = t.upper; middle = t.middle; lower = t.lower; slot = slice_index t.slots; image = three t.parent.0 t.left.0 t.right.0; read = t.read.0; above = t.above.0 }

abbrev pub asks_fork : SplitInner → Option Todo
asks_fork t = fork_asks t.config (fork_of t) t.phase

abbrev pub end_fork : SplitInner → Option Outcome
end_fork t = fork_end t.phase

abbrev pub left_fork : SplitInner → ℕ
left_fork t = fork_left t.phase

abbrev pub swaps_fork : SplitInner → ℕ
swaps_fork t = fork_swaps t.phase

abbrev pub needs_fork : SplitInner → ℕ
needs_fork t = fork_needs t.phase

abbrev pub facts_fork : SplitInner → Stage → Scene → Type 0
facts_fork t = fork_facts (fork_of t) t.phase

abbrev pub differs_fork : SplitInner → Seen → Type 0
differs_fork t = fork_differs t.upper t.middle t.lower t.phase

-- where it ends for want of room, all its acts are left but these few
abbrev pub WantOfRoomCostsLittle : Type 0
WantOfRoomCostsLittle = (t : SplitInner) → end_fork t ≡ Some NeedsRoom → fork_acts ≤ left_fork t + fork_fails

-- the node
abbrev pub basis_fork : SplitInner → Basis
basis_fork t = record { slot = t.middle.slot; nodes = [] }

-- as its contract sees it
abbrev pub fork_view : SplitInner → TaskView
fork_view t = record {
  config = t.config;
  asks = asks_fork t;
  end = end_fork t;
  left = left_fork t;
  swaps = swaps_fork t;
  -- its one swap is its last act where it takes effect: while it goes on it has made none
  made = 0;
  needs = needs_fork t;
  change = split_change;
  basis = basis_fork t;
  publishing = false;
  facts = facts_fork t;
  means = fork_means t.upper t.middle;
  differs = differs_fork t;
}
