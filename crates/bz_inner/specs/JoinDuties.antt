-- A merge of two inner nodes under the root as a task.
use Rattle.std.specs.Prelude.{ℕ, zero, suc, List, [], Option, slice_index, false}
use Rattle.bz_layout.specs.declared.config.Config.{Config}
use Rattle.bz_task.specs.TaskView.{TaskView}
use Rattle.bz_task.specs.declared.todo.Todo.{Todo}
use Rattle.bz_writer.specs.Phases.{no_change}
use Rattle.bz_inner.specs.JoinFacts.{joining_asks, joining_differs, joining_end, joining_facts, joining_left, joining_means, joining_needs, joining_ready, joining_swaps}
use Rattle.bz_inner.specs.Joinings.{Joining}
use Rattle.bz_inner.specs.declared.join_phase.JoinPhase.{JoinPhase}
use Rattle.bz_inner.specs.declared.merge_inner.MergeInner.{MergeInner}

-- the words of the new root and of the joined node
abbrev pub two : List ℕ → List ℕ → ℕ → List ℕ
two root joined zero = root
two root joined (suc n) = joined

abbrev pub joining_of : MergeInner → Joining
joining_of t = record {
  upper = t.upper;
  middle = t.middle;
  lower = t.lower;
  small = t.small;
  above = t.above.0;
  own = t.own.0;
  beside = t.beside.0;
  right = t.side.right;
  place = t.side.place;
  beside_slot = t.side.slot;
  slot = slice_index t.slots;
  image = two t.root.0 t.joined.0;
}

abbrev pub asks_joining : MergeInner → Option Todo
asks_joining t = joining_asks t.config (joining_of t) t.phase

-- what is named is there
abbrev pub IsReadyJoining : MergeInner → Type 0
IsReadyJoining t = joining_ready t.config (joining_of t) t.phase

-- in a phase
abbrev pub view_joining : Config → Joining → JoinPhase → TaskView
view_joining c r phase = record {
  config = c;
  asks = joining_asks c r phase;
  end = joining_end phase;
  left = joining_left phase;
  swaps = joining_swaps phase;
  -- its one swap is its last act where it takes effect: while it goes on it has made none
  made = 0;
  needs = joining_needs phase;
  change = no_change;
  basis = record { slot = r.upper.slot; nodes = [] };
  publishing = false;
  facts = joining_facts r phase;
  means = joining_means r.upper r.middle r.lower;
  differs = joining_differs r phase;
}

-- as its contract sees it
abbrev pub merge_view : MergeInner → TaskView
merge_view t = view_joining t.config (joining_of t) t.phase
