-- A split that has ended for want of room has done little.
use Rattle.std.proofs.Common.{◌≡◌, ℕ, ◌+◌, ◌-◌, ◌≤◌, Some, arith}
use Rattle.bz_below.specs.Duties.{below_of}
use Rattle.bz_below.specs.Facts.{Below, below_asks, below_end, below_left, below_needs, below_swaps}
use Rattle.bz_below.specs.declared.phase.BelowPhase.{BelowPhase}
use Rattle.bz_below.specs.declared.phase.BelowPhase.TheVariants as below
use Rattle.bz_any_task.specs.FromFork.Duties.{fork_of}
use Rattle.bz_any_task.specs.FromFork.Facts.{Fork, fork_asks, fork_end, fork_left, fork_needs, fork_swaps}
use Rattle.bz_any_task.specs.FromFork.ForkPhase.{ForkPhase}
use Rattle.bz_any_task.specs.FromFork.ForkPhase.TheVariants as fork
use Rattle.bz_writer.proofs.Sizes.{no-room}
use Rattle.bz_layout.specs.declared.config.Config.{Config}
use Rattle.bz_any_task.specs.Duties.{view_of}
use Rattle.bz_task.specs.Requests.{swaps_in}
use Rattle.bz_task.specs.declared.todo.Outcome.TheVariants.{NeedsRoom}
use Rattle.bz_costs.specs.Failing.{cost_of_lost_below, cost_of_lost_inner}
use Rattle.bz_costs.specs.Laws.{LostSplitsCostLittle}
use Rattle.bz_costs.specs.Most.{most_of_below, most_of_inner}
use Rattle.bz_costs.specs.Resources.{Resource, Marks}
use Rattle.bz_costs.specs.Weights.{weight}

-- that of a leaf, whatever loads it might still have spent on waiting
leaf-left : (r : Resource) (waits : ℕ) → most_of_below r ≤ weight r (waits + below_left below.NoRoom) (below_swaps below.NoRoom) (below_needs below.NoRoom) + cost_of_lost_below r
leaf-left Marks waits = omega arith
leaf-left r waits = omega arith

leaf-lost : (r : Resource) (c : Config) (x : Below) (waits : ℕ) (p : BelowPhase) → below_end p ≡ Some NeedsRoom →
    most_of_below r ≤ weight r (waits + below_left p) (below_swaps p - swaps_in (below_asks c x p)) (below_needs p) + cost_of_lost_below r
leaf-lost r c x waits below.NoRoom e = leaf-left r waits
leaf-lost r c x waits p e = absurd (cc)

-- and that of an inner node
node-left : (r : Resource) → most_of_inner r ≤ weight r (fork_left fork.NoRoom) (fork_swaps fork.NoRoom) (fork_needs fork.NoRoom) + cost_of_lost_inner r
node-left Marks = omega arith
node-left r = omega arith

node-lost : (r : Resource) (c : Config) (x : Fork) (p : ForkPhase) → fork_end p ≡ Some NeedsRoom → most_of_inner r ≤ weight r (fork_left p) (fork_swaps p - swaps_in (fork_asks c x p)) (fork_needs p) + cost_of_lost_inner r
node-lost r c x fork.NoRoom e = node-left r
node-lost r c x (fork.Writing w) e = absurd (no-room w e)
node-lost r c x p e = absurd (cc)

pub lost-little : (r : Resource) → LostSplitsCostLittle r
unfolding view_of
lost-little r = record {
  below = λ t a e. leaf-lost r t.config (below_of t) t.waits t.phase e;
  inner = λ t a e. node-lost r t.config (fork_of t) t.phase e;
}
