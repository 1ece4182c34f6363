-- What a split costs that ends for want of room above: a few of its steps. It has asked for no swap, and has taken no slot.
use Rattle.std.specs.Prelude.{ℕ}
use Rattle.bz_below.specs.Facts.{below_fails}
use Rattle.bz_any_task.specs.FromFork.Facts.{fork_fails}
use Rattle.bz_costs.specs.Resources.{Resource}
use Rattle.bz_costs.specs.Weights.{weight}

-- that of a leaf
abbrev pub cost_of_lost_below : Resource → ℕ
cost_of_lost_below r = weight r below_fails 0 0

-- and that of an inner node
abbrev pub cost_of_lost_inner : Resource → ℕ
cost_of_lost_inner r = weight r fork_fails 0 0
