-- How many swaps a split below a parent still asks for, and that none takes effect where none was asked for.
use Rattle.std.proofs.Common.{◌≡◌, ◌+◌, ◌≤◌, arith}
use Rattle.bz_layout.specs.declared.config.Config.{Config}
use Rattle.bz_task.specs.Requests.{Hears, swaps_in, effects_in}
use Rattle.bz_task.specs.declared.todo.Seen.{Seen}
use Rattle.bz_writer.proofs.Sizes.{heard-effects}
use Rattle.bz_below.specs.Facts.{Below, below_asks, below_swaps}
use Rattle.bz_below.specs.declared.phase.BelowPhase.{BelowPhase}
use Rattle.bz_below.specs.declared.phase.BelowPhase.TheVariants.{Done}

swaps-few : (p : BelowPhase) → below_swaps p ≤ 1
swaps-few Done = omega arith
swaps-few p = omega arith

-- after an act that is no swap no more swaps are asked for than before it, and none took effect
pub record Counts (c : Config) (r : Below) (o p : BelowPhase) (seen : Seen) : Type 0 where
  pub fewer : below_swaps p + swaps_in (below_asks c r o) ≤ below_swaps o
  pub counted : effects_in seen ≡ 0

pub counts : (c : Config) (r : Below) (o p : BelowPhase) (seen : Seen) → below_swaps o ≡ 1 → swaps_in (below_asks c r o) ≡ 0 → Hears (below_asks c r o) seen → Counts c r o p seen
counts c r o p seen one none h = record { fewer = omega (arith, swaps-few p, one, none); counted = omega (arith, heard-effects (below_asks c r o) seen h, none) }
