-- How many swaps the split of an inner root still asks for, and that none takes effect where none was asked for.
use Rattle.std.proofs.Common.{◌≡◌, ◌+◌, ◌≤◌, arith}
use Rattle.bz_layout.specs.declared.config.Config.{Config}
use Rattle.bz_task.specs.Requests.{Hears, swaps_in, effects_in}
use Rattle.bz_task.specs.declared.todo.Seen.{Seen}
use Rattle.bz_crown.specs.Facts.{Crown, crown_asks, crown_swaps}
use Rattle.bz_crown.specs.declared.phase.CrownPhase.{CrownPhase}
use Rattle.bz_crown.specs.declared.phase.CrownPhase.TheVariants.{Writing}
use Rattle.bz_writer.proofs.Sizes.{heard-effects, swaps-few as writer-few}

swaps-few : (p : CrownPhase) → crown_swaps p ≤ 1
swaps-few (Writing w) = writer-few w
swaps-few p = omega arith

-- after an act that is no swap no more swaps are asked for than before it, and none took effect
pub record Counts (c : Config) (r : Crown) (o p : CrownPhase) (seen : Seen) : Type 0 where
  pub fewer : crown_swaps p + swaps_in (crown_asks c r o) ≤ crown_swaps o
  pub counted : effects_in seen ≡ 0

pub counts : (c : Config) (r : Crown) (o p : CrownPhase) (seen : Seen) → crown_swaps o ≡ 1 → swaps_in (crown_asks c r o) ≡ 0 → Hears (crown_asks c r o) seen → Counts c r o p seen
counts c r o p seen one none h = record { fewer = omega (arith, swaps-few p, one, none); counted = omega (arith, heard-effects (crown_asks c r o) seen h, none) }
