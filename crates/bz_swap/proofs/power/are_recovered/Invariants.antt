use Rattle.std.specs.Prelude.{ℕ, ◌-◌, ◌<◌, length}
use Rattle.bz_swap.proofs.Recovered.{IsRecoveredAt}
use Rattle.bz_swap.proofs.power.are_recovered.Given as goal

-- each word so far needs no recovery
abbrev pub invariant-loop-a : goal.invariant-loop-a
invariant-loop-a l = (b : ℕ) → b < l.a → IsRecoveredAt l.swaps l.words b

abbrev pub decreases-loop-a : goal.decreases-loop-a
decreases-loop-a l = length l.words - l.a
