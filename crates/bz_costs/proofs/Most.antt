-- No stage costs more than a stretch, and no task more than the rest of a round.
use Rattle.std.proofs.Common.{ℕ, zero, suc, ◌+◌, ◌≤◌, Bool, true, false, arith}
use Rattle.std.specs.Prelude.{min}
use Rattle.bz_costs.specs.Resources.{Resource, Marks}
use Rattle.bz_costs.proofs.Least.{weigh-little}
use Rattle.bz_costs.proofs.Stages.{rise, rise-from}
use Rattle.bz_costs.specs.Costs.{StretchesAreTheMost}
use Rattle.bz_costs.specs.Solo.{rest_of_round}
use Rattle.bz_costs.specs.Most.{most_of, most_of_freeze}
use Rattle.bz_costs.specs.Stretches.{cost_of_view, cost_once_viewed, cost_once_found, cost_from, top_stage, cost_viewed_at, cost_found_at, cost_at, solo_stretch}
use Rattle.bz_any_task.specs.declared.running.AnyTask.{AnyTask}
use Rattle.bz_any_task.specs.declared.running.AnyTask.TheVariants.{Seeking}

-- what is still to come pays for the rest of the round
rest : (r : Resource) (frozen : Bool) (stage : ℕ) → cost_once_viewed r 0 ≤ cost_viewed_at r frozen stage
rest r true stage = rise r 0 (min stage top_stage) (omega arith)
rest r false zero = omega arith
rest r false (suc stage) = omega (arith, rise r 0 (min stage top_stage) (omega arith))

rest-found : (r : Resource) (frozen : Bool) (stage : ℕ) → cost_once_found r 0 ≤ cost_found_at r frozen stage
rest-found r frozen stage = omega (arith, rest r frozen stage)

-- and a stretch for what comes from a round on
within : (r : Resource) (frozen : Bool) (stage top : ℕ) → cost_viewed_at r frozen stage ≤ most_of_freeze r + cost_from r top → cost_at r frozen stage ≤ cost_of_view r + most_of_freeze r + cost_from r top
within r frozen stage top l = omega (arith, l)

viewed-from : (r : Resource) (low high : ℕ) → low ≤ high → cost_once_viewed r low ≤ most_of_freeze r + cost_from r high
viewed-from r low high l = omega (arith, rise r low high l)

behind : (r : Resource) (low high : ℕ) → low ≤ high → most_of_freeze r + cost_from r low ≤ most_of_freeze r + cost_from r high
behind r low high l = omega (arith, rise-from r low high l)

few : (r : Resource) (frozen : Bool) (stage : ℕ) → cost_at r frozen stage ≤ solo_stretch r
few r true stage = within r true stage top_stage (viewed-from r (min stage top_stage) top_stage (omega arith))
few r false zero = within r false zero top_stage (viewed-from r 0 top_stage (omega arith))
few r false (suc stage) = within r false (suc stage) top_stage (behind r (min stage top_stage) top_stage (omega arith))

-- the greatest weight of each task fits
fits : (r : Resource) (t : AnyTask) → most_of r t ≤ rest_of_round r
fits Marks (Seeking t) = omega arith
fits Marks t = omega arith
fits r (Seeking t) = omega arith
fits r t = omega arith

both : (a b c : ℕ) → a ≤ b → b ≤ c → a ≤ c
both a b c l m = omega (arith, l, m)

pub the-most : (r : Resource) → StretchesAreTheMost r
the-most r = record { stage = few r; task = λ t w. both _ _ _ (weigh-little r t w) (fits r t); viewed = rest r; found = rest-found r }
