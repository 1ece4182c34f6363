-- The two inequalities that the values of the constants decide: what a call costs that steps alone, and what is promised for it.
use Rattle.std.proofs.Common.{arith}
use Rattle.bz_search.specs.Digits.{digits_in}
use Rattle.bz_costs.specs.Resources.{Resource, Marks}
use Rattle.bz_costs.specs.Costs.{SoloCallsAreAffordable, WholeCallsAreAffordable}

pub affordable : SoloCallsAreAffordable
unfolding digits_in
affordable c k = omega (arith, k.workers_in_range.at_least, k.workers_in_range.at_most)

pub whole-affordable : (r : Resource) → WholeCallsAreAffordable r
unfolding digits_in
whole-affordable Marks = omega arith
whole-affordable r = omega arith
