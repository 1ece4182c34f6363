use Rattle.bz_costs.proofs.Proved as proved
use Rattle.bz_costs.proofs.laws.asked_swaps_are_counted.Goals as goal

pub returns : goal.returns
returns c = proved.asked_swaps_are_counted
