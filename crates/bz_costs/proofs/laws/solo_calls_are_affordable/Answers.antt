use Rattle.bz_costs.proofs.Proved as proved
use Rattle.bz_costs.proofs.laws.solo_calls_are_affordable.Goals as goal

pub returns : goal.returns
returns c = proved.solo_calls_are_affordable
