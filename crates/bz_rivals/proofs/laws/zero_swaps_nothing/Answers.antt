use Rattle.bz_rivals.proofs.Proved as proved
use Rattle.bz_rivals.proofs.laws.zero_swaps_nothing.Goals as goal

pub returns : goal.returns
returns c = proved.zero_swaps_nothing
