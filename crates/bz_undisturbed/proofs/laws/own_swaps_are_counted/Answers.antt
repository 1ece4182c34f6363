use Rattle.bz_undisturbed.proofs.Proved as proved
use Rattle.bz_undisturbed.proofs.laws.own_swaps_are_counted.Goals as goal

pub returns : goal.returns
returns c = proved.own_swaps_are_counted
