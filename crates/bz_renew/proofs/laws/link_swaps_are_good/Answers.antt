use Rattle.bz_renew.proofs.Proved as proved
use Rattle.bz_renew.proofs.laws.link_swaps_are_good.Goals as goal

pub returns : goal.returns
returns c = proved.link_swaps_are_good
