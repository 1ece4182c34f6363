use Rattle.bz_key.proofs.Proved as proved
use Rattle.bz_key.proofs.laws.packing_is_small.Goals as goal

pub returns : goal.returns
returns c = proved.packing_is_small
