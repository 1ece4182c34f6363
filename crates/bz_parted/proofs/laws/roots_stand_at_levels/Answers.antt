use Rattle.bz_parted.proofs.Proved as proved
use Rattle.bz_parted.proofs.laws.roots_stand_at_levels.Goals as goal

pub returns : goal.returns
returns c = proved.roots_stand_at_levels
