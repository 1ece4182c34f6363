use Rattle.bz_rivals.proofs.Proved as proved
use Rattle.bz_rivals.proofs.laws.solo_effects_are_few.Goals as goal

pub returns : goal.returns
returns c = proved.solo_effects_are_few
