use Rattle.bz_undisturbed.proofs.Proved as proved
use Rattle.bz_undisturbed.proofs.laws.effects_never_fall.Goals as goal

pub returns : goal.returns
returns c = proved.effects_never_fall
