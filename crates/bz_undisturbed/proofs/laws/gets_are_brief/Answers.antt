use Rattle.bz_undisturbed.proofs.Proved as proved
use Rattle.bz_undisturbed.proofs.laws.gets_are_brief.Goals as goal

pub returns : goal.returns
returns c = proved.gets_are_brief
