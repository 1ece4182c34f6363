use Rattle.bz_undisturbed.proofs.Proved as proved
use Rattle.bz_undisturbed.proofs.laws.look_ups_are_brief.Goals as goal

pub returns : goal.returns
returns c = proved.look_ups_are_brief
