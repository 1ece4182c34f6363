use Rattle.bz_undisturbed.proofs.Proved as proved
use Rattle.bz_undisturbed.proofs.laws.brief_look_ups_go_on.Goals as goal

pub returns : goal.returns
returns c = proved.brief_look_ups_go_on
