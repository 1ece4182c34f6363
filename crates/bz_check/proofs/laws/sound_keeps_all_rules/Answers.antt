use Rattle.bz_check.proofs.LawProofs as proved
use Rattle.bz_check.proofs.laws.sound_keeps_all_rules.Goals as goal

pub returns : goal.returns
returns c = proved.sound_keeps_all_rules
