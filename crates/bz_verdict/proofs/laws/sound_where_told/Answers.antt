use Rattle.bz_verdict.proofs.LawProofs as proved
use Rattle.bz_verdict.proofs.laws.sound_where_told.Goals as goal

pub returns : goal.returns
returns c = proved.sound_where_told
