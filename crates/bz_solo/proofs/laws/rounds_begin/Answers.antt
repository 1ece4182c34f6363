use Rattle.bz_solo.proofs.Proved as proved
use Rattle.bz_solo.proofs.laws.rounds_begin.Goals as goal

pub returns : goal.returns
returns c = proved.rounds_begin
