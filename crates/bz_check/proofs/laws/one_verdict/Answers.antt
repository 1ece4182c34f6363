use Rattle.bz_check.proofs.LawProofs as proved
use Rattle.bz_check.proofs.laws.one_verdict.Goals as goal

pub returns : goal.returns
returns c = proved.one_verdict
