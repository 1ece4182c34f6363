use Rattle.bz_verdict.proofs.LawProofs as proved
use Rattle.bz_verdict.proofs.laws.one_verdict.Goals as goal

pub returns : goal.returns
returns c = proved.one_verdict
