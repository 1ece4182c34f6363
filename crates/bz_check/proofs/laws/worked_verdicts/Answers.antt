use Rattle.bz_check.proofs.ExampleProofs as proved
use Rattle.bz_check.proofs.laws.worked_verdicts.Goals as goal

pub returns : goal.returns
returns c = proved.worked_verdicts
