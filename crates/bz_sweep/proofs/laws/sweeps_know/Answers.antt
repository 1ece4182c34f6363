use Rattle.bz_sweep.proofs.Proved as proved
use Rattle.bz_sweep.proofs.laws.sweeps_know.Goals as goal

pub returns : goal.returns
returns c = proved.sweeps_know
