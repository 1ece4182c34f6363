use Rattle.bz_undisturbed.proofs.Proved as proved
use Rattle.bz_undisturbed.proofs.laws.paths_read_few.Goals as goal

pub returns : goal.returns
returns c = proved.paths_read_few
