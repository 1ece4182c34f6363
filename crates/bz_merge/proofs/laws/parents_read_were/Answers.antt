use Rattle.bz_merge.proofs.Proved as proved
use Rattle.bz_merge.proofs.laws.parents_read_were.Goals as goal

pub returns-clause-read : goal.returns-clause-read
returns-clause-read c = proved.parents_read_were

pub returns-clause-stand : goal.returns-clause-stand
returns-clause-stand c = proved.children_stand
