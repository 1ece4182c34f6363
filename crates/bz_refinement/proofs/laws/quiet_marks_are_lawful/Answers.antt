use Rattle.bz_refinement.proofs.Proved as proved
use Rattle.bz_refinement.proofs.laws.quiet_marks_are_lawful.Goals as goal

pub returns : goal.returns
returns c = proved.quiet_marks_are_lawful
