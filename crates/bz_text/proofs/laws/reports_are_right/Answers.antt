use Rattle.bz_text.proofs.Proved as proved
use Rattle.bz_text.proofs.laws.reports_are_right.Goals as goal

pub returns : goal.returns
returns c = proved.reports_are_right
