use Rattle.bz_rivals.proofs.Proved as proved
use Rattle.bz_rivals.proofs.laws.notes_are_of_begun.Goals as goal

pub returns : goal.returns
returns c = proved.notes_are_of_begun
