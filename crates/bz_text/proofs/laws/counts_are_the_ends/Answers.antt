use Rattle.bz_text.proofs.Proved as proved
use Rattle.bz_text.proofs.laws.counts_are_the_ends.Goals as goal

pub returns : goal.returns
returns c = proved.counts_are_the_ends
