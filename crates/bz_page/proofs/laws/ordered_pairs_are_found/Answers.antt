use Rattle.bz_page.proofs.Proved as proved
use Rattle.bz_page.proofs.laws.ordered_pairs_are_found.Goals as goal

pub returns : goal.returns
returns c = proved.ordered_pairs_are_found
