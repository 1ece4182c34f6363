use Rattle.bz_rivals.proofs.Proved as proved
use Rattle.bz_rivals.proofs.laws.whole_swaps_win.Goals as goal

pub returns : goal.returns
returns c = proved.whole_swaps_win
