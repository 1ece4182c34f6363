use Rattle.bz_rounds.proofs.Proved as proved
use Rattle.bz_rounds.proofs.laws.undisturbed_swaps_leave.Goals as goal

pub returns : goal.returns
returns c = proved.undisturbed_swaps_leave
