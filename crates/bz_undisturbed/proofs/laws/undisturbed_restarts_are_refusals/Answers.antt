use Rattle.bz_undisturbed.proofs.Proved as proved
use Rattle.bz_undisturbed.proofs.laws.undisturbed_restarts_are_refusals.Goals as goal

pub returns : goal.returns
returns c = proved.undisturbed_restarts_are_refusals
