use Rattle.bz_sight.proofs.Proved as proved
use Rattle.bz_sight.proofs.laws.storing_steps_store.Goals as goal

pub returns : goal.returns
returns c = proved.storing_steps_store
