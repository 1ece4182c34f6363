use Rattle.bz_sight.proofs.Proved as proved
use Rattle.bz_sight.proofs.laws.flushing_steps_flush.Goals as goal

pub returns : goal.returns
returns c = proved.flushing_steps_flush
