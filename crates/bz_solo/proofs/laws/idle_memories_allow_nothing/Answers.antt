use Rattle.bz_solo.proofs.Proved as proved
use Rattle.bz_solo.proofs.laws.idle_memories_allow_nothing.Goals as goal

pub returns : goal.returns
returns c = proved.idle_memories_allow_nothing
