use Rattle.bz_ring.proofs.Growing.{sound_journals_grow}
use Rattle.bz_ring.proofs.laws.sound_journals_grow.Goals as goal

pub returns : goal.returns
returns c = sound_journals_grow
