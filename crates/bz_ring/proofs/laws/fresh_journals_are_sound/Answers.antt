use Rattle.bz_ring.proofs.Growing.{fresh_journals_are_sound}
use Rattle.bz_ring.proofs.laws.fresh_journals_are_sound.Goals as goal

pub returns : goal.returns
returns c = fresh_journals_are_sound
