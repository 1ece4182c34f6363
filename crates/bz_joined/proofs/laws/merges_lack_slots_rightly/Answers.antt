use Rattle.bz_joined.proofs.Proved as proved
use Rattle.bz_joined.proofs.laws.merges_lack_slots_rightly.Goals as goal

pub returns : goal.returns
returns c = proved.merges_lack_slots_rightly
