use Rattle.bz_joined.proofs.Proved as proved
use Rattle.bz_joined.proofs.laws.undisturbed_merges_do_not_lack_room.Goals as goal

pub returns : goal.returns
returns c = proved.undisturbed_merges_do_not_lack_room
