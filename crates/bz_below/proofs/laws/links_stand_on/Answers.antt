use Rattle.bz_below.proofs.Proved as proved
use Rattle.bz_below.proofs.laws.links_stand_on.Goals as goal

pub returns : goal.returns
returns c = record { stand = proved.links_stand_on; leave = proved.links_leave_their_nodes }
