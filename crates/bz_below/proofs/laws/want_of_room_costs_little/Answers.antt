use Rattle.bz_below.proofs.Proved as proved
use Rattle.bz_below.proofs.laws.want_of_room_costs_little.Goals as goal

pub returns : goal.returns
returns c = proved.want_of_room_costs_little
