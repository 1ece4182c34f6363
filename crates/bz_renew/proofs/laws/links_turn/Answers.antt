use Rattle.bz_renew.proofs.Proved as proved
use Rattle.bz_renew.proofs.laws.links_turn.Goals as goal

pub returns : goal.returns
returns c = record { asked = proved.links_may_be_turned; root = proved.root_links_turn; child = proved.child_links_turn }
