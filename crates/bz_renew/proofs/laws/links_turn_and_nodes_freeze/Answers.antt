use Rattle.bz_renew.proofs.Proved as proved
use Rattle.bz_renew.proofs.laws.links_turn_and_nodes_freeze.Goals as goal

pub returns : goal.returns
returns c = record { root = proved.root_links_turn_with; child = proved.child_links_turn_with }
