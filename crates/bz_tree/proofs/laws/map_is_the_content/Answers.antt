use Rattle.bz_tree.proofs.Proved as proved
use Rattle.bz_tree.proofs.laws.map_is_the_content.Goals as goal

pub returns : goal.returns
returns c = proved.map_is_the_content
