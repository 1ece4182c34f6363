use Rattle.bz_tree.proofs.Proved as proved
use Rattle.bz_tree.proofs.laws.consolidations_keep_the_content.Goals as goal

pub returns : goal.returns
returns c = proved.consolidations_keep_the_content
