use Rattle.bz_tree.proofs.Proved as proved
use Rattle.bz_tree.proofs.laws.trees_have_forms.Goals as goal

pub returns : goal.returns
returns c = proved.trees_have_forms
