use Rattle.bz_record.proofs.Proved as proved
use Rattle.bz_record.proofs.laws.views_show_leaves.Goals as goal

pub returns : goal.returns
returns c = proved.views_show_leaves
