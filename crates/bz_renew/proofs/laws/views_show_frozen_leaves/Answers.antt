use Rattle.bz_renew.proofs.Proved as proved
use Rattle.bz_renew.proofs.laws.views_show_frozen_leaves.Goals as goal

pub returns : goal.returns
returns c = proved.views_show_frozen_leaves
