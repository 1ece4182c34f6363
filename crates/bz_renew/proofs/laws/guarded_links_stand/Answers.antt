use Rattle.bz_renew.proofs.Proved as proved
use Rattle.bz_renew.proofs.laws.guarded_links_stand.Goals as goal

pub returns : goal.returns
returns c = proved.guarded_links_stand
