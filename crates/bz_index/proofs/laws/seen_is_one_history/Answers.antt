use Rattle.bz_index.proofs.Proved as proved
use Rattle.bz_index.proofs.laws.seen_is_one_history.Goals as goal

pub returns : goal.returns
returns c = proved.seen_is_one_history
