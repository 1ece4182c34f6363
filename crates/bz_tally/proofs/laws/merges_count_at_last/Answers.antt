use Rattle.bz_tally.proofs.Proved as proved
use Rattle.bz_tally.proofs.laws.merges_count_at_last.Goals as goal

pub returns : goal.returns
returns c = proved.merges_count_at_last
