use Rattle.bz_text.proofs.Proved as proved
use Rattle.bz_text.proofs.laws.each_count_is_right.Goals as goal

pub returns : goal.returns
returns c = proved.each_count_is_right
