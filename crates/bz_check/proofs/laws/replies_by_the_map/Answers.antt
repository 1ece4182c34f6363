use Rattle.bz_check.proofs.PlainLaws as proved
use Rattle.bz_check.proofs.laws.replies_by_the_map.Goals as goal

pub returns : goal.returns
returns c = proved.replies_by_the_map
