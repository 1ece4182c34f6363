use Rattle.bz_sound.proofs.Proved as proved
use Rattle.bz_sound.proofs.power_laws.page_ends_follow.Goals as goal

pub returns : goal.returns
returns c = proved.page_ends_follow
