use Rattle.bz_sound.proofs.Proved as proved
use Rattle.bz_sound.proofs.power_laws.same_content_decodes.Goals as goal

pub returns : goal.returns
returns c = proved.same_content_decodes
