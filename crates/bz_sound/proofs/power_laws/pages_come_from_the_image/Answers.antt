use Rattle.bz_sound.proofs.Proved as proved
use Rattle.bz_sound.proofs.power_laws.pages_come_from_the_image.Goals as goal

pub returns : goal.returns
returns c = proved.pages_come_from_the_image
