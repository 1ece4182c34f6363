use Rattle.bz_sound.proofs.Proved as proved
use Rattle.bz_sound.proofs.power_laws.answers_come_from_the_image.Goals as goal

pub returns : goal.returns
returns c = proved.answers_come_from_the_image
