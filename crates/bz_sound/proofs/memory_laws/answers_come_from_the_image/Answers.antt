use Rattle.bz_sound.proofs.Memory.Reads.{image-answers}
use Rattle.bz_sound.proofs.memory_laws.answers_come_from_the_image.Goals as goal

pub returns : goal.returns
returns c = image-answers
