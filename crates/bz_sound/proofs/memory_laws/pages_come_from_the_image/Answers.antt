use Rattle.bz_sound.proofs.Memory.ReadPages.{image-pages}
use Rattle.bz_sound.proofs.memory_laws.pages_come_from_the_image.Goals as goal

pub returns : goal.returns
returns c = image-pages
