use Rattle.bz_sound.proofs.Memory.Changed.{same-content}
use Rattle.bz_sound.proofs.memory_laws.same_content_decodes.Goals as goal

pub returns : goal.returns
returns c = same-content
