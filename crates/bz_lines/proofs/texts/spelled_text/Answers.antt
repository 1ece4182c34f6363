use Rattle.bz_lines.proofs.Plain.{front_utf8}
use Rattle.bz_lines.proofs.texts.spelled_text.Goals as goal

pub text-requires : goal.text-requires
text-requires c = front_utf8 _ _ _ _ c.spell-count.ensures.len c.spell-count.ensures.text c.requires.bytes
