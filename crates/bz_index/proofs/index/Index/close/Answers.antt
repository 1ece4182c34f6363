use Rattle.std.proofs.Common.{sym}
use Rattle.bz_index.proofs.Lists.{log-told}
use Rattle.bz_index.proofs.Rests.{all_free}
use Rattle.bz_index.proofs.index.Index.close.Goals as goal

pub close-shared-requires-clause-pass : goal.close-shared-requires-clause-pass
close-shared-requires-clause-pass c = (c.requires.pass.0.placed.pass, c.requires.pass.1)

pub close-shared-requires-clause-free : goal.close-shared-requires-clause-free
close-shared-requires-clause-free c = all_free _ _ _ (c.requires.pass.0.first c.requires.pass.1) c.requires.free

pub returns-clause-log : goal.returns-clause-log
returns-clause-log c = sym (log-told _ _ c.close-shared.result.world (record { stays = c.close-shared.ensures.0; told = c.close-shared.ensures.1; sound = c.shows_sound.ensures.sound; brief = c.shows_sound.ensures.brief }))
