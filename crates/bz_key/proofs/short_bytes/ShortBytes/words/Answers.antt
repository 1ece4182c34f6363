use Rattle.std.proofs.Common.{sym, ◌∙◌}
use Rattle.bz_key.proofs.PackingLaws.{length-packed}
use Rattle.bz_key.proofs.short_bytes.ShortBytes.words.Goals as goal

pub returns : goal.returns
returns c = c.word_count.ensures ∙ rw c.as_slice.ensures.same (sym (length-packed c.args.self.now))
