use Rattle.std.proofs.Common.{sym, ◌∙◌, ◌*◌}
use Rattle.bz_key.proofs.PackingLaws.{length-packed, get_or-packed, packed_word-small}
use Rattle.bz_key.proofs.short_bytes.ShortBytes.word.Goals as goal

pub word_of-requires-clause-within : goal.word_of-requires-clause-within
word_of-requires-clause-within c = rw (c.as_slice.ensures.same, ← length-packed c.args.self.now) c.requires

pub returns-clause-word : goal.returns-clause-word
returns-clause-word c =
    let within = rw length-packed at c.requires in
    rw c.as_slice.ensures.same at c.word_of.ensures ∙ sym (get_or-packed c.args.self.now c.args.i within)

pub returns-clause-small : goal.returns-clause-small
returns-clause-small c =
    rw (c.word_of.ensures, c.as_slice.ensures.same) (packed_word-small c.args.self.now c.as_slice.ensures.bytes (7 * c.args.i))
