use Rattle.std.proofs.Common.{◌≢◌, sym, ◌∙◌}
use Rattle.bz_node.specs.Reading.{key_part}
use Rattle.bz_node.proofs.Unpacked.{unpacked_key-some, low_in-some}
use Rattle.bz_node.proofs.reading.low_of.Goals as goal

pub returns : goal.returns
returns c =
    let e = c.args.extent in
    let other : e.key ≢ 0 = c.if-extent-eq0.false in
    let same = rw c.words_for.ensures.words at c.from_words.ensures in
    same ∙ unpacked_key-some e.key (key_part c.args.words.now e) (c.requires.child.key other) ∙ sym (low_in-some c.args.words.now e other)
