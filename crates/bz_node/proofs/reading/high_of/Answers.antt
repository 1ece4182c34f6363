use Rattle.std.proofs.Common.{arith, ◌∙◌}
use Rattle.bz_node.proofs.Unpacked.{high_none, high_read, high_short}
use Rattle.bz_node.proofs.reading.high_of.Goals as goal

pub returns-then-len-eq0 : goal.returns-then-len-eq0
returns-then-len-eq0 c = high_none c.args.words.now c.high_len_of-len.result c.high_len_of-len.ensures c.if-len-eq0.true

pub words_for-requires : goal.words_for-requires
words_for-requires c = omega (arith, high_short c.args.words.now c.high_len_of-len.result c.requires.fence c.high_len_of-len.ensures c.if-len-eq0.false)

pub slice_bounds-from_words-end : goal.slice_bounds-from_words-end
slice_bounds-from_words-end c =
    omega (arith, c.words_for.ensures.words, c.requires.whole, high_short c.args.words.now c.high_len_of-len.result c.requires.fence c.high_len_of-len.ensures c.if-len-eq0.false)

pub returns : goal.returns
returns c =
    rw (c.words_for.ensures.words, c.high_len_of-len.ensures) at c.from_words.ensures
    ∙ high_read c.args.words.now c.high_len_of-len.result c.requires.fence c.high_len_of-len.ensures c.if-len-eq0.false
