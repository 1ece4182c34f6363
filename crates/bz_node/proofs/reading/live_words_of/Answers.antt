use Rattle.std.proofs.Common.{◌<◌, arith, ap}
use Rattle.bz_node.specs.Reading.{count_in, words_shown}
use Rattle.bz_node.proofs.ReadWords.{live_more}
use Rattle.bz_node.proofs.reading.live_words_of.Goals as goal

pub loop-i-preserved : goal.loop-i-preserved
loop-i-preserved c =
    let below : c.loop-i.i < count_in c.args.words.now = omega (arith, c.count_of-i-end.ensures.count) in
    let more = live_more c.args.words.now c.loop-i.i c.requires.whole c.requires.readable.room below in
    let here = ap words_shown c.meta_of.ensures.says in
    record { live = omega (arith, more, here, c.extent_words-live.ensures.words); small = omega (arith, c.extent_words-live.ensures.small) }
