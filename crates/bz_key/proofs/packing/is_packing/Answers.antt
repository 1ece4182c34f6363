use Rattle.std.proofs.Common.{arith}
use Rattle.std.proofs.lemmas.Grind.{common_steps}
use Rattle.bz_key.proofs.Packings.{other_length, other_word, same_words}
use Rattle.bz_key.proofs.packing.is_packing.Goals as goal

pub returns-then-words-word_count : goal.returns-then-words-word_count
returns-then-words-word_count c = other_length c.args.bytes.now c.args.words.now (grind arith)

pub returns-then-words-i : goal.returns-then-words-i
returns-then-words-i c = other_word c.args.bytes.now c.args.words.now c.loop-i.i (omega arith) (grind (arith, common_steps))

pub returns : goal.returns
returns c = same_words c.args.bytes.now c.args.words.now c.loop-i.invariant.0 (λ k h. c.loop-i.invariant.1 k (omega arith))
