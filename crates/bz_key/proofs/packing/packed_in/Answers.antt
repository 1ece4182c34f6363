use Rattle.std.proofs.Common.{arith}
use Rattle.bz_key.proofs.Packings.{other_count}
use Rattle.bz_key.proofs.packing.packed_in.Goals as goal

pub returns-then-words-word_count : goal.returns-then-words-word_count
returns-then-words-word_count c = other_count c.args.len c.args.words.now (grind arith)
