use Rattle.std.proofs.Common.{arith}
use Rattle.bz_key.proofs.PackingLaws.{length-packed}
use Rattle.bz_node.proofs.writing.key_words.Goals as goal

pub returns-clause-fits : goal.returns-clause-fits
returns-clause-fits c = omega (arith, length-packed)
