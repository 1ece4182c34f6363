use Rattle.std.proofs.Common.{arith}
use Rattle.bz_descend.specs.Inners.{most_records}
use Rattle.bz_search.proofs.Digits.{digits-few}
use Rattle.bz_descend.proofs.seek.Seek.asks_for.Goals as goal

pub overflow_add-self : goal.overflow_add-self
overflow_add-self c = omega (arith, c.requires.few, digits-few most_records)
