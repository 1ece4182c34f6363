-- The worked run, by computation.
use Rattle.std.proofs.Common.{refl, arith}
use Rattle.bz_swap_machine.specs.Examples.{WorkedSoloSwap}
use Rattle.bz_swap_machine.proofs.Lasting.{lasts-alone}

pub worked_solo_swap : WorkedSoloSwap
worked_solo_swap = record {
  renewable = record { plain = λ a. tt; same = λ a. refl; free = λ s. refl; durable_free = λ s. refl; words = λ a. record { since = omega arith; none = λ w. refl }; statuses = λ s. record { since = omega arith; none = λ w. refl }; fields = λ s k. record { since = omega arith; none = λ w. refl } };
  may = ((refl, record { some = omega arith; few = omega arith; apart = λ i lt. omega arith; told = λ i lt. refl; flushed = λ a y h named may. lasts-alone 0 _ _ _ (record { since = omega arith; none = λ v. refl }) may; not_stored = λ w a v h. absurd (grind (arith, h)) }), tt);
  before = refl;
  effect = refl;
  after = refl;
  answer = refl;
  word = refl;
}
