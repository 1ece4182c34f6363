use Rattle.std.proofs.Common.{refl}
use Rattle.bz_text.proofs.SumLemmas.{counted-none, keys-first}
use Rattle.bz_text.proofs.summing.sum_up.Goals as goal

pub loop-moment-init : goal.loop-moment-init
loop-moment-init c = record {
  counted = counted-none c.args.journal.now.past _ _ refl c.count_none-counts.ensures;
  keys = λ config image. keys-first _ c.args.journal.now.past _ ((rw c.start.ensures at c.in_ok-keys.ensures) config image);
}
