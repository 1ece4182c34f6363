use Rattle.std.proofs.Common.{refl, rules}
use Rattle.bz_swap_acts.proofs.Found.{made-by}
use Rattle.bz_swap_acts.proofs.reading.clear_read.Goals as goal

pub returns : goal.returns
returns c = λ w. record {
  local = λ b. refl;
  done = λ b. refl;
  memory = λ b. search rules;
  flush = c.clear_value.ensures.flush;
  told = tt;
  writes = c.clear_value.ensures.writes;
  made = made-by _ _ _ w c.clear_value.ensures.made;
}
