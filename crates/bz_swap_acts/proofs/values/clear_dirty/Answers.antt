use Rattle.std.proofs.Common.{refl}
use Rattle.bz_swap_acts.proofs.Found.{made-by}
use Rattle.bz_swap_acts.proofs.values.clear_dirty.Goals as goal

pub returns : goal.returns
returns c = λ w s. record {
  memory = λ b. rw (← c.aim_of-aim.ensures.target) (c.clear_value.ensures.memory b);
  next = λ b. refl;
  flush = c.clear_value.ensures.flush;
  writes = c.clear_value.ensures.writes;
  made = made-by _ _ _ w c.clear_value.ensures.made;
}
