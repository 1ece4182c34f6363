use Rattle.std.proofs.Common.{refl}
use Rattle.bz_swap_acts.proofs.values.ask_final.Goals as goal

pub returns : goal.returns
returns c = λ s. record {
  memory = λ b. rw c.aim_of-aim.ensures.target at c.ask_word.ensures.changed b;
  next = λ b. refl;
  flush = c.ask_word.ensures.flush;
  writes = (_, c.ask_word.ensures.told);
  made = c.ask_word.ensures.made;
}
