use Rattle.std.proofs.Common.{ap}
use Rattle.bz_swap_machine.specs.declared.place.HelpStep.{HelpStep}
use Rattle.bz_swap_machine.specs.declared.place.Next.TheVariants.{Step}
use Rattle.bz_swap_acts.proofs.values.ask_target.Goals as goal

pub returns : goal.returns
returns c = λ s. record {
  memory = λ b. rw c.aim_of-aim.ensures.target at c.ask_word.ensures.changed b;
  next = λ b. ap (λ (step : HelpStep). Step step) (rw c.aim_of-aim.ensures.count at c.after_ask_target.ensures);
  flush = c.ask_word.ensures.flush;
  writes = (_, c.ask_word.ensures.told);
  made = c.ask_word.ensures.made;
}
