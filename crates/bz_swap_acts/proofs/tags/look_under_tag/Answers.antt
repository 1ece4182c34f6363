use Rattle.std.proofs.Common.{refl, ap}
use Rattle.bz_swap_machine.specs.declared.place.HelpStep.{HelpStep}
use Rattle.bz_swap_machine.specs.declared.place.Next.TheVariants.{Step}
use Rattle.bz_swap_acts.proofs.Found.{made-by}
use Rattle.bz_swap_acts.proofs.tags.look_under_tag.Goals as goal

pub returns : goal.returns
returns c = λ x w. record {
  memory = λ b. refl;
  next = λ b. ap (λ (step : HelpStep). Step step) (rw c.load_status-found.ensures.found at c.after_look_under.ensures);
  flush = c.load_status-found.ensures.flush;
  writes = c.load_status-found.ensures.writes;
  made = made-by _ _ _ w c.load_status-found.ensures.made;
}
