use Rattle.bz_swap_cells.specs.Store.{typed}
use Rattle.bz_swap_acts.proofs.Found.{made-by}
use Rattle.bz_swap_acts.proofs.Exchanges.{decided}
use Rattle.bz_swap_acts.proofs.verdicts.decide.Goals as goal

pub returns : goal.returns
returns c = λ x w. record {
  memory = λ b. rw (← c.cas_status-found.ensures.found) (decided _ _ b c.args.swap c.args.verdict c.cas_status-found.result.status c.cas_status-found.ensures.changed c.cas_status-found.ensures.unchanged);
  next = λ b. rw (← c.cas_status-found.ensures.found) (c.after_decide.ensures (typed c.args.cells.now b) c.args.swap);
  flush = c.cas_status-found.ensures.flush;
  writes = (_, c.cas_status-found.ensures.told);
  made = made-by _ _ _ w c.cas_status-found.ensures.made;
}
