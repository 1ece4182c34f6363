use Rattle.bz_swap_cells.specs.Store.{typed}
use Rattle.bz_swap_acts.proofs.Found.{made-by}
use Rattle.bz_swap_acts.proofs.reading.store_word.Goals as goal

pub returns : goal.returns
returns c = λ w. record {
  local = λ b. c.answer.ensures.local (typed c.args.cells.now b);
  done = λ b. c.answer.ensures.done;
  memory = λ b. c.store_value.ensures.changed b;
  flush = c.store_value.ensures.flush;
  told = c.store_value.ensures.told;
  writes = c.store_value.ensures.told;
  made = made-by _ _ _ w c.store_value.ensures.made;
}
