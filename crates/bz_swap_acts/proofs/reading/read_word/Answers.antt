use Rattle.std.proofs.Common.{rules}
use Rattle.bz_swap_cells.specs.Store.{typed}
use Rattle.bz_swap_acts.proofs.Found.{made-by}
use Rattle.bz_swap_acts.proofs.reading.read_word.Goals as goal

pub returns : goal.returns
returns c = λ w. record {
  local = λ b. rw (← c.load_word-found.ensures.found) (c.after_read.ensures.local (typed c.args.cells.now b));
  done = λ b. rw (← c.load_word-found.ensures.found) (c.after_read.ensures.done (typed c.args.cells.now b));
  memory = λ b. search rules;
  flush = c.load_word-found.ensures.flush;
  told = (_, c.load_word-found.ensures.told);
  writes = c.load_word-found.ensures.writes;
  made = made-by _ _ _ w c.load_word-found.ensures.made;
}
