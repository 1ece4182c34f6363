use Rattle.bz_swap_cells.specs.Store.{typed}
use Rattle.bz_swap_acts.proofs.reading.fence_line.Goals as goal

pub returns : goal.returns
returns c = record {
  local = λ b. c.answer.ensures.local (typed c.args.cells.now b);
  done = λ b. c.answer.ensures.done;
  memory = λ b. c.fence.ensures.changed b;
  flush = c.fence.ensures.flush;
  told = c.fence.ensures.told;
  writes = c.fence.ensures.told;
  made = c.fence.ensures.made;
}
