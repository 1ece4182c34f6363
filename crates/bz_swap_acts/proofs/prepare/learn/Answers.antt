use Rattle.std.proofs.Common.{refl, sym}
use Rattle.bz_swap_cells.specs.Store.{typed}
use Rattle.bz_swap_acts.proofs.Found.{made-by}
use Rattle.bz_swap_acts.proofs.prepare.learn.Goals as goal

pub returns : goal.returns
returns c = λ w. record {
  local = λ b. c.learn.ensures (typed c.args.cells.now b) (sym c.load_field-word.ensures.found);
  done = λ b. refl;
  memory = λ b. refl;
  flush = c.load_field-word.ensures.flush;
  told = tt;
  writes = c.load_field-word.ensures.writes;
  made = made-by _ _ _ w c.load_field-word.ensures.made;
}
