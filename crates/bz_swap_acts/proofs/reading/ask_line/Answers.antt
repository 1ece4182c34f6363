use Rattle.std.proofs.Common.{◌≡◌, ◌*◌, ◌/◌, arith, refl}
use Rattle.bz_swap_acts.proofs.reading.ask_line.Goals as goal

pub returns : goal.returns
returns c =
    let same : c.args.line * 8 / 8 ≡ c.args.line = omega arith in
    record {
      local = λ b. refl;
      done = λ b. refl;
      memory = λ b. c.ask_word.ensures.changed b;
      flush = c.ask_word.ensures.flush;
      told = rw same at c.ask_word.ensures.told;
      writes = rw same at c.ask_word.ensures.told;
      made = c.ask_word.ensures.made;
    }
