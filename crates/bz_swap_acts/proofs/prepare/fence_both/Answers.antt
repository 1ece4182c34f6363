use Rattle.std.proofs.Common.{true, refl}
use Rattle.bz_swap_machine.specs.Changes.{put}
use Rattle.bz_swap_acts.proofs.prepare.fence_both.Goals as goal

-- the swap is told as published beside the words that are durable
pub returns : goal.returns
returns c = record {
  local = λ b. refl;
  done = λ b. refl;
  memory = λ b. c.fence-act.ensures.changed (record b { published = put b.published c.args.worker.now.current true });
  flush = c.fence-act.ensures.flush;
  told = tt;
  writes = c.fence-act.ensures.told;
  made = c.fence-act.ensures.made;
}
