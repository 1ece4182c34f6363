use Rattle.std.proofs.Common.{refl, rules}
use Rattle.bz_world.proofs.Openings.{opened-journal}
use Rattle.bz_world.proofs.open.parts_over.Goals as goal

pub returns-clause-made : goal.returns-clause-made
returns-clause-made c = record {
  config = c.requires.config;
  opened = c.in_ok-access.ensures.opened;
  holds = c.in_ok-access.ensures.held;
  journal = opened-journal _ c.args.start.now c.args.at_start c.args.config.now c.in_ok-journal.ensures.start c.in_ok-journal.ensures.past c.in_ok-journal.ensures.pages c.in_ok-journal.ensures.limits;
  workers = c.in_ok-workers.ensures.workers;
  owners = c.in_ok-workers.ensures.owners;
  numbers = c.in_ok-workers.ensures.numbers;
  left_out = search rules;
  pairs = c.requires.counted;
  few_pairs = c.requires.few;
  at_begin = refl;
  begun = refl;
  pages_begun = refl;
  at_start = refl;
  power = refl;
}
