use Rattle.std.proofs.Common.{rules}
use Rattle.bz_pm.proofs.pm.Pm.words.Goals as goal

pub returns-clause-fit : goal.returns-clause-fit
returns-clause-fit c = record {
  cached = λ a. rw (← c.self.view_is, ← c.as_slice-cached.ensures.value) (search rules);
  durable = λ a. rw (← c.self.view_is, ← c.as_slice-durable.ensures.value) (search rules);
}
