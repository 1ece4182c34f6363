use Rattle.bz_swap_acts.proofs.Exchanges.{cleared}
use Rattle.bz_swap_acts.proofs.values.clear_value.Goals as goal

pub returns-clause-memory : goal.returns-clause-memory
returns-clause-memory c = λ b. rw (← c.cas_word.ensures.found) (cleared _ _ b c.args.a c.args.value c.cas_word.result.kind c.cas_word.ensures.changed c.cas_word.ensures.unchanged)
