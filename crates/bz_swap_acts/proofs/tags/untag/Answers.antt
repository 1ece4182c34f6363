use Rattle.bz_swap_acts.proofs.Exchanges.{untagged}
use Rattle.bz_swap_acts.proofs.tags.untag.Goals as goal

pub returns-then-eq-clause-memory : goal.returns-then-eq-clause-memory
returns-then-eq-clause-memory c = λ x b at. rw (← c.cas_word-found.ensures.found) (untagged x _ _ b c.args.a c.args.tag.swap c.args.tag.entry c.args.tag.worker c.args.tag.seq c.args.new c.args.changed c.args.unchanged c.cas_word-found.result.kind at c.cas_word-found.ensures.changed c.cas_word-found.ensures.unchanged)
