use Rattle.std.proofs.Common.{refl, sym, ◌∙◌}
use Rattle.bz_sched.proofs.EvictionLemmas.{eviction_limit, eviction_made, eviction_opens}
use Rattle.bz_sched.proofs.draws.evict.Goals as goal

pub evict_word-requires-clause-powered : goal.evict_word-requires-clause-powered
evict_word-requires-clause-powered c = λ off. let opposed = sym c.requires.ready.powered ∙ off in absurd (cc opposed)

pub returns-then-evict_word-clause-ends : goal.returns-then-evict_word-clause-ends
returns-then-evict_word-clause-ends c = λ queue. eviction_made c.args.world.now queue c.args.a _ c.requires.ready (c.if-evict_word.ensures.evicted refl).evicts

pub returns-then-evict_word-clause-opens : goal.returns-then-evict_word-clause-opens
returns-then-evict_word-clause-opens c = eviction_opens c.args.world.now c.args.a _ (c.if-evict_word.ensures.evicted refl).evicts

pub returns-else-evict_word-clause-ends : goal.returns-else-evict_word-clause-ends
returns-else-evict_word-clause-ends c = λ queue. eviction_limit c.args.world.now queue _ c.requires.ready (c.if-evict_word.ensures.refused refl)

pub returns-else-evict_word-clause-opens : goal.returns-else-evict_word-clause-opens
returns-else-evict_word-clause-opens c = λ v. rw (c.if-evict_word.ensures.refused refl).same refl
