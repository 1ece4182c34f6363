use Rattle.bz_ring.specs.Content.{size_of}
use Rattle.bz_qsched.proofs.PassLemmas.{none_evicted, some_evicted, some_stopped}
use Rattle.bz_qsched.proofs.cut.evict_drawn.Goals as goal

pub returns-then-seed-eq0-clause-evicted : goal.returns-then-seed-eq0-clause-evicted
returns-then-seed-eq0-clause-evicted c = λ is. none_evicted (size_of c.args.world.now.numbers.ring) c.args.seed c.args.world.now c.if-seed-eq0.true

pub returns-clause-evicted : goal.returns-clause-evicted
returns-clause-evicted c = λ is. some_evicted (size_of c.args.world.now.numbers.ring) c.args.seed c.args.world.now c.pass_words.new.world c.if-seed-eq0.false (c.pass_words.ensures.passed is)

pub returns-clause-stopped : goal.returns-clause-stopped
returns-clause-stopped c = λ is. some_stopped (size_of c.args.world.now.numbers.ring) c.args.seed c.args.world.now c.pass_words.new.world c.if-seed-eq0.false (c.pass_words.ensures.stopped is)
