use Rattle.std.proofs.Common.{refl, ap, ◌∙◌, arith}
use Rattle.bz_ring.specs.Content.{size_of}
use Rattle.bz_qsched.proofs.PassLemmas.{passing_none, passing_more, passing_stops, passing_done, still_on, word_within}
use Rattle.bz_qsched.proofs.cut.pass_words.Goals as goal

pub loop-a-init : goal.loop-a-init
loop-a-init c = passing_none (size_of c.args.world.now.numbers.ring) c.args.seed c.args.world.now

pub pass_word-requires-clause-in_range : goal.pass_word-requires-clause-in_range
pass_word-requires-clause-in_range c = rw c.loop-a.invariant.evolves.stays.numbers (word_within c.loop-a.a c.args.words _ c.loop-a-test.true c.requires.words)

pub pass_word-requires-clause-powered : goal.pass_word-requires-clause-powered
pass_word-requires-clause-powered c = still_on c.args.world.now c.loop-a.world c.loop-a.invariant.evolves c.requires.powered

pub returns-then-not-pass_word-clause-stopped : goal.returns-then-not-pass_word-clause-stopped
returns-then-not-pass_word-clause-stopped c = λ is.
    passing_stops (size_of c.args.world.now.numbers.ring) c.args.seed c.loop-a.a c.loop-a.state c.args.world.now c.loop-a.world c.loop-a.invariant _ (word_within c.loop-a.a c.args.words _ c.loop-a-test.true c.requires.words)
    (c.if-not-pass_word.ensures.stopped refl)

pub loop-a-preserved : goal.loop-a-preserved
loop-a-preserved c =
    passing_more (size_of c.args.world.now.numbers.ring) c.args.seed c.loop-a.a c.loop-a.state c.args.world.now c.loop-a.world c.loop-a.invariant _ _ (word_within c.loop-a.a c.args.words _ c.loop-a-test.true c.requires.words)
    (c.pass_word.ensures.passed c.if-not-pass_word.false) (c.pass_word.ensures.state c.if-not-pass_word.false)

pub returns-clause-passed : goal.returns-clause-passed
returns-clause-passed c = λ is.
    passing_done (size_of c.args.world.now.numbers.ring) c.args.seed c.loop-a.a c.loop-a.state c.args.world.now c.loop-a.world c.loop-a.invariant (rw (← c.requires.words) (omega (arith, c.loop-a-test.false)))
