use Rattle.std.proofs.Common.{arith}
use Rattle.bz_qsched.specs.Fuses.{with_fuse}
use Rattle.bz_qsched.proofs.WordLemmas.{listing_none, listing_more, listing_stops, listing_done, word_at, word_is}
use Rattle.bz_qsched.proofs.list.run_list.Goals as goal

pub loop-turn-init : goal.loop-turn-init
loop-turn-init c = listing_none c.args.turns.now c.args.world.now (with_fuse c.args.queue.now c.args.fuse.now) c.requires.ready

pub take_word-requires-clause-turn : goal.take_word-requires-clause-turn
take_word-requires-clause-turn c = word_at c.args.turns.now c.loop-turn.turn-index _ c.requires.turns c.loop-turn-test.true (word_is c.args.turns.now c.loop-turn.turn-index _ c.loop-turn-test.true)

pub take_word-requires-clause-ready : goal.take_word-requires-clause-ready
take_word-requires-clause-ready c = c.loop-turn.invariant.keeps.ready

pub loop-turn-preserved : goal.loop-turn-preserved
loop-turn-preserved c = listing_more c.args.turns.now c.loop-turn.turn-index _ c.args.world.now (with_fuse c.args.queue.now c.args.fuse.now) c.loop-turn.world (with_fuse c.loop-turn.queue c.loop-turn.fuse) _ _ c.loop-turn-test.true (word_is c.args.turns.now c.loop-turn.turn-index _ c.loop-turn-test.true) c.loop-turn.invariant c.in-Finished.ensures

pub returns-in-Stopped : goal.returns-in-Stopped
returns-in-Stopped c = listing_stops c.args.turns.now c.loop-turn.turn-index _ c.args.world.now (with_fuse c.args.queue.now c.args.fuse.now) c.loop-turn.world (with_fuse c.loop-turn.queue c.loop-turn.fuse) c.in-Stopped.why _ _ c.loop-turn-test.true (word_is c.args.turns.now c.loop-turn.turn-index _ c.loop-turn-test.true) c.loop-turn.invariant c.in-Stopped.ensures

pub returns : goal.returns
returns c = listing_done c.args.turns.now c.loop-turn.turn-index c.args.world.now (with_fuse c.args.queue.now c.args.fuse.now) c.loop-turn.world (with_fuse c.loop-turn.queue c.loop-turn.fuse) (omega (arith, c.loop-turn-test.false)) c.loop-turn.invariant
