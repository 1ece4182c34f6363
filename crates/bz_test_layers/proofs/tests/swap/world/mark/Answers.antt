use Rattle.bz_test_layers.proofs.TestWorlds.{marked-more}
use Rattle.bz_test_layers.proofs.tests.swap.world.mark.Goals as goal

pub loop-entry-preserved : goal.loop-entry-preserved
loop-entry-preserved c = marked-more c.args.named.now.items c.loop-entry.named.items c.args.entries.now c.loop-entry.entry-index _ c.loop-entry-test.true (c.requires c.loop-entry.entry-index _ c.loop-entry-test.true) c.loop-entry.invariant
