use Rattle.bz_test_layers.proofs.TestWorlds.{read, spell, evicted-world}
use Rattle.bz_test_layers.proofs.tests.swap.world.World.evict.Goals as goal

pub invariant_of-self : goal.invariant_of-self
invariant_of-self c =
    let i = c.self.inside in
    spell c.evict.new.self i.words i.swaps i.count i.named.items i.stored.items c.self.invariant.0 c.self.invariant.1
    (evicted-world i.access c.evict.new.self i.words i.swaps i.count i.named.items i.stored.items c.args.a c.evict.result c.evict.ensures.evicted
    (read i.access i.words i.swaps i.count i.named.items i.stored.items c.self.invariant))
