use Rattle.bz_test_layers.proofs.TestWorlds.{read, spell, calm-step}
use Rattle.bz_test_layers.proofs.tests.swap.world.World.step.Goals as goal

pub invariant_of-self : goal.invariant_of-self
invariant_of-self c =
    let i = c.self.inside in
    spell c.step.new.self i.words i.swaps i.count i.named.items i.stored.items c.self.invariant.0 c.self.invariant.1
    (calm-step i.access c.step.new.self i.words i.swaps i.count i.named.items i.stored.items c.args.w c.step.result.act c.step.result.done c.step.result.effect c.step.ensures.step
    (read i.access i.words i.swaps i.count i.named.items i.stored.items c.self.invariant))
