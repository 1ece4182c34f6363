use Rattle.std.proofs.Common.{◌<◌, true, length, slice_set, refl}
use Rattle.bz_test_layers.proofs.TestWorlds.{read, spell, stored-world, store-works, store-lies}
use Rattle.bz_test_layers.proofs.tests.swap.world.World.store.Goals as goal

pub invariant_of-self : goal.invariant_of-self
invariant_of-self c =
    let i = c.self.inside in
    let t = read i.access i.words i.swaps i.count i.named.items i.stored.items c.self.invariant in
    let within : c.args.w < length i.access.workers = rw t.sized.count c.if-w-self.false in
    let may = rw (← c.self.view_is) at (c.if-not-may_store.ensures refl) in
    let lies : c.args.a < i.words = rw t.sized.cached at (store-lies i.access c.args.w c.args.a c.args.v may) in
    spell c.step.new.self i.words i.swaps i.count i.named.items (slice_set i.stored.items c.args.a true) c.self.invariant.0 c.self.invariant.1
    (stored-world i.access c.step.new.self i.words i.swaps i.count i.named.items i.stored.items c.args.w c.args.a c.args.v c.step.result.act c.step.result.done c.step.result.effect within lies (store-works i.access c.args.w c.args.a c.args.v may)
    (rw c.start_store.ensures.started at c.step.ensures.step) t)
