use Rattle.std.proofs.Common.{◌<◌, ◌/◌, length, refl}
use Rattle.bz_swap.specs.SwapMemory.{Flushing}
use Rattle.bz_test_layers.proofs.TestWorlds.{IsTestWorld, read, spell, started-world, calm-step, flush-works, flushes-calm}
use Rattle.bz_test_layers.proofs.tests.swap.world.World.flush.Goals as goal

pub invariant_of-self : goal.invariant_of-self
invariant_of-self c =
    let i = c.self.inside in
    let t = read i.access i.words i.swaps i.count i.named.items i.stored.items c.self.invariant in
    let within : c.args.w < length i.access.workers = rw t.sized.count c.if-w-self.false in
    let may = rw (← c.self.view_is) at (c.if-not-may_flush.ensures refl) in
    let begun : IsTestWorld c.start_flush.new.self i.words i.swaps i.count i.named.items i.stored.items =
    rw c.start_flush.ensures.started (started-world i.access i.words i.swaps i.count i.named.items i.stored.items c.args.w (Flushing (c.args.a / 8)) within (flush-works i.access c.args.w (c.args.a / 8) may) (flushes-calm (c.args.a / 8)) t) in
    spell c.step.new.self i.words i.swaps i.count i.named.items i.stored.items c.self.invariant.0 c.self.invariant.1
    (calm-step c.start_flush.new.self c.step.new.self i.words i.swaps i.count i.named.items i.stored.items c.args.w c.step.result.act c.step.result.done c.step.result.effect c.step.ensures.step begun)
