use Rattle.std.proofs.Common.{◌≡◌, ◌<◌, length, refl}
use Rattle.bz_swap.specs.Starts.{swapping}
use Rattle.bz_test_layers.proofs.TestWorlds.{read, spell, begun-world}
use Rattle.bz_test_layers.proofs.tests.swap.world.World.start.Goals as goal

pub invariant_of-self-2 : goal.invariant_of-self-2
invariant_of-self-2 c =
    let i = c.self.inside in
    let t = read i.access i.words i.swaps i.count i.named.items i.stored.items c.self.invariant in
    let may = rw (← c.self.view_is) at (c.if-not-may_work.ensures refl) in
    let within : c.args.w < length i.access.workers = may.within in
    let begun : c.start_swap.new.self ≡ swapping i.access c.args.w c.args.entries.now = rw c.requires at c.in-Ok.ensures.begun.2 in
    rw begun (spell (swapping i.access c.args.w c.args.entries.now) i.words i.swaps i.count c.mark.new.named.items i.stored.items c.self.invariant.0 c.self.invariant.1
    (begun-world i.access i.words i.swaps i.count i.named.items c.mark.new.named.items i.stored.items c.args.w c.args.entries.now within (λ some. may.phase) (record { size = c.mark.ensures.size; each = c.mark.ensures.each }) t))
