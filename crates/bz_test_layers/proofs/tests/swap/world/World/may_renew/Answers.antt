use Rattle.std.proofs.Common.{refl, ◌∙◌, sym}
use Rattle.bz_test_layers.proofs.TestWorlds.{renewable, read}
use Rattle.bz_test_layers.proofs.tests.swap.world.World.may_renew.Goals as goal

pub returns : goal.returns
returns c = λ plain.
    let i = c.self.inside in
    let t = read i.access i.words i.swaps i.count i.named.items i.stored.items c.self.invariant in
    rw (← c.self.view_is) (renewable i.access (t.sized.durable ∙ sym t.sized.cached) (rw (← c.self.view_is) at c.is_plain.ensures plain) (rw (← c.self.view_is) at c.if-not-are_idle.ensures refl) (rw (← c.self.view_is) at c.if-not-are_free.ensures refl))
