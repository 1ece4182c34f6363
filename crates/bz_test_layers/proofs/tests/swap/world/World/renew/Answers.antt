use Rattle.std.proofs.Common.{◌≡◌, ℕ, false, get_or, arith, refl}
use Rattle.bz_swap.proofs.Fresh.{all-same}
use Rattle.bz_swap.specs.Power.{renewed}
use Rattle.bz_test_layers.proofs.TestWorlds.{read, spell, renewed-world}
use Rattle.bz_test_layers.proofs.tests.swap.world.World.renew.Goals as goal

pub invariant_of-self : goal.invariant_of-self
invariant_of-self c =
    let i = c.self.inside in
    let may = rw (← c.self.view_is) at (c.if-may.ensures refl) in
    let named = c.fill.ensures.items (λ y e. e) in
    let none : (a : ℕ) → get_or c.fill.new.self.items a false ≡ false = λ a. rw named (all-same _ a false) in
    rw c.renew.ensures.renewed (spell (renewed i.access) i.words i.swaps i.count c.fill.new.self.items c.fill-then-may.new.self.items c.self.invariant.0 c.self.invariant.1
    (renewed-world i.access i.words i.swaps i.count i.named.items c.fill.new.self.items i.stored.items c.fill-then-may.new.self.items may c.renew.ensures.asks (omega (arith, c.fill.ensures.len)) none (omega (arith, c.fill-then-may.ensures.len))
    (read i.access i.words i.swaps i.count i.named.items i.stored.items c.self.invariant)))
