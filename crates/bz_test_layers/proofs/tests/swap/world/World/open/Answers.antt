use Rattle.std.proofs.Common.{◌+◌, length, arith}
use Rattle.bz_test_layers.proofs.TestWorlds.{spell, opened-world}
use Rattle.bz_test_layers.proofs.tests.swap.world.World.open.Goals as goal

pub invariant_of-result : goal.invariant_of-result
invariant_of-result c =
    let named = c.in_ok-named.ensures.items_if_clones_equal (λ y e. e) in
    let stored = c.in_ok-stored.ensures.items_if_clones_equal (λ y e. e) in
    spell c.in_ok-access.access (length c.args.start.now) c.args.swaps (c.args.workers + 1) c.in_ok-named.named.items c.in_ok-stored.stored.items c.requires.numbered (omega (arith, c.requires.workers))
    (opened-world c.in_ok-access.access c.args.start.now c.args.swaps c.args.workers c.in_ok-named.named.items c.in_ok-stored.stored.items c.in_ok-access.ensures.opened c.requires.room named stored)
