use Rattle.std.specs.Prelude.{◌/◌}
use Rattle.bz_layout.specs.Addresses.{swap_address}
use Rattle.bz_swap_cells.proofs.AskActs.{store-ask, typed-ask_head}
use Rattle.bz_swap_cells.proofs.DescriptorActs.{head-within}
use Rattle.bz_swap_cells.proofs.cells.Cells.ask_head.Goals as goal

pub invariant_of-self : goal.invariant_of-self
invariant_of-self c =
    let store = rw (← c.self.view_is) at c.requires.typed in
    let may = rw (← c.self.view_is) at c.requires.asker in
    let below = rw (← c.self.view_is) at c.requires.descriptor in
    rw (c.ask.ensures, c.swap_at.ensures) (store-ask _ c.args.w (swap_address c.args.swap / 8) store may (head-within _ c.args.swap store below)).has_room

pub returns-clause-typed : goal.returns-clause-typed
returns-clause-typed c =
    let store = rw (← c.self.view_is) at c.requires.typed in
    let may = rw (← c.self.view_is) at c.requires.asker in
    let below = rw (← c.self.view_is) at c.requires.descriptor in
    rw (c.ask.ensures, c.swap_at.ensures) (store-ask _ c.args.w (swap_address c.args.swap / 8) store may (head-within _ c.args.swap store below))

pub returns-clause-changed : goal.returns-clause-changed
returns-clause-changed c = λ b.
    let store = rw (← c.self.view_is) at c.requires.typed in
    let may = rw (← c.self.view_is) at c.requires.asker in
    let below = rw (← c.self.view_is) at c.requires.descriptor in
    rw (c.ask.ensures, c.swap_at.ensures, ← c.self.view_is) (typed-ask_head _ b c.args.w c.args.swap store may below (head-within _ c.args.swap store below))
