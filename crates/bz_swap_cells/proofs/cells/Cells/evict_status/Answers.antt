use Rattle.bz_layout.specs.Addresses.{swap_address}
use Rattle.bz_swap_cells.proofs.DescriptorActs.{store-evict, status-within, typed-evict_status}
use Rattle.bz_swap_cells.proofs.cells.Cells.evict_status.Goals as goal

pub invariant_of-self : goal.invariant_of-self
invariant_of-self c =
    let store = rw (← c.self.view_is) at c.requires.typed in
    let below = rw (← c.self.view_is) at c.requires.descriptor in
    rw (c.evict.ensures, c.swap_at.ensures) (store-evict _ (swap_address c.args.swap) store (status-within _ c.args.swap store below)).has_room

pub returns-clause-typed : goal.returns-clause-typed
returns-clause-typed c =
    let store = rw (← c.self.view_is) at c.requires.typed in
    let below = rw (← c.self.view_is) at c.requires.descriptor in
    rw (c.evict.ensures, c.swap_at.ensures) (store-evict _ (swap_address c.args.swap) store (status-within _ c.args.swap store below))

pub returns-clause-changed : goal.returns-clause-changed
returns-clause-changed c = λ b.
    let store = rw (← c.self.view_is) at c.requires.typed in
    let below = rw (← c.self.view_is) at c.requires.descriptor in
    rw (c.evict.ensures, c.swap_at.ensures, ← c.self.view_is) (typed-evict_status _ b c.args.swap store below)
