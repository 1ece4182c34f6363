use Rattle.bz_swap_cells.specs.Store.{field_address}
use Rattle.bz_swap_cells.proofs.DescriptorActs.{store-evict, field-within, typed-evict_field}
use Rattle.bz_swap_cells.proofs.cells.Cells.evict_field.Goals as goal

pub invariant_of-self : goal.invariant_of-self
invariant_of-self c =
    let store = rw (← c.self.view_is) at c.requires.typed in
    let below = rw (← c.self.view_is) at c.requires.descriptor in
    rw (c.evict.ensures, c.field_at.ensures) (store-evict _ (field_address c.args.swap c.args.number) store (field-within _ c.args.swap c.args.number store below c.requires.number)).has_room

pub returns-clause-typed : goal.returns-clause-typed
returns-clause-typed c =
    let store = rw (← c.self.view_is) at c.requires.typed in
    let below = rw (← c.self.view_is) at c.requires.descriptor in
    rw (c.evict.ensures, c.field_at.ensures) (store-evict _ (field_address c.args.swap c.args.number) store (field-within _ c.args.swap c.args.number store below c.requires.number))

pub returns-clause-changed : goal.returns-clause-changed
returns-clause-changed c = λ b.
    let store = rw (← c.self.view_is) at c.requires.typed in
    let below = rw (← c.self.view_is) at c.requires.descriptor in
    rw (c.evict.ensures, c.field_at.ensures, ← c.self.view_is) (typed-evict_field _ b c.args.swap c.args.number store below c.requires.number)
