use Rattle.std.proofs.Common.{arith}
use Rattle.bz_swap_cells.proofs.DescriptorActs.{store-field, typed-store_field}
use Rattle.bz_swap_cells.proofs.cells.Cells.store_field.Goals as goal

pub invariant_of-self : goal.invariant_of-self
invariant_of-self c =
    let store = rw (← c.self.view_is) at c.requires.typed in
    let below = rw (← c.self.view_is) at c.requires.descriptor in
    rw (c.store.ensures, c.field_at.ensures) (store-field _ c.args.swap c.args.number c.args.value store below c.requires.number (omega (arith, c.ranges.value))).has_room

pub returns-clause-typed : goal.returns-clause-typed
returns-clause-typed c =
    let store = rw (← c.self.view_is) at c.requires.typed in
    let below = rw (← c.self.view_is) at c.requires.descriptor in
    rw (c.store.ensures, c.field_at.ensures) (store-field _ c.args.swap c.args.number c.args.value store below c.requires.number (omega (arith, c.ranges.value)))

pub returns-clause-changed : goal.returns-clause-changed
returns-clause-changed c = λ b.
    let store = rw (← c.self.view_is) at c.requires.typed in
    let below = rw (← c.self.view_is) at c.requires.descriptor in
    rw (c.store.ensures, c.field_at.ensures, ← c.self.view_is) (typed-store_field _ b c.args.swap c.args.number c.args.value store below c.requires.number (omega (arith, c.ranges.value)))
