use Rattle.bz_swap_cells.proofs.DescriptorActs.{store-status, typed-store_status}
use Rattle.bz_swap_cells.proofs.cells.Cells.store_status.Goals as goal

pub invariant_of-self : goal.invariant_of-self
invariant_of-self c =
    let store = rw (← c.self.view_is) at c.requires.typed in
    rw (c.store.ensures, c.word_of_status.ensures, c.swap_at.ensures) (store-status _ c.args.swap c.args.new store (rw (← c.self.view_is) at c.requires.descriptor)).has_room

pub returns-clause-typed : goal.returns-clause-typed
returns-clause-typed c =
    let store = rw (← c.self.view_is) at c.requires.typed in
    rw (c.store.ensures, c.word_of_status.ensures, c.swap_at.ensures) (store-status _ c.args.swap c.args.new store (rw (← c.self.view_is) at c.requires.descriptor))

pub returns-clause-changed : goal.returns-clause-changed
returns-clause-changed c = λ b.
    let store = rw (← c.self.view_is) at c.requires.typed in
    rw (c.store.ensures, c.word_of_status.ensures, c.swap_at.ensures, ← c.self.view_is) (typed-store_status _ b c.args.swap c.args.new store (rw (← c.self.view_is) at c.requires.descriptor))
