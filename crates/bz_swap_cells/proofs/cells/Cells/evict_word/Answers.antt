use Rattle.bz_swap_cells.proofs.DescriptorActs.{store-evict, typed-evict}
use Rattle.bz_swap_cells.proofs.cells.Cells.evict_word.Goals as goal

pub invariant_of-self : goal.invariant_of-self
invariant_of-self c =
    let store = rw (← c.self.view_is) at c.requires.typed in
    let within = rw (← c.self.view_is) at c.requires.within in
    rw c.evict.ensures (store-evict _ c.args.a store within).has_room

pub returns-clause-typed : goal.returns-clause-typed
returns-clause-typed c =
    let store = rw (← c.self.view_is) at c.requires.typed in
    let within = rw (← c.self.view_is) at c.requires.within in
    rw c.evict.ensures (store-evict _ c.args.a store within)

pub returns-clause-changed : goal.returns-clause-changed
returns-clause-changed c = λ b.
    let store = rw (← c.self.view_is) at c.requires.typed in
    let outside = rw (← c.self.view_is) at c.requires.outside in
    let within = rw (← c.self.view_is) at c.requires.within in
    rw (c.evict.ensures, ← c.self.view_is) (typed-evict _ b c.args.a store outside within)
