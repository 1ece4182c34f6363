use Rattle.bz_swap_cells.proofs.Acts.{store-stored, typed-store}
use Rattle.bz_swap_cells.proofs.cells.Cells.store_word.Goals as goal

pub invariant_of-self : goal.invariant_of-self
invariant_of-self c =
    let store = rw (← c.self.view_is) at c.requires.typed in
    let outside = rw (← c.self.view_is) at c.requires.outside in
    let within = rw (← c.self.view_is) at c.requires.within in
    rw (c.store.ensures, c.word_of.ensures) (store-stored _ c.args.a c.args.new store outside within c.requires.new_kind).has_room

pub returns-clause-typed : goal.returns-clause-typed
returns-clause-typed c =
    let store = rw (← c.self.view_is) at c.requires.typed in
    let outside = rw (← c.self.view_is) at c.requires.outside in
    let within = rw (← c.self.view_is) at c.requires.within in
    rw (c.store.ensures, c.word_of.ensures) (store-stored _ c.args.a c.args.new store outside within c.requires.new_kind)

pub returns-clause-changed : goal.returns-clause-changed
returns-clause-changed c = λ b.
    let store = rw (← c.self.view_is) at c.requires.typed in
    let outside = rw (← c.self.view_is) at c.requires.outside in
    let within = rw (← c.self.view_is) at c.requires.within in
    rw (c.store.ensures, c.word_of.ensures, ← c.self.view_is) (typed-store _ b c.args.a c.args.new store outside within c.requires.new_kind)
