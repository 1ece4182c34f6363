use Rattle.std.specs.Prelude.{◌/◌}
use Rattle.std.proofs.Common.{arith}
use Rattle.bz_swap_cells.proofs.AskActs.{store-ask, typed-ask_line}
use Rattle.bz_swap_cells.proofs.cells.Cells.ask_word.Goals as goal

pub invariant_of-self : goal.invariant_of-self
invariant_of-self c =
    let store = rw (← c.self.view_is) at c.requires.typed in
    let may = rw (← c.self.view_is) at c.requires.asker in
    let within = rw (← c.self.view_is) at c.requires.within in
    rw (c.ask.ensures) (store-ask _ c.args.w (c.args.a / 8) store may (omega (arith, within))).has_room

pub returns-clause-typed : goal.returns-clause-typed
returns-clause-typed c =
    let store = rw (← c.self.view_is) at c.requires.typed in
    let may = rw (← c.self.view_is) at c.requires.asker in
    let within = rw (← c.self.view_is) at c.requires.within in
    rw (c.ask.ensures) (store-ask _ c.args.w (c.args.a / 8) store may (omega (arith, within)))

pub returns-clause-changed : goal.returns-clause-changed
returns-clause-changed c = λ b.
    let store = rw (← c.self.view_is) at c.requires.typed in
    let may = rw (← c.self.view_is) at c.requires.asker in
    let outside = rw (← c.self.view_is) at c.requires.outside in
    let within = rw (← c.self.view_is) at c.requires.within in
    rw (c.ask.ensures, ← c.self.view_is) (typed-ask_line _ b c.args.w c.args.a store may outside within)
