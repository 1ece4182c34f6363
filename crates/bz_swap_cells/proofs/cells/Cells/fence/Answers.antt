use Rattle.bz_swap_cells.proofs.AskActs.{store-fence, typed-fence}
use Rattle.bz_swap_cells.proofs.cells.Cells.fence.Goals as goal

pub invariant_of-self : goal.invariant_of-self
invariant_of-self c =
    let store = rw (← c.self.view_is) at c.requires.typed in
    let worker = rw (← c.self.view_is) at c.requires.worker in
    rw c.fence.ensures (store-fence _ c.args.w store worker).has_room

pub returns-clause-typed : goal.returns-clause-typed
returns-clause-typed c =
    let store = rw (← c.self.view_is) at c.requires.typed in
    let worker = rw (← c.self.view_is) at c.requires.worker in
    rw c.fence.ensures (store-fence _ c.args.w store worker)

pub returns-clause-changed : goal.returns-clause-changed
returns-clause-changed c = λ b.
    let store = rw (← c.self.view_is) at c.requires.typed in
    let worker = rw (← c.self.view_is) at c.requires.worker in
    rw (c.fence.ensures, ← c.self.view_is) (typed-fence _ b c.args.w store worker)
