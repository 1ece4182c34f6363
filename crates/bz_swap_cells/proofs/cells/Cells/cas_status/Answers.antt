use Rattle.std.proofs.Common.{sym, ap, ◌∙◌}
use Rattle.bz_swap_cells.proofs.DescriptorActs.{store-status_compared, typed-status_compared}
use Rattle.bz_swap_cells.specs.Store.{status_of}
use Rattle.bz_pm.specs.State.{Counted}
use Rattle.bz_swap_cells.proofs.cells.Cells.cas_status.Goals as goal

pub invariant_of-self : goal.invariant_of-self
invariant_of-self c =
    let store = rw (← c.self.view_is) at c.requires.typed in
    let below = rw (← c.self.view_is) at c.requires.descriptor in
    let after = ap (λ (m : Counted). m.state) (rw (c.word_of_status.ensures, c.word_of_status-2.ensures, c.swap_at.ensures) at c.cas-found.ensures.after) in
    (store-status_compared _ c.args.swap c.args.old c.args.new store below c.cas-found.new.self.state after).has_room

pub returns-clause-typed : goal.returns-clause-typed
returns-clause-typed c =
    let store = rw (← c.self.view_is) at c.requires.typed in
    let below = rw (← c.self.view_is) at c.requires.descriptor in
    let after = ap (λ (m : Counted). m.state) (rw (c.word_of_status.ensures, c.word_of_status-2.ensures, c.swap_at.ensures) at c.cas-found.ensures.after) in
    store-status_compared _ c.args.swap c.args.old c.args.new store below c.cas-found.new.self.state after

pub returns-clause-changed : goal.returns-clause-changed
returns-clause-changed c = λ e b.
    let store = rw (← c.self.view_is) at c.requires.typed in
    let below = rw (← c.self.view_is) at c.requires.descriptor in
    let after = ap (λ (m : Counted). m.state) (rw (c.word_of_status.ensures, c.word_of_status-2.ensures, c.swap_at.ensures) at c.cas-found.ensures.after) in
    let found = rw c.swap_at.ensures at c.cas-found.ensures.found in
    let hit = sym (ap status_of found) ∙ (sym c.status_in.ensures ∙ e) in
    rw (← c.self.view_is) (typed-status_compared _ b c.args.swap c.args.old c.args.new c.cas-found.new.self.state after store below hit)
