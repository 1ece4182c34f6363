use Rattle.std.proofs.Common.{sym, ap, ◌∙◌}
use Rattle.bz_word.specs.Kinds.{word}
use Rattle.bz_swap_cells.proofs.Acts.{kind_at-word, store-compared, typed-compared}
use Rattle.bz_pm.specs.State.{Counted}
use Rattle.bz_swap_cells.proofs.cells.Cells.cas_word.Goals as goal

pub kind_in-requires : goal.kind_in-requires
kind_in-requires c =
    let store = rw (← c.self.view_is) at c.requires.typed in
    let outside = rw (← c.self.view_is) at c.requires.outside in
    rw c.cas-found.ensures.found (store.cached.kinds c.args.a outside)

pub invariant_of-self : goal.invariant_of-self
invariant_of-self c =
    let store = rw (← c.self.view_is) at c.requires.typed in
    let outside = rw (← c.self.view_is) at c.requires.outside in
    let within = rw (← c.self.view_is) at c.requires.within in
    let after = ap (λ (m : Counted). m.state) (rw (c.word_of.ensures, c.word_of-2.ensures) at c.cas-found.ensures.after) in
    (store-compared _ c.args.a c.args.old c.args.new store outside within c.requires.new_kind c.cas-found.new.self.state after).has_room

pub returns-clause-typed : goal.returns-clause-typed
returns-clause-typed c =
    let store = rw (← c.self.view_is) at c.requires.typed in
    let outside = rw (← c.self.view_is) at c.requires.outside in
    let within = rw (← c.self.view_is) at c.requires.within in
    let after = ap (λ (m : Counted). m.state) (rw (c.word_of.ensures, c.word_of-2.ensures) at c.cas-found.ensures.after) in
    store-compared _ c.args.a c.args.old c.args.new store outside within c.requires.new_kind c.cas-found.new.self.state after

pub returns-clause-found : goal.returns-clause-found
returns-clause-found c =
    let outside = rw (← c.self.view_is) at c.requires.outside in
    rw (← c.self.view_is) (kind_at-word _ _ c.args.a c.kind_in.result outside c.kind_in.ensures.is_kind (c.kind_in.ensures.word ∙ c.cas-found.ensures.found))

pub returns-clause-changed : goal.returns-clause-changed
returns-clause-changed c = λ e b.
    let store = rw (← c.self.view_is) at c.requires.typed in
    let outside = rw (← c.self.view_is) at c.requires.outside in
    let within = rw (← c.self.view_is) at c.requires.within in
    let after = ap (λ (m : Counted). m.state) (rw (c.word_of.ensures, c.word_of-2.ensures) at c.cas-found.ensures.after) in
    let hit = sym c.cas-found.ensures.found ∙ (sym c.kind_in.ensures.word ∙ ap word e) in
    rw (← c.self.view_is) (typed-compared _ b c.args.a c.args.old c.args.new c.cas-found.new.self.state after store outside within c.requires.new_kind hit)
