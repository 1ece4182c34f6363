use Rattle.std.proofs.Common.{◌∙◌}
use Rattle.bz_swap_cells.proofs.Acts.{kind_at-word}
use Rattle.bz_swap_cells.proofs.cells.Cells.load_word.Goals as goal

pub kind_in-requires : goal.kind_in-requires
kind_in-requires c =
    let store = rw (← c.self.view_is) at c.requires.typed in
    let outside = rw (← c.self.view_is) at c.requires.outside in
    rw c.load.ensures (store.cached.kinds c.args.a outside)

pub returns-clause-found : goal.returns-clause-found
returns-clause-found c =
    let outside = rw (← c.self.view_is) at c.requires.outside in
    rw (← c.self.view_is) (kind_at-word _ _ c.args.a c.kind_in.result outside c.kind_in.ensures.is_kind (c.kind_in.ensures.word ∙ c.load.ensures))
