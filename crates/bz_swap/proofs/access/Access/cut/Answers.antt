use Rattle.std.specs.Prelude.{◌≡◌, length}
use Rattle.std.specs.Vec.{vec_len}
use Rattle.bz_swap.specs.Inside.Parts.{Parts}
use Rattle.bz_swap.proofs.Cutting.{cut-kept, cut-seen}
use Rattle.bz_swap.proofs.access.Access.cut.Goals as goal

pub invariant_of-self : goal.invariant_of-self
invariant_of-self c =
    let p : Parts = record { store = c.self.inside.cells; workers = c.self.inside.workers.items; phase = c.self.inside.phase; steps = c.self.inside.steps; allowance = c.self.inside.allowance } in
    let size : vec_len c.self.inside.workers ≡ length c.self.inside.workers.items = c.self.inside.workers.ok.0 in
    let room = rw c.cut.ensures.words at c.cut.ensures.room in
    rw (c.cut.ensures.words, c.fill.ensures.items (λ y e. e), size, c.idle_worker.ensures) (cut-kept p c.self.invariant room)

pub returns : goal.returns
returns c =
    let p : Parts = record { store = c.self.inside.cells; workers = c.self.inside.workers.items; phase = c.self.inside.phase; steps = c.self.inside.steps; allowance = c.self.inside.allowance } in
    let size : vec_len c.self.inside.workers ≡ length c.self.inside.workers.items = c.self.inside.workers.ok.0 in
    rw (c.cut.ensures.words, c.fill.ensures.items (λ y e. e), size, c.idle_worker.ensures, ← c.self.view_is) (cut-seen p)
