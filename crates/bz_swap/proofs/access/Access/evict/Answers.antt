use Rattle.bz_swap.specs.Inside.Parts.{Parts}
use Rattle.bz_swap.proofs.Evicted.{not-recovering, evicted-kept, evicted-seen}
use Rattle.bz_swap.proofs.Stepping.{step-holds}
use Rattle.bz_swap.proofs.access.Access.evict.Goals as goal

pub invariant_of-self-in-Opened : goal.invariant_of-self-in-Opened
invariant_of-self-in-Opened c =
    let p : Parts = record { store = c.self.inside.cells; workers = c.self.inside.workers.items; phase = c.self.inside.phase; steps = c.self.inside.steps; allowance = c.self.inside.allowance } in
    evicted-kept p c.self.invariant c.args.a c.evict_typed.result c.evict_typed.new.cells (not-recovering p.phase c.in-Opened.is) c.evict_typed.ensures

pub returns-in-Opened : goal.returns-in-Opened
returns-in-Opened c =
    let p : Parts = record { store = c.self.inside.cells; workers = c.self.inside.workers.items; phase = c.self.inside.phase; steps = c.self.inside.steps; allowance = c.self.inside.allowance } in
    let phase = not-recovering p.phase c.in-Opened.is in
    record {
      evicted = rw (← c.self.view_is) (evicted-seen p c.self.invariant c.args.a c.evict_typed.result c.evict_typed.new.cells phase c.evict_typed.ensures);
      held = step-holds _ (evicted-kept p c.self.invariant c.args.a c.evict_typed.result c.evict_typed.new.cells phase c.evict_typed.ensures);
    }
