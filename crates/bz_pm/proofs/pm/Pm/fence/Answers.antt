use Rattle.std.proofs.Common.{arith, [], ◌∙◌}
use Rattle.std.proofs.lemmas.List.{get_or_read, with_items_is}
use Rattle.bz_pm.proofs.States.{state-fenced}
use Rattle.bz_pm.proofs.pm.Pm.fence.Goals as goal

pub settle-requires-clause-asks : goal.settle-requires-clause-asks
settle-requires-clause-asks c =
    let worker = rw (← c.self.view_is) at c.requires in
    let asks = c.as_slice-asks.ensures ∙ get_or_read _ c.args.w _ worker c.index.ensures [] in
    (c.self.inside.count, rw (c.deref_mut.ensures.value, asks) (c.self.invariant.asks c.args.w))

pub invariant_of-self : goal.invariant_of-self
invariant_of-self c =
    let worker = rw (← c.self.view_is) at c.requires in
    let durable = with_items_is c.self.inside.durable c.settle.new.durable (omega (arith, c.settle.auto.durable, c.deref_mut.ensures.len)) in
    let since = with_items_is c.self.inside.since c.settle.new.since (omega (arith, c.settle.auto.since, c.deref_mut-2.ensures.len)) in
    rw (durable, since, c.clear.ensures) (state-fenced _ c.args.w _ _ c.self.invariant worker
    (c.as_slice-asks.ensures ∙ get_or_read _ c.args.w _ worker c.index.ensures [])
    (rw (c.deref_mut.ensures.value, c.deref_mut-2.ensures.value) at c.settle.ensures))
