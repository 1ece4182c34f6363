use Rattle.std.proofs.Common.{◌<◌, length, arith}
use Rattle.std.proofs.lemmas.Grind.{common_steps}
use Rattle.bz_qsched.proofs.QueueLemmas.{few_waiting, queued_behind, kept_pushed, calls_more}
use Rattle.bz_qsched.proofs.waiting.Waiting.push.Goals as goal

pub overflow_add-self : goal.overflow_add-self
overflow_add-self c =
    let room = rw (← c.self.view_is) at c.requires.room in
    let few = few_waiting c.self.inside.calls.items c.self.inside.next c.self.inside.counts _ _ c.args.w c.self.invariant.0 in
    grind (arith, common_steps, room, few, c.self.ranges, c.self.invariant.0.taken)

pub invariant_of-self : goal.invariant_of-self
invariant_of-self c =
    let few : c.args.w < length c.self.inside.counts = omega (arith, c.self.told.1) in
    let room = rw (← c.self.view_is) at c.requires.room in
    let fits : length c.self.inside.calls.items < c.self.inside.most = omega (arith, room) in
    let items = rw c.in-Ok.is at c.extend_from_slice.ensures.items in
    (kept_pushed c.self.inside.calls.items _ c.self.inside.next c.self.inside.counts _ _ _ c.args.w c.args.call c.self.invariant.0 few fits (omega (arith, c.extend_from_slice.ensures.capacity)) items, rw items (calls_more c.self.inside.calls.items c.args.w c.args.call c.requires.call c.self.invariant.1))

pub returns-clause-calls : goal.returns-clause-calls
returns-clause-calls c =
    let items = rw c.in-Ok.is at c.extend_from_slice.ensures.items in
    rw (items, ← c.self.view_is) (queued_behind c.self.inside.calls.items 0 c.self.inside.next c.args.w c.args.call (omega (arith, c.self.invariant.0.within c.args.w)))
