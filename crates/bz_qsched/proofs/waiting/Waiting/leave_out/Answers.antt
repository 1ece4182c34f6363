use Rattle.std.proofs.Common.{◌<◌, length, arith}
use Rattle.bz_qsched.proofs.FirstLemmas.{found_none, found_taken}
use Rattle.bz_qsched.proofs.QueueLemmas.{kept_left}
use Rattle.bz_qsched.proofs.waiting.Waiting.leave_out.Goals as goal

pub invariant_of-self : goal.invariant_of-self
invariant_of-self c =
    let found = rw c.deref.ensures.value at c.find_call.ensures in
    let small : c.args.w < length c.self.inside.next = omega (arith, c.self.told.0) in
    let few : c.args.w < length c.self.inside.counts = omega (arith, c.self.told.1) in
    (kept_left _ _ _ _ _ c.args.w c.in-Some.at c.self.invariant.0 small few (rw c.in-Some.is at found), c.self.invariant.1)

pub unreachable-requires : goal.unreachable-requires
unreachable-requires c =
    let found = rw c.deref.ensures.value at c.find_call.ensures in
    c.requires (rw (← c.self.view_is) (found_none c.self.inside.calls.items c.self.inside.next c.args.w (rw c.in-None.is at found)))

pub returns-clause-calls : goal.returns-clause-calls
returns-clause-calls c =
    let found = rw c.deref.ensures.value at c.find_call.ensures in
    let small : c.args.w < length c.self.inside.next = omega (arith, c.self.told.0) in
    rw (← c.self.view_is) (found_taken c.self.inside.calls.items c.self.inside.next c.args.w c.in-Some.at small (rw c.in-Some.is at found))
