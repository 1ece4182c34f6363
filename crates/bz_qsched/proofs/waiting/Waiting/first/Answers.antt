use Rattle.bz_qsched.proofs.FirstLemmas.{found_first, found_none}
use Rattle.bz_qsched.proofs.QueueLemmas.{found_may}
use Rattle.bz_qsched.proofs.waiting.Waiting.first.Goals as goal

pub returns-in-Some-clause-first : goal.returns-in-Some-clause-first
returns-in-Some-clause-first c =
    let found = rw c.deref.ensures.value at c.find_call.ensures in
    rw (← c.self.view_is) (found_first c.self.inside.calls.items c.self.inside.next c.args.w c.in-Some.at c.index.result.now (rw c.in-Some.is at found) c.index.ensures)

pub returns-in-None-clause-first : goal.returns-in-None-clause-first
returns-in-None-clause-first c =
    let found = rw c.deref.ensures.value at c.find_call.ensures in
    rw (← c.self.view_is) (found_none c.self.inside.calls.items c.self.inside.next c.args.w (rw c.in-None.is at found))

pub returns-in-Some-clause-call : goal.returns-in-Some-clause-call
returns-in-Some-clause-call c =
    let found = rw c.deref.ensures.value at c.find_call.ensures in
    found_may c.self.inside.calls.items _ c.args.w c.in-Some.at c.index.result.now c.self.invariant.1 (rw c.in-Some.is at found) c.index.ensures
