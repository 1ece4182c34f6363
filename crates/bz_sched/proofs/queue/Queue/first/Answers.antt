use Rattle.bz_sched.proofs.FirstLemmas.{found_first, found_none}
use Rattle.bz_sched.proofs.queue.Queue.first.Goals as goal

pub returns-in-Some : goal.returns-in-Some
returns-in-Some c =
    let found = rw c.deref.ensures.value at c.find_call.ensures in
    rw (← c.self.view_is) (found_first c.self.inside.calls.items c.self.inside.next c.args.w c.in-Some.at c.index.result.now (rw c.in-Some.is at found) c.index.ensures)

pub returns-in-None : goal.returns-in-None
returns-in-None c =
    let found = rw c.deref.ensures.value at c.find_call.ensures in
    rw (← c.self.view_is) (found_none c.self.inside.calls.items c.self.inside.next c.args.w (rw c.in-None.is at found))
