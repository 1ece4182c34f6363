use Rattle.std.proofs.Common.{◌≤◌, length, sym, arith}
use Rattle.bz_queue.proofs.Opens.{number-past}
use Rattle.bz_queue.proofs.queue.QueueWorld.open_call.Goals as goal

pub returns-then-w-len : goal.returns-then-w-len
returns-then-w-len c =
    let p = c.self.inside.parts in
    let past : length p.workers.items ≤ c.args.w = omega (arith, p.workers.ok.0) in
    rw (← c.self.view_is) (sym (number-past p c.self.invariant c.args.w past))
