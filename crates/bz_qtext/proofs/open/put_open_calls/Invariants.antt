use Rattle.std.proofs.Common.{◌≡◌, ◌++◌}
use Rattle.bz_ring.specs.Journal.{at_moment}
use Rattle.bz_qtext.specs.Report.{open_lines}
use Rattle.bz_qtext.proofs.open.put_open_calls.Given as goal

abbrev pub invariant-loop-w : goal.invariant-loop-w
invariant-loop-w l = l.out.items ≡ l.initial.out.items ++ open_lines l.w (at_moment l.moment l.queue.log.past)
