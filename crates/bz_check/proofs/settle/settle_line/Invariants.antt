use Rattle.std.proofs.Common.{◌≡◌, ◌+◌, drop}
use Rattle.bz_pm.specs.After.{settled_words}
use Rattle.bz_check.proofs.settle.settle_line.Given as goal

abbrev pub invariant-loop-offset : goal.invariant-loop-offset
invariant-loop-offset l =
    settled_words (l.start + l.offset) l.ask.moment (drop l.offset l.ask.words) (record { durable = l.durable; since = l.since })
    ≡ settled_words l.start l.ask.moment l.ask.words (record { durable = l.fn.durable; since = l.fn.since })
