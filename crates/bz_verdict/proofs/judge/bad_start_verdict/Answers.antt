use Rattle.std.proofs.Common.{arith}
use Rattle.bz_verdict.proofs.Starting.{broken_at_start, broken_by_effects}
use Rattle.bz_verdict.proofs.judge.bad_start_verdict.Goals as goal

pub returns-then-moment-eq0 : goal.returns-then-moment-eq0
returns-then-moment-eq0 c = broken_at_start c.args.journal.now.start c.args.journal.now.past c.first_outer-moment.result c.if-moment-eq0.true c.first_outer-moment.ensures

pub returns : goal.returns
returns c = broken_by_effects c.args.journal.now.start c.args.journal.now.past c.first_outer-moment.result (omega (arith, c.if-moment-eq0.false)) c.first_outer-moment.ensures
