use Rattle.std.proofs.Common.{◌+◌}
use Rattle.bz_reading.proofs.marks_in.mark_in.Goals as goal

pub returns-then-is_text-clause-range : goal.returns-then-is_text-clause-range
returns-then-is_text-clause-range c = c.begin_in.ensures.range (c.args.last + 1) c.args.before

pub returns-then-is_text-2-clause-range : goal.returns-then-is_text-2-clause-range
returns-then-is_text-2-clause-range c = c.end_in.ensures.range (c.args.last + 1)

pub returns-in-Some-clause-range : goal.returns-in-Some-clause-range
returns-in-Some-clause-range c = c.in-Some.ensures.range c.args.before

pub returns-in-None-clause-range : goal.returns-in-None-clause-range
returns-in-None-clause-range c = c.event_in.ensures.range c.args.before

pub returns-in-Some-clause-numbered : goal.returns-in-Some-clause-numbered
returns-in-Some-clause-numbered c = c.in-Some.ensures.numbered c.args.page
