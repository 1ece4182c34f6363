use Rattle.std.proofs.Common.{sym}
use Rattle.bz_world.proofs.begin.begin.Goals as goal

pub returns-in-Some-clause-answer : goal.returns-in-Some-clause-answer
returns-in-Some-clause-answer c = sym (c.refusal.ensures.some c.in-Some.refusal c.in-Some.is).0
