use Rattle.bz_verdict.proofs.Asking.{asks_nothing}
use Rattle.bz_verdict.proofs.questions.asked_at.Goals as goal

pub returns-in_default-clause-asks : goal.returns-in_default-clause-asks
returns-in_default-clause-asks c = asks_nothing c.args.journal.now.past c.args.i c.mark-mark.result c.page_of.result c.mark-mark.ensures c.page_of.ensures c.in_default.is
