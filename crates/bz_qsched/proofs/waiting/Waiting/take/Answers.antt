use Rattle.bz_qsched.proofs.QueueLemmas.{without_none}
use Rattle.bz_qsched.proofs.waiting.Waiting.take.Goals as goal

pub returns-in-None-clause-calls : goal.returns-in-None-clause-calls
returns-in-None-clause-calls c = without_none c.args.w c.args.self.now.calls c.in-None.ensures.first
