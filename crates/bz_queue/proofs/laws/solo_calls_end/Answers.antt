use Rattle.bz_queue.proofs.Solo.{solo-calls-end}
use Rattle.bz_queue.proofs.laws.solo_calls_end.Goals as goal

pub returns : goal.returns
returns c = solo-calls-end
