use Rattle.bz_queue.proofs.Powered.{awake-in, kept-awake}
use Rattle.bz_queue.proofs.begin.begin.Goals as goal

pub open_call-requires : goal.open_call-requires
open_call-requires c = let may = c.in-None.ensures c.args.call c.requires.call in record { kept = awake-in c.args.parts.now c.requires.kept may.on; may = may }

pub returns-in-None-clause-kept : goal.returns-in-None-clause-kept
returns-in-None-clause-kept c = kept-awake c.open_call.new.parts c.open_call.ensures.kept
