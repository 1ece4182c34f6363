use Rattle.std.proofs.Common.{subst}
use Rattle.bz_layout.specs.Config.{IsConfig}
use Rattle.bz_sched.proofs.OpenLemmas.{ended_whole, ended_limit}
use Rattle.bz_sched.proofs.open_calls.end_open_calls.Goals as goal

pub end_calls-requires : goal.end_calls-requires
end_calls-requires c = record { ready = record { workers = c.requires.workers; powered = c.requires.powered } }

pub returns-in-None : goal.returns-in-None
returns-in-None c = λ queued. ended_whole c.args.world.now c.end_calls.new.world queued (subst IsConfig c.config.ensures.config c.config.ensures.in_range) c.journal.ensures.workers c.in-None.ensures

pub returns-in-Some : goal.returns-in-Some
returns-in-Some c = λ queued. ended_limit c.args.world.now c.end_calls.new.world queued c.in-Some.which c.in-Some.ensures
