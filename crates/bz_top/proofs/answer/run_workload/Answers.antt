use Rattle.std.proofs.Common.{sym, subst}
use Rattle.std.specs.Prelude.{not}
use Rattle.bz_script.specs.Order.{takes_no_cut}
use Rattle.bz_script.specs.Script.{Job}
use Rattle.bz_top.specs.Threads.{AreRunBy}
use Rattle.bz_top.proofs.ThreadLemmas.{workload_in_turns}
use Rattle.bz_top.proofs.answer.run_workload.Goals as goal

pub run_script-requires-clause-script : goal.run_script-requires-clause-script
run_script-requires-clause-script g c = rw c.in-Ok.ensures (c.workloads_are_jobs.ensures c.args.seed c.args.calls c.args.workers c.requires.workers.0 c.requires.workers.1)

pub run_script-requires-clause-runs : goal.run_script-requires-clause-runs
run_script-requires-clause-runs g c = subst (λ (job : Job). AreRunBy (λ plan. not (takes_no_cut plan)) job.items) (sym c.in-Ok.ensures) (workload_in_turns c.args.seed c.args.calls c.args.workers)

pub returns-in-Ok : goal.returns-in-Ok
returns-in-Ok g c = rw c.in-Ok.ensures at c.run_script.ensures
