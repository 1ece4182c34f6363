use Rattle.std.proofs.Common.{◌≤◌, sym, ap, subst, arith}
use Rattle.bz_index.specs.declared.shared.Origin.{Origin}
use Rattle.bz_layout.specs.declared.config.Config.{Config}
use Rattle.bz_layout.specs.declared.limits.TheConstants.{MAX_WORKERS}
use Rattle.bz_mark.specs.Log.{Log}
use Rattle.bz_sched.specs.Runs.{HasAllWorkers}
use Rattle.bz_threads.proofs.Ending.{ended, ended_before, ended_early}
use Rattle.bz_threads.proofs.running.run_threads.Goals as goal
use Rattle.bz_threads.specs.Ends.{HasRunThreads}
use Rattle.bz_threads.specs.declared.running.ThreadsEnd.TheVariants.{Memory}
use Rattle.bz_index.specs.FromWorld.WorldView.{WorldView}

pub open-requires : goal.open-requires
open-requires g c = (c.in-None.ensures c.args.queue.now).2

pub run_on-end-requires-clause-workers : goal.run_on-end-requires-clause-workers
run_on-end-requires-clause-workers g c κs within =
    let ends = c.in-None.ensures c.args.queue.now in
    subst (λ (origin : Origin). HasAllWorkers origin.config) (sym c.in-Ok.ensures.index) (subst (λ (config : Config). HasAllWorkers config) (sym ends.0.stays.config) c.requires.workers)

pub returns-in-Some : goal.returns-in-Some
returns-in-Some g c = ended_before c.args.world c.end_open_calls.new.world c.args.queue.now c.args.queue.now c.in-Some.which (c.in-Some.ensures c.args.queue.now)

pub returns-in-Ok : goal.returns-in-Ok
returns-in-Ok g c =
    let ends = c.in-None.ensures c.args.queue.now in
    let origin = c.in-Ok.ensures.index in
    let closed = c.close-world.ensures.world.0 in
    let few = subst (λ (config : Config). config.workers ≤ MAX_WORKERS) c.config.ensures.config c.config.ensures.in_range.workers_in_range.at_most in
    ended c.args.world c.end_open_calls.new.world c.close-world.result c.args.queue.now c.args.queue.now c.clear.new.self c.in-Ok.index c.in-Ok.first c.run_on-end.new.first ends origin c.in-Ok.ensures.pass.2 closed
    (ap (λ (log : Log). log.past) c.close-world.ensures.log) c.journal.ensures.workers few c.clear.ensures.calls (omega (arith, ends.0.room, c.run_on-end.ensures.room, c.clear.ensures.room)) c.run_on-end.result c.run_on-end.ensures.end

pub returns-in-Err : goal.returns-in-Err
returns-in-Err g c =
    subst (λ (world : WorldView). HasRunThreads c.args.world c.args.queue.now Memory world c.args.queue.now) (sym c.in-Err.ensures.err)
    (ended_early c.args.world c.end_open_calls.new.world c.args.queue.now c.args.queue.now (c.in-None.ensures c.args.queue.now))
