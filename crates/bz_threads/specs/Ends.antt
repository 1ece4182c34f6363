-- How a run on threads ends.
use Rattle.std.specs.Prelude.{◌≡◌, None}
use Rattle.bz_script.specs.declared.item.Plan.TheVariants.{Threads}
use Rattle.bz_sched.specs.OpenCalls.{EndsCalls}
use Rattle.bz_sched.specs.Points.{Point}
use Rattle.bz_sched.specs.Queued.{Queued}
use Rattle.bz_sched.specs.Runs.{point_of, HasRun, Stays}
use Rattle.bz_sched.specs.Together.{RunsThreadsUpTo, MeetsTogether}
use Rattle.bz_sched.specs.declared.running.RunEnd.TheVariants as run
use Rattle.bz_threads.specs.declared.running.ThreadsEnd.{ThreadsEnd}
use Rattle.bz_threads.specs.declared.running.ThreadsEnd.TheVariants as end
use Rattle.bz_index.specs.FromWorld.WorldView.{WorldView}

-- as a run by the plan; or up to a limit, which was met at a moment of it, and then the queue tells nothing; or, where memory was wanting, with the calls that
-- were open ended and none begun
abbrev pub HasRunThreads : WorldView → Queued → ThreadsEnd → WorldView → Queued → Type 0
HasRunThreads old queued end.Finished new left = HasRun None Threads old queued run.Finished new left
HasRunThreads old queued (end.Limit why) new left =
    Stays old new × ((at : Point) × RunsThreadsUpTo why (point_of old queued) at × (at.past ≡ new.log.past) × MeetsTogether old.log.limits why (point_of old queued) at)
HasRunThreads old queued end.Memory new left = Stays old new × ((at : Point) × EndsCalls (point_of old queued) at × (at.past ≡ new.log.past))
