-- What runs and power on ask of a world, and what they do to a world and a queue.
use Rattle.std.specs.Prelude.{◌≡◌, ◌<◌, ◌≤◌, ℕ, ◌-◌, true, List, [], length, Option, Some, None}
use Rattle.bz_call.specs.declared.calls.Call.{Call}
use Rattle.bz_layout.specs.Addresses.{words_of}
use Rattle.bz_layout.specs.declared.config.Config.{Config}
use Rattle.bz_layout.specs.declared.limits.TheConstants.{MAX_WORKERS}
use Rattle.bz_script.specs.declared.item.Plan.{Plan}
use Rattle.bz_script.specs.declared.item.Plan.TheVariants.{Threads}
use Rattle.bz_sound.specs.Calls.{open_call}
use Rattle.bz_mark.specs.declared.power.Power.TheVariants as power
use Rattle.bz_world.specs.WorldView.{WorldView, power_in, flush_of, flush_left_out}
use Rattle.bz_world.specs.declared.answers.LimitKind.{LimitKind}
use Rattle.bz_sched.specs.AtLimit.{MeetsLimit}
use Rattle.bz_sched.specs.Fuses.{Burns, Fused}
use Rattle.bz_sched.specs.OpenCalls.{EndsCalls, EndsCallsInPart}
use Rattle.bz_sched.specs.Points.{Point}
use Rattle.bz_sched.specs.Plans.{RunsWhole, RunsCutBefore, RunsInPart}
use Rattle.bz_sched.specs.Queued.{Queued}
use Rattle.bz_sched.specs.Recoveries.{Powers, PowersCut, PowersInPart}
use Rattle.bz_script.specs.declared.cut_plan.CutPlan.{CutPlan}
use Rattle.bz_sched.specs.declared.running.RunEnd.{RunEnd}
use Rattle.bz_sched.specs.declared.running.RunEnd.TheVariants as end
use Rattle.bz_sched.specs.declared.turn.Stop.{Stop}
use Rattle.bz_sched.specs.declared.turn.Stop.TheVariants as stop
use Rattle.bz_sched.specs.declared.turn.Turned.{Turned}
use Rattle.bz_sched.specs.declared.turn.Turned.TheVariants.{Finished, Stopped}

-- where a world stands while these calls wait
abbrev pub point_with : WorldView → List (ℕ × Call) → Point
point_with world calls = record { past = world.log.past; queue = calls }

-- where a world and a queue stand
abbrev pub point_of : WorldView → Queued → Point
point_of world queued = point_with world queued.calls

-- and in a run
abbrev pub point_in : WorldView → Fused → Point
point_in world queued = point_with world queued.calls

-- the world has the workers 1 to 64
abbrev pub HasAllWorkers : Config → Type 0
HasAllWorkers config = MAX_WORKERS ≤ config.workers

-- this is one of them
pub record IsOneOfAll (w : ℕ) : Type 0 where
  pub some : 0 < w
  pub most : w ≤ MAX_WORKERS

-- turns may be taken
pub record IsReady (world : WorldView) : Type 0 where
  pub workers : HasAllWorkers world.config
  pub powered : power_in world ≡ power.On

-- how many places are left for marks
abbrev pub marks_left : WorldView → ℕ
marks_left lab = lab.log.limits.marks - length lab.log.past

-- the limit is the first that is met by the journal as it is
abbrev pub IsAtLimit : WorldView → LimitKind → Type 0
IsAtLimit lab why = MeetsLimit lab.log.limits lab.log.past why

-- why a part of a run stopped is so: the limit is met, or the next act of the worker is a fence and no more may be made
abbrev pub IsStopped : WorldView → Option ℕ → Stop → Type 0
IsStopped lab fuse (stop.Limit why) = IsAtLimit lab why
IsStopped lab fuse (stop.Due w) = (flush_of lab w ≡ true) × (fuse ≡ Some 0)

-- what a part of a run leaves as it was, however it ends: a next one may begin, the world is the same one, and the queue has
-- as much room for further calls as before
pub record Keeps (old : WorldView) (queued : Fused) (new : WorldView) (left : Fused) : Type 0 where
  pub ready : IsReady new
  pub config : new.config ≡ old.config
  pub at_start : new.at_start ≡ old.at_start
  pub start : new.log.start ≡ old.log.start
  pub limits : new.log.limits ≡ old.log.limits
  pub room : left.room ≡ queued.room
  pub fuse : Burns old.log.past queued.fuse new.log.past left.fuse

-- how a part of a run ends: it is whole by the one relation of points, or by the other one up to where it stopped
abbrev pub EndsBy : (Point → Point → Type 0) → (Stop → Point → Point → Type 0) → WorldView → Fused → Turned → WorldView → Fused → Type 0
EndsBy Whole InPart old queued Finished new left = Keeps old queued new left × Whole (point_in old queued) (point_in new left)
EndsBy Whole InPart old queued (Stopped why) new left =
    Keeps old queued new left × InPart why (point_in old queued) (point_in new left) × IsStopped new left.fuse why

-- the world is the same one: its numbers stay, what the power was at first, and the start and the limits of its journal
pub record Stays (old new : WorldView) : Type 0 where
  pub config : new.config ≡ old.config
  pub at_start : new.at_start ≡ old.at_start
  pub start : new.log.start ≡ old.log.start
  pub limits : new.log.limits ≡ old.log.limits

-- and the queue has at least as much room as before
pub record Leaves (old : WorldView) (queued : Queued) (new : WorldView) (left : Queued) : Type 0 where
  pub stays : Stays old new
  pub room : queued.room ≤ left.room

-- how the ending of calls that are open, or a part of it, ends, whatever calls wait: it is whole by the one relation of points, and a next
-- part may begin; or by the other one up to a limit
abbrev pub EndsOpenBy : (Point → Point → Type 0) → (Stop → Point → Point → Type 0) → WorldView → Option LimitKind → WorldView → Type 0
EndsOpenBy Whole InPart old None new = Stays old new × IsReady new × ((calls : List (ℕ × Call)) → Whole (point_with old calls) (point_with new calls))
EndsOpenBy Whole InPart old (Some why) new =
    Stays old new × ((calls : List (ℕ × Call)) → InPart (stop.Limit why) (point_with old calls) (point_with new calls)) × IsAtLimit new why

-- the turns of the plan are taken one after the other, and not on threads
abbrev pub IsOfTurns : Plan → Type 0
IsOfTurns Threads = ⊥
IsOfTurns other = Unit {0}

-- a cut waits for a fence from 1 on
abbrev pub IsCutPlan : Option CutPlan → Type 0
IsCutPlan None = Unit {0}
IsCutPlan (Some cut) = 1 ≤ cut.flush

-- how a run by a plan ends, with this cut armed or none. A cut comes before a step of a worker, and the act that it left out of it
-- was a fence.
abbrev pub HasRun : Option CutPlan → Plan → WorldView → Queued → RunEnd → WorldView → Queued → Type 0
HasRun cut plan old queued end.Finished new left =
    Leaves old queued new left × (power_in new ≡ power.On) × RunsWhole (words_of old.config) cut plan (point_of old queued) (point_of new left)
HasRun cut plan old queued end.Cut new left =
    Leaves old queued new left × (power_in new ≡ power.Off)
    × ((w : ℕ) × RunsCutBefore old.log.start (words_of old.config) cut plan w (point_of old queued) (point_of new left) × (flush_left_out new w ≡ true))
HasRun cut plan old queued (end.Limit why) new left =
    Stays old new × RunsInPart why old.log.start (words_of old.config) cut plan (point_of old queued) (point_of new left) × IsAtLimit new why

-- how the ending of the calls that are open ends: none is open then, or a limit was met
abbrev pub HasEndedCalls : WorldView → Queued → Option LimitKind → WorldView → Queued → Type 0
HasEndedCalls old queued None new left =
    Leaves old queued new left × (power_in new ≡ power.On) × ((w : ℕ) → open_call w new.log.past ≡ None) × EndsCalls (point_of old queued) (point_of new left)
HasEndedCalls old queued (Some why) new left = Stays old new × EndsCallsInPart (stop.Limit why) (point_of old queued) (point_of new left) × IsAtLimit new why

-- how power on ends, with this cut armed or none, whatever calls wait: they stay, and where the cut was made they are to be
-- dropped. The act of worker 0 that the cut left out was a fence
abbrev pub HasPower : Option CutPlan → WorldView → RunEnd → WorldView → Type 0
HasPower cut old end.Finished new =
    Stays old new × (power_in new ≡ power.On) × ((calls : List (ℕ × Call)) → Powers old.at_start cut (point_with old calls) (point_with new calls))
HasPower cut old end.Cut new =
    Stays old new × (power_in new ≡ power.Off)
    × ((calls : List (ℕ × Call)) → PowersCut old.at_start old.log.start (words_of old.config) cut (point_with old calls) (point_with new [])) × (flush_left_out new 0 ≡ true)
HasPower cut old (end.Limit why) new =
    Stays old new × ((calls : List (ℕ × Call)) → PowersInPart why old.at_start old.log.start (words_of old.config) cut (point_with old calls) (point_with new calls)) × IsAtLimit new why
