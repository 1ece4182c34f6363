-- What runs and power on ask of a world, and what they do to a world and a queue.
use Rattle.std.specs.Prelude.{◌≡◌, ◌<◌, ◌≤◌, ℕ, ◌-◌, true, List, [], length, Option, Some, None}
use Rattle.bz_ring.specs.declared.calls.QCall.{QCall}
use Rattle.bz_ring.specs.Content.{size_of}
use Rattle.bz_queue.specs.declared.open.Numbers.{Numbers}
use Rattle.bz_layout.specs.declared.limits.TheConstants.{MAX_WORKERS}
use Rattle.bz_qscript.specs.declared.item.QPlan.{QPlan}
use Rattle.bz_ring.specs.Calls.{open_call}
use Rattle.bz_mark.specs.declared.power.Power.TheVariants as power
use Rattle.bz_queue.specs.QueueView.{QueueView, power_in, flush_of}
use Rattle.bz_queue.specs.declared.answers.QLimit.{QLimit}
use Rattle.bz_qsched.specs.AtLimit.{MeetsLimit}
use Rattle.bz_qsched.specs.Fuses.{Burns, Fused}
use Rattle.bz_qsched.specs.Points.{Point}
use Rattle.bz_qsched.specs.Plans.{RunsWhole, RunsCut, RunsInPart}
use Rattle.bz_qsched.specs.Queued.{Queued}
use Rattle.bz_qsched.specs.Recoveries.{Powers, PowersCut, PowersInPart}
use Rattle.bz_script.specs.declared.cut_plan.CutPlan.{CutPlan}
use Rattle.bz_qsched.specs.declared.running.RunEnd.{RunEnd}
use Rattle.bz_qsched.specs.declared.running.RunEnd.TheVariants as end
use Rattle.bz_qsched.specs.declared.turn.Stop.{Stop}
use Rattle.bz_qsched.specs.declared.turn.Stop.TheVariants as stop
use Rattle.bz_qsched.specs.declared.turn.Turned.{Turned}
use Rattle.bz_qsched.specs.declared.turn.Turned.TheVariants.{Finished, Stopped}

-- where a world stands while these calls wait
abbrev pub point_with : QueueView → List (ℕ × QCall) → Point
point_with world calls = record { past = world.log.past; queue = calls }

-- where a world and a queue stand
abbrev pub point_of : QueueView → Queued → Point
point_of world queued = point_with world queued.calls

-- and in a run
abbrev pub point_in : QueueView → Fused → Point
point_in world queued = point_with world queued.calls

-- the world has the workers 1 to 64
abbrev pub HasAllWorkers : Numbers → Type 0
HasAllWorkers numbers = MAX_WORKERS ≤ numbers.workers

-- this is one of them
pub record IsOneOfAll (w : ℕ) : Type 0 where
  pub some : 0 < w
  pub most : w ≤ MAX_WORKERS

-- turns may be taken
pub record IsReady (world : QueueView) : Type 0 where
  pub workers : HasAllWorkers world.numbers
  pub powered : power_in world ≡ power.On

-- how many places are left for marks
abbrev pub marks_left : QueueView → ℕ
marks_left lab = lab.log.most - length lab.log.past

-- the limit is the first that is met by the journal as it is
abbrev pub IsAtLimit : QueueView → QLimit → Type 0
IsAtLimit lab why = MeetsLimit lab.log.most lab.numbers.calls lab.log.past why

-- why a part of a run stopped is so: the limit is met, or the next act of the worker is a fence and no more may be made
abbrev pub IsStopped : QueueView → Option ℕ → Stop → Type 0
IsStopped lab fuse (stop.Limit why) = IsAtLimit lab why
IsStopped lab fuse (stop.Due w) = (flush_of lab w ≡ true) × (fuse ≡ Some 0)

-- what a part of a run leaves as it was, however it ends: a next one may begin, the world is the same one, and the queue has
-- as much room for further calls as before
pub record Keeps (old : QueueView) (queued : Fused) (new : QueueView) (left : Fused) : Type 0 where
  pub ready : IsReady new
  pub numbers : new.numbers ≡ old.numbers
  pub start : new.log.start ≡ old.log.start
  pub most : new.log.most ≡ old.log.most
  pub room : left.room ≡ queued.room
  pub fuse : Burns old.log.past queued.fuse new.log.past left.fuse

-- how a part of a run ends: it is whole by the one relation of points, or by the other one up to where it stopped
abbrev pub EndsBy : (Point → Point → Type 0) → (Stop → Point → Point → Type 0) → QueueView → Fused → Turned → QueueView → Fused → Type 0
EndsBy Whole InPart old queued Finished new left = Keeps old queued new left × Whole (point_in old queued) (point_in new left)
EndsBy Whole InPart old queued (Stopped why) new left =
    Keeps old queued new left × InPart why (point_in old queued) (point_in new left) × IsStopped new left.fuse why

-- the world is the same one: its numbers stay, what the power was at first, and the start and the limits of its journal
pub record Stays (old new : QueueView) : Type 0 where
  pub numbers : new.numbers ≡ old.numbers
  pub start : new.log.start ≡ old.log.start
  pub most : new.log.most ≡ old.log.most

-- and the queue has at least as much room as before
pub record Leaves (old : QueueView) (queued : Queued) (new : QueueView) (left : Queued) : Type 0 where
  pub stays : Stays old new
  pub room : queued.room ≤ left.room

-- a cut waits for a fence from 1 on
abbrev pub IsCutPlan : Option CutPlan → Type 0
IsCutPlan None = Unit {0}
IsCutPlan (Some cut) = 1 ≤ cut.flush

-- how a run by a plan ends, with this cut armed or none
abbrev pub HasRun : Option CutPlan → QPlan → QueueView → Queued → RunEnd → QueueView → Queued → Type 0
HasRun cut plan old queued end.Finished new left =
    Leaves old queued new left × (power_in new ≡ power.On) × RunsWhole cut plan (point_of old queued) (point_of new left)
HasRun cut plan old queued end.Cut new left =
    Leaves old queued new left × (power_in new ≡ power.Off)
    × RunsCut old.log.start (size_of old.numbers.ring) cut plan (point_of old queued) (point_of new left)
HasRun cut plan old queued (end.Limit why) new left =
    Stays old new × RunsInPart why old.log.start (size_of old.numbers.ring) cut plan (point_of old queued) (point_of new left) × IsAtLimit new why

-- how power on ends, with this cut armed or none, whatever calls wait: they stay, and where the cut was made they are to be
-- dropped.
abbrev pub HasPower : Option CutPlan → QueueView → RunEnd → QueueView → Type 0
HasPower cut old end.Finished new =
    Stays old new × (power_in new ≡ power.On) × ((calls : List (ℕ × QCall)) → Powers cut (point_with old calls) (point_with new calls))
HasPower cut old end.Cut new =
    Stays old new × (power_in new ≡ power.Off)
    × ((calls : List (ℕ × QCall)) → PowersCut old.log.start (size_of old.numbers.ring) cut (point_with old calls) (point_with new []))
HasPower cut old (end.Limit why) new =
    Stays old new × ((calls : List (ℕ × QCall)) → PowersInPart why old.log.start (size_of old.numbers.ring) cut (point_with old calls) (point_with new calls)) × IsAtLimit new why
