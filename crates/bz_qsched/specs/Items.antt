-- What the items of a script do to a queue.
use Rattle.std.specs.Prelude.{◌≡◌, ◌≢◌, ◌≤◌, ◌⊎◌, ℕ, ◌+◌, List, [], Option, Some, None}
use Rattle.bz_mark.specs.declared.power.Power.TheVariants as power
use Rattle.bz_qscript.specs.declared.item.QItem.{QItem}
use Rattle.bz_qscript.specs.declared.item.QItem.TheVariants.{Queue, Arm, Run, Power}
use Rattle.bz_queue.specs.QueueView.{QueueView, power_in}
use Rattle.bz_queue.specs.declared.answers.QLimit.{QLimit}
use Rattle.bz_ring.specs.Content.{size_of}
use Rattle.bz_ring.specs.declared.calls.QCall.{QCall}
use Rattle.bz_script.specs.declared.cut_plan.CutPlan.{CutPlan}
use Rattle.bz_qsched.specs.AtLimit.{MeetsLimit}
use Rattle.bz_qsched.specs.Plans.{RunsWhole, RunsCut, RunsInPart}
use Rattle.bz_qsched.specs.Points.{Point}
use Rattle.bz_qsched.specs.Queued.{Queued}
use Rattle.bz_qsched.specs.Recoveries.{Powers, PowersCut, PowersInPart}
use Rattle.bz_qsched.specs.Runs.{point_of, Stays, IsCutPlan}
use Rattle.bz_qsched.specs.Scripts.{queued, LeadsTo, LeadsToInPart}
use Rattle.bz_qsched.specs.declared.items.ItemsEnd.{ItemsEnd}
use Rattle.bz_qsched.specs.declared.items.ItemsEnd.TheVariants as end
use Rattle.bz_qsched.specs.declared.running.RunEnd.{RunEnd}
use Rattle.bz_qsched.specs.declared.running.RunEnd.TheVariants.{Finished, Cut, Limit}

-- how a run ended, as the end of its item: after a cut that was armed the script goes on
abbrev pub end_in : RunEnd → ItemsEnd
end_in (Limit which) = end.Limit which
end_in Finished = end.Finished
end_in Cut = end.Finished

-- the calls that wait when power on has ended: none where its cut was made
abbrev pub left_after : RunEnd → List (ℕ × QCall) → List (ℕ × QCall)
left_after Cut calls = []
left_after other calls = calls

-- an item may be done now: a run asks for the power
abbrev pub IsReadyFor : QueueView → QItem → Type 0
IsReadyFor world (Run plan) = power_in world ≡ power.On
IsReadyFor world other = Unit {0}

-- one item, from a point and with the cut that is armed: where it leads, and what is armed then
abbrev pub Leads : List ℕ → ℕ → Option CutPlan → Point → QItem → Option CutPlan → Point → Type 0
Leads start words armed old (Queue w call) next new = (next ≡ armed) × (new ≡ queued (w, call) old)
Leads start words armed old (Arm cut) next new = (next ≡ Some cut) × (new ≡ old)
Leads start words armed old (Run plan) next new = (next ≡ None) × (RunsWhole armed plan old new ⊎ RunsCut start words armed plan old new)
Leads start words armed old Power next new = (next ≡ None) × (Powers armed old new ⊎ PowersCut start words armed old new)

-- and where it leads up to a limit, of so many marks and so many calls
abbrev pub LeadsInPart : QLimit → ℕ → ℕ → List ℕ → ℕ → Option CutPlan → Point → QItem → Point → Type 0
LeadsInPart why marks calls start words armed old (Run plan) new = RunsInPart why start words armed plan old new × MeetsLimit marks calls new.past why
LeadsInPart why marks calls start words armed old Power new = PowersInPart why start words armed old new × MeetsLimit marks calls new.past why
LeadsInPart why marks calls start words armed old other new = ⊥

-- after a run or a power on for which no cut was armed the power is on; a line of another kind leaves it
abbrev pub LeavesPower : Option CutPlan → QueueView → QItem → QueueView → Type 0
LeavesPower armed old (Run plan) new = armed ≡ None → power_in new ≡ power.On
LeavesPower armed old Power new = armed ≡ None → power_in new ≡ power.On
LeavesPower armed old other new = power_in new ≡ power_in old

-- an item was done
pub record IsDoneItem (armed : Option CutPlan) (old : QueueView) (queue : Queued) (item : QItem) (next : Option CutPlan) (new : QueueView) (left : Queued) : Type 0 where
  pub stays : Stays old new
  pub steady : power_in new ≢ power.Recovering
  pub room : queue.room ≤ left.room + 1
  pub cut : IsCutPlan next
  pub leads : Leads old.log.start (size_of old.numbers.ring) armed (point_of old queue) item next (point_of new left)
  pub power : LeavesPower armed old item new

-- it met a limit
pub record IsStoppedItem (which : QLimit) (armed : Option CutPlan) (old : QueueView) (queue : Queued) (item : QItem) (new : QueueView) : Type 0 where
  pub stays : Stays old new
  pub at : Point
  pub leads : LeadsInPart which old.log.most old.numbers.calls old.log.start (size_of old.numbers.ring) armed (point_of old queue) item at
  pub past : at.past ≡ new.log.past

abbrev pub HasDone : Option CutPlan → QueueView → Queued → QItem → ItemsEnd → Option CutPlan → QueueView → Queued → Type 0
HasDone armed old queue item end.Finished next new left = IsDoneItem armed old queue item next new left
HasDone armed old queue item (end.Limit which) next new left = IsStoppedItem which armed old queue item new

-- a queue has gone on as the items lead from this point
pub record IsLedFrom (first : Point) (old : QueueView) (items : List QItem) (new : QueueView) : Type 0 where
  pub on : Stays old new
  pub follows : LeadsTo old.log.start (size_of old.numbers.ring) None first items new.log.past

-- it has gone on so far, and has met a limit
pub record IsLedFromInPart (first : Point) (old : QueueView) (items : List QItem) (which : QLimit) (new : QueueView) : Type 0 where
  pub on : Stays old new
  pub follows : LeadsToInPart which old.log.most old.numbers.calls old.log.start (size_of old.numbers.ring) None first items new.log.past

abbrev pub ItemsDone : Point → QueueView → List QItem → ItemsEnd → QueueView → Type 0
ItemsDone first old items end.Finished new = IsLedFrom first old items new
ItemsDone first old items (end.Limit which) new = IsLedFromInPart first old items which new
