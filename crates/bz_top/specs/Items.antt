-- What the items of a script do to a world.
use Rattle.std.specs.Prelude.{◌≡◌, ◌≢◌, true, ◌≤◌, ◌⊎◌, ℕ, ◌+◌, List, [], Option, Some, None}
use Rattle.bz_call.specs.declared.calls.Call.{Call}
use Rattle.bz_layout.specs.Addresses.{words_of}
use Rattle.bz_mark.specs.Log.{Limits}
use Rattle.bz_mark.specs.declared.marks.Mark.{Mark}
use Rattle.bz_script.specs.ItemLaws.{IsItem}
use Rattle.bz_script.specs.Order.{takes_no_cut}
use Rattle.bz_script.specs.declared.item.Item.{Item}
use Rattle.bz_script.specs.declared.item.Item.TheVariants.{Queue, Arm, Run, Power}
use Rattle.bz_mark.specs.declared.power.Power.{Power as State}
use Rattle.bz_mark.specs.declared.power.Power.TheVariants as power
use Rattle.bz_sched.specs.FromWorld.WorldView.{WorldView, power_in}
use Rattle.bz_sched.specs.FromWorld.LimitKind.{LimitKind}
use Rattle.bz_sched.specs.AtLimit.{MeetsLimit}
use Rattle.bz_sched.specs.Plans.{RunsWhole, RunsCut, RunsInPart}
use Rattle.bz_sched.specs.Points.{Point}
use Rattle.bz_sched.specs.Queued.{Queued}
use Rattle.bz_sched.specs.Recoveries.{Powers, PowersCut, PowersInPart}
use Rattle.bz_sched.specs.Runs.{point_of, point_with, Stays, IsCutPlan}
use Rattle.bz_sched.specs.Scripts.{queued, LeadsTo, MeetsBy, LeadsToInPart, WantsMemory, LeadsToWant}
use Rattle.bz_script.specs.declared.cut_plan.CutPlan.{CutPlan}
use Rattle.bz_sched.specs.declared.running.RunEnd.{RunEnd}
use Rattle.bz_sched.specs.declared.running.RunEnd.TheVariants.{Finished, Cut, Limit}
use Rattle.bz_threads.specs.declared.running.ThreadsEnd.{ThreadsEnd}
use Rattle.bz_threads.specs.declared.running.ThreadsEnd.TheVariants as threads
use Rattle.bz_top.specs.Endings.{at_first, items_from}
use Rattle.bz_top.specs.declared.items.ItemsEnd.{ItemsEnd}
use Rattle.bz_top.specs.declared.items.ItemsEnd.TheVariants as end

-- how a run ended, as the end of its item: after a cut that was armed the script goes on
abbrev pub end_in : RunEnd → ItemsEnd
end_in (Limit which) = end.Limit which
end_in Finished = end.Finished
end_in Cut = end.Finished

-- the calls that wait when power on has ended: none where its cut was made
abbrev pub left_after : RunEnd → List (ℕ × Call) → List (ℕ × Call)
left_after Cut calls = []
left_after other calls = calls

abbrev pub end_of_threads : ThreadsEnd → ItemsEnd
end_of_threads (threads.Limit which) = end.Limit which
end_of_threads threads.Memory = end.Memory
end_of_threads threads.Finished = end.Finished

-- an item may be done now: a run asks for the power, and one on threads that no cut is armed
abbrev pub IsReadyFor : Option CutPlan → WorldView → Item → Type 0
IsReadyFor armed world (Queue w call) = IsItem (Queue w call)
IsReadyFor armed world (Arm flush seed) = IsItem (Arm flush seed)
IsReadyFor armed world (Run plan) = IsItem (Run plan) × (power_in world ≡ power.On) × (takes_no_cut plan ≡ true → armed ≡ None)
IsReadyFor armed world Power = Unit {0}

-- one item, from a point and with the cut that is armed: where it leads, and what is armed then
abbrev pub Leads : State → List ℕ → ℕ → Option CutPlan → Point → Item → Option CutPlan → Point → Type 0
Leads at_start start words armed old (Queue w call) next new = (next ≡ armed) × (new ≡ queued (w, call) old)
Leads at_start start words armed old (Arm flush seed) next new = (next ≡ Some (record { flush = flush; seed = seed })) × (new ≡ old)
Leads at_start start words armed old (Run plan) next new = (next ≡ None) × (RunsWhole words armed plan old new ⊎ RunsCut start words armed plan old new)
Leads at_start start words armed old Power next new = (next ≡ None) × (Powers at_start armed old new ⊎ PowersCut at_start start words armed old new)

-- and where it leads up to a limit of these
abbrev pub LeadsInPart : LimitKind → Limits → State → List ℕ → ℕ → Option CutPlan → Point → Item → Point → Type 0
LeadsInPart why limits at_start start words armed old (Run plan) new = RunsInPart why start words armed plan old new × MeetsBy plan limits why old new
LeadsInPart why limits at_start start words armed old Power new = PowersInPart why at_start start words armed old new × MeetsLimit limits new.past why
LeadsInPart why limits at_start start words armed old other new = ⊥

-- and where it leads up to want of memory
abbrev pub LeadsToWantIn : Point → Item → Point → Type 0
LeadsToWantIn old (Run plan) new = WantsMemory plan old new
LeadsToWantIn old other new = ⊥

-- after a run or a power on for which no cut was armed the power is on; a line of another kind leaves it
abbrev pub LeavesPower : Option CutPlan → WorldView → Item → WorldView → Type 0
LeavesPower armed old (Queue w call) new = power_in new ≡ power_in old
LeavesPower armed old (Arm flush seed) new = power_in new ≡ power_in old
LeavesPower armed old (Run plan) new = armed ≡ None → power_in new ≡ power.On
LeavesPower armed old Power new = armed ≡ None → power_in new ≡ power.On

-- an item was done
pub record IsDoneItem (armed : Option CutPlan) (old : WorldView) (queue : Queued) (item : Item) (next : Option CutPlan) (new : WorldView) (left : Queued) : Type 0 where
  pub stays : Stays old new
  pub steady : power_in new ≢ power.Recovering
  pub room : queue.room ≤ left.room + 1
  pub cut : IsCutPlan next
  pub leads : Leads old.at_start old.log.start (words_of old.config) armed (point_of old queue) item next (point_of new left)
  pub power : LeavesPower armed old item new

-- it met a limit
pub record IsStoppedItem (which : LimitKind) (armed : Option CutPlan) (old : WorldView) (queue : Queued) (item : Item) (new : WorldView) : Type 0 where
  pub stays : Stays old new
  pub at : Point
  pub leads : LeadsInPart which old.log.limits old.at_start old.log.start (words_of old.config) armed (point_of old queue) item at
  pub past : at.past ≡ new.log.past

-- memory was wanting for it
pub record IsWantingItem (old : WorldView) (queue : Queued) (item : Item) (new : WorldView) : Type 0 where
  pub stays : Stays old new
  pub at : Point
  pub leads : LeadsToWantIn (point_of old queue) item at
  pub past : at.past ≡ new.log.past

abbrev pub HasDone : Option CutPlan → WorldView → Queued → Item → ItemsEnd → Option CutPlan → WorldView → Queued → Type 0
HasDone armed old queue item end.Finished next new left = IsDoneItem armed old queue item next new left
HasDone armed old queue item (end.Limit which) next new left = IsStoppedItem which armed old queue item new
HasDone armed old queue item end.Memory next new left = IsWantingItem old queue item new

-- a world has gone on as the items lead from this point
pub record IsLedFrom (first : Point) (old : WorldView) (items : List Item) (new : WorldView) : Type 0 where
  pub on : Stays old new
  pub follows : LeadsTo old.at_start old.log.start (words_of old.config) None first items new.log.past

-- it has gone on so far, and has met a limit
pub record IsLedFromInPart (first : Point) (old : WorldView) (items : List Item) (which : LimitKind) (new : WorldView) : Type 0 where
  pub on : Stays old new
  pub follows : LeadsToInPart which old.log.limits old.at_start old.log.start (words_of old.config) None first items new.log.past

-- it has gone on so far, and memory was wanting for a run on threads
pub record IsLedFromToWant (first : Point) (old : WorldView) (items : List Item) (new : WorldView) : Type 0 where
  pub on : Stays old new
  pub follows : LeadsToWant old.at_start old.log.start (words_of old.config) None first items new.log.past

abbrev pub ItemsDone : Point → WorldView → List Item → ItemsEnd → WorldView → Type 0
ItemsDone first old items end.Finished new = IsLedFrom first old items new
ItemsDone first old items (end.Limit which) new = IsLedFromInPart first old items which new
ItemsDone first old items end.Memory new = IsLedFromToWant first old items new

-- the same of a world in which nothing had happened, and of the items that it begins with
abbrev pub ItemsRan : WorldView → List Item → ItemsEnd → WorldView → Type 0
ItemsRan old items how new = ItemsDone at_first old (items_from old.at_start items) how new

-- the power is on, as it was or because it has come on; no call waits yet
pub record IsTurnedOn (old new : WorldView) : Type 0 where
  pub stays : Stays old new
  pub on : power_in new ≡ power.On
  pub items : (items : List Item) (past : List Mark) → LeadsTo old.at_start old.log.start (words_of old.config) None (point_with new []) items past
      → LeadsTo old.at_start old.log.start (words_of old.config) None at_first (items_from old.at_start items) past
  pub in_part : (why : LimitKind) (items : List Item) (past : List Mark) → LeadsToInPart why old.log.limits old.at_start old.log.start (words_of old.config) None (point_with new []) items past
      → LeadsToInPart why old.log.limits old.at_start old.log.start (words_of old.config) None at_first (items_from old.at_start items) past
  pub to_want : (items : List Item) (past : List Mark) → LeadsToWant old.at_start old.log.start (words_of old.config) None (point_with new []) items past
      → LeadsToWant old.at_start old.log.start (words_of old.config) None at_first (items_from old.at_start items) past

-- power on asks for no memory
abbrev pub TurnsOn : WorldView → ItemsEnd → WorldView → Type 0
TurnsOn old end.Finished new = IsTurnedOn old new
TurnsOn old (end.Limit which) new = (items : List Item) → IsLedFromInPart at_first old (items_from old.at_start items) which new
TurnsOn old end.Memory new = ⊥
