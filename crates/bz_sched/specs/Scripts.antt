-- What a script's items add to a journal, item by item. The newest mark stands first.
use Rattle.std.specs.Prelude.{◌≡◌, ℕ, List, [], ◌∷◌, ◌++◌, ◌⊎◌, Option, Some, None}
use Rattle.bz_call.specs.declared.calls.Call.{Call}
use Rattle.bz_mark.specs.Log.{Limits}
use Rattle.bz_mark.specs.declared.marks.Mark.{Mark}
use Rattle.bz_script.specs.declared.item.Item.{Item}
use Rattle.bz_script.specs.declared.item.Item.TheVariants.{Queue, Arm, Run, Power}
use Rattle.bz_script.specs.declared.item.Plan.{Plan}
use Rattle.bz_script.specs.declared.item.Plan.TheVariants.{Threads}
use Rattle.bz_mark.specs.declared.power.Power.{Power as State}
use Rattle.bz_world.specs.declared.answers.LimitKind.{LimitKind}
use Rattle.bz_sched.specs.AtLimit.{MeetsLimit}
use Rattle.bz_sched.specs.OpenCalls.{EndsCalls}
use Rattle.bz_sched.specs.Plans.{RunsWhole, RunsCut, RunsInPart}
use Rattle.bz_sched.specs.Points.{Point}
use Rattle.bz_sched.specs.Recoveries.{Powers, PowersCut, PowersInPart}
use Rattle.bz_sched.specs.Together.{MeetsTogether}
use Rattle.bz_script.specs.declared.cut_plan.CutPlan.{CutPlan}

-- the point at which a `w` line has put its call behind those that wait
abbrev pub queued : ℕ × Call → Point → Point
queued call point = record { past = point.past; queue = point.queue ++ call ∷ [] }

-- From this point the items lead to these marks, over a memory with this start and of so many words, with this power at first. A `cut` line arms the next
-- run or power on, which ends as if it were not armed, or with the cut.
abbrev pub LeadsTo : State → List ℕ → ℕ → Option CutPlan → Point → List Item → List Mark → Type 0
LeadsTo at_start start words armed old [] new = new ≡ old.past
LeadsTo at_start start words armed old (Queue w call ∷ items) new = LeadsTo at_start start words armed (queued (w, call) old) items new
LeadsTo at_start start words armed old (Arm flush seed ∷ items) new = LeadsTo at_start start words (Some (record { flush = flush; seed = seed })) old items new
LeadsTo at_start start words armed old (Run plan ∷ items) new =
    (mid : Point) × (RunsWhole words armed plan old mid ⊎ RunsCut start words armed plan old mid) × LeadsTo at_start start words None mid items new
LeadsTo at_start start words armed old (Power ∷ items) new =
    (mid : Point) × (Powers at_start armed old mid ⊎ PowersCut at_start start words armed old mid) × LeadsTo at_start start words None mid items new

-- a run by a plan met a limit of these: it is met at its end, or on threads at a moment of it
abbrev pub MeetsBy : Plan → Limits → LimitKind → Point → Point → Type 0
MeetsBy Threads limits why old new = MeetsTogether limits why old new
MeetsBy other limits why old new = MeetsLimit limits new.past why

-- they lead there up to an item that met a limit of these; the items behind it are left out
abbrev pub LeadsToInPart : LimitKind → Limits → State → List ℕ → ℕ → Option CutPlan → Point → List Item → List Mark → Type 0
LeadsToInPart why limits at_start start words armed old [] new = ⊥
LeadsToInPart why limits at_start start words armed old (Queue w call ∷ items) new = LeadsToInPart why limits at_start start words armed (queued (w, call) old) items new
LeadsToInPart why limits at_start start words armed old (Arm flush seed ∷ items) new = LeadsToInPart why limits at_start start words (Some (record { flush = flush; seed = seed })) old items new
LeadsToInPart why limits at_start start words armed old (Run plan ∷ items) new =
    ((end : Point) × RunsInPart why start words armed plan old end × MeetsBy plan limits why old end × (new ≡ end.past))
    ⊎ ((mid : Point) × (RunsWhole words armed plan old mid ⊎ RunsCut start words armed plan old mid) × LeadsToInPart why limits at_start start words None mid items new)
LeadsToInPart why limits at_start start words armed old (Power ∷ items) new =
    ((end : Point) × PowersInPart why at_start start words armed old end × MeetsLimit limits end.past why × (new ≡ end.past))
    ⊎ ((mid : Point) × (Powers at_start armed old mid ⊎ PowersCut at_start start words armed old mid) × LeadsToInPart why limits at_start start words None mid items new)

-- a run on threads for which memory was wanting: the calls that were open have been ended, and none was begun
abbrev pub WantsMemory : Plan → Point → Point → Type 0
WantsMemory Threads old new = EndsCalls old new
WantsMemory other old new = ⊥

-- they lead there up to such a run; the items behind it are left out
abbrev pub LeadsToWant : State → List ℕ → ℕ → Option CutPlan → Point → List Item → List Mark → Type 0
LeadsToWant at_start start words armed old [] new = ⊥
LeadsToWant at_start start words armed old (Queue w call ∷ items) new = LeadsToWant at_start start words armed (queued (w, call) old) items new
LeadsToWant at_start start words armed old (Arm flush seed ∷ items) new = LeadsToWant at_start start words (Some (record { flush = flush; seed = seed })) old items new
LeadsToWant at_start start words armed old (Run plan ∷ items) new =
    ((end : Point) × WantsMemory plan old end × (new ≡ end.past))
    ⊎ ((mid : Point) × (RunsWhole words armed plan old mid ⊎ RunsCut start words armed plan old mid) × LeadsToWant at_start start words None mid items new)
LeadsToWant at_start start words armed old (Power ∷ items) new =
    (mid : Point) × (Powers at_start armed old mid ⊎ PowersCut at_start start words armed old mid) × LeadsToWant at_start start words None mid items new
