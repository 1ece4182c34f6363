-- What a script's items add to a journal, item by item. The newest mark stands first.
use Rattle.std.specs.Prelude.{◌≡◌, ℕ, List, [], ◌∷◌, ◌++◌, ◌⊎◌, Option, Some, None}
use Rattle.bz_queue.specs.declared.answers.QLimit.{QLimit}
use Rattle.bz_qscript.specs.declared.item.QItem.{QItem}
use Rattle.bz_qscript.specs.declared.item.QItem.TheVariants.{Queue, Arm, Run, Power}
use Rattle.bz_ring.specs.declared.calls.QCall.{QCall}
use Rattle.bz_ring.specs.declared.marks.QMark.{QMark}
use Rattle.bz_script.specs.declared.cut_plan.CutPlan.{CutPlan}
use Rattle.bz_qsched.specs.AtLimit.{MeetsLimit}
use Rattle.bz_qsched.specs.Plans.{RunsWhole, RunsCut, RunsInPart}
use Rattle.bz_qsched.specs.Points.{Point}
use Rattle.bz_qsched.specs.Recoveries.{Powers, PowersCut, PowersInPart}

-- the point at which a `w` line has put its call behind those that wait
abbrev pub queued : ℕ × QCall → Point → Point
queued call point = record { past = point.past; queue = point.queue ++ call ∷ [] }

-- From this point the items lead to these marks, over a memory with this start and of so many words. A `cut` line arms the next run or power on, which ends as
-- if it were not armed, or with the cut.
abbrev pub LeadsTo : List ℕ → ℕ → Option CutPlan → Point → List QItem → List QMark → Type 0
LeadsTo start words armed old [] new = new ≡ old.past
LeadsTo start words armed old (Queue w call ∷ items) new = LeadsTo start words armed (queued (w, call) old) items new
LeadsTo start words armed old (Arm cut ∷ items) new = LeadsTo start words (Some cut) old items new
LeadsTo start words armed old (Run plan ∷ items) new =
    (mid : Point) × (RunsWhole armed plan old mid ⊎ RunsCut start words armed plan old mid) × LeadsTo start words None mid items new
LeadsTo start words armed old (Power ∷ items) new =
    (mid : Point) × (Powers armed old mid ⊎ PowersCut start words armed old mid) × LeadsTo start words None mid items new

-- they lead there up to an item that met a limit, of so many marks and so many calls; the items behind it are left out
abbrev pub LeadsToInPart : QLimit → ℕ → ℕ → List ℕ → ℕ → Option CutPlan → Point → List QItem → List QMark → Type 0
LeadsToInPart why marks calls start words armed old [] new = ⊥
LeadsToInPart why marks calls start words armed old (Queue w call ∷ items) new = LeadsToInPart why marks calls start words armed (queued (w, call) old) items new
LeadsToInPart why marks calls start words armed old (Arm cut ∷ items) new = LeadsToInPart why marks calls start words (Some cut) old items new
LeadsToInPart why marks calls start words armed old (Run plan ∷ items) new =
    ((end : Point) × RunsInPart why start words armed plan old end × MeetsLimit marks calls end.past why × (new ≡ end.past))
    ⊎ ((mid : Point) × (RunsWhole armed plan old mid ⊎ RunsCut start words armed plan old mid) × LeadsToInPart why marks calls start words None mid items new)
LeadsToInPart why marks calls start words armed old (Power ∷ items) new =
    ((end : Point) × PowersInPart why start words armed old end × MeetsLimit marks calls end.past why × (new ≡ end.past))
    ⊎ ((mid : Point) × (Powers armed old mid ⊎ PowersCut start words armed old mid) × LeadsToInPart why marks calls start words None mid items new)

-- where nothing has happened, and no call waits
abbrev pub at_first : Point
at_first = record { past = []; queue = [] }

-- a journal over this start and of so many words follows the items
abbrev pub Follows : List ℕ → ℕ → List QItem → List QMark → Type 0
Follows start words items past = LeadsTo start words None at_first items past

-- or up to a limit
abbrev pub FollowsInPart : QLimit → ℕ → ℕ → List ℕ → ℕ → List QItem → List QMark → Type 0
FollowsInPart why marks calls start words items past = LeadsToInPart why marks calls start words None at_first items past
