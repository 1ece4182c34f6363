-- What a run by a plan adds to a journal, with a cut armed or without. The newest mark stands first.
use Rattle.std.specs.Prelude.{◌≡◌, ◌<◌, ℕ, ◌+◌, List, ◌⊎◌, Option, Some, None}
use Rattle.bz_ring.specs.declared.marks.QMark.{QMark}
use Rattle.bz_qscript.specs.declared.item.QPlan.{QPlan}
use Rattle.bz_qscript.specs.declared.item.QPlan.TheVariants.{Alone, List as ByList}
use Rattle.bz_queue.specs.declared.answers.QLimit.{QLimit}
use Rattle.bz_queue.specs.declared.answers.QLimit.TheVariants as which
use Rattle.bz_qsched.specs.Cuts.{CutsOff, CutsOffInPart}
use Rattle.bz_qsched.specs.Points.{Point, fences_of}
use Rattle.bz_qsched.specs.Turns.{EndsAlone, RunsList}
use Rattle.bz_qsched.specs.TurnsInPart.{EndsAloneInPart, RunsListInPart}
use Rattle.bz_script.specs.declared.cut_plan.CutPlan.{CutPlan}
use Rattle.bz_qsched.specs.declared.turn.Stop.{Stop}
use Rattle.bz_qsched.specs.declared.turn.Stop.TheVariants.{Due, Limit}

-- a run by a plan. Calls that a list leaves open or queued stay so.
abbrev pub RunsBy : QPlan → Point → Point → Type 0
RunsBy Alone old new = EndsAlone old new
RunsBy (ByList turns) old new = RunsList turns old new

-- the same up to where it stops
abbrev pub RunsByInPart : Stop → QPlan → Point → Point → Type 0
RunsByInPart why Alone old new = EndsAloneInPart why old new
RunsByInPart why (ByList turns) old new = RunsListInPart why turns old new

-- where a cut is armed, fewer fences were made than it waits for
abbrev pub IsBefore : Option CutPlan → List QMark → List QMark → Type 0
IsBefore None old new = Unit {0}
IsBefore (Some cut) old new = fences_of new < fences_of old + cut.flush

-- a run that came to its end
abbrev pub RunsWhole : Option CutPlan → QPlan → Point → Point → Type 0
RunsWhole cut plan old new = RunsBy plan old new × IsBefore cut old.past new.past

-- a run up to where the power is cut: a step of this worker was to come, and all but one of the fences that the cut waits for
-- were made
pub record IsDueInRun (cut : CutPlan) (plan : QPlan) (w : ℕ) (old mid : Point) : Type 0 where
  pub runs : RunsByInPart (Due w) plan old mid
  pub flushes : fences_of mid.past + 1 ≡ fences_of old.past + cut.flush

-- a run in which the cut was made before a step of this worker, over a memory with this start and of so many words
abbrev pub RunsCutBefore : List ℕ → ℕ → Option CutPlan → QPlan → ℕ → Point → Point → Type 0
RunsCutBefore start words None plan w old new = ⊥
RunsCutBefore start words (Some cut) plan w old new = (mid : Point) × IsDueInRun cut plan w old mid × CutsOff start words cut.seed mid new

-- before a step of some worker
abbrev pub RunsCut : List ℕ → ℕ → Option CutPlan → QPlan → Point → Point → Type 0
RunsCut start words None plan old new = ⊥
RunsCut start words (Some cut) plan old new = (w : ℕ) × RunsCutBefore start words (Some cut) plan w old new

abbrev pub CutInPart : List ℕ → ℕ → Option CutPlan → QPlan → Point → Point → Type 0
CutInPart start words None plan old new = ⊥
CutInPart start words (Some cut) plan old new = (mid : Point) × ((w : ℕ) × IsDueInRun cut plan w old mid) × CutsOffInPart start words cut.seed mid new

-- a run that met a limit: by itself, or in what belongs to the cut
abbrev pub RunsInPart : QLimit → List ℕ → ℕ → Option CutPlan → QPlan → Point → Point → Type 0
RunsInPart why start words cut plan old new =
    (RunsByInPart (Limit why) plan old new × IsBefore cut old.past new.past) ⊎ ((why ≡ which.Marks) × CutInPart start words cut plan old new)
