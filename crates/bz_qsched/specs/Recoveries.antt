-- Power on, and the recovery that follows. The newest mark stands first.
use Rattle.std.specs.Prelude.{◌≡◌, ℕ, zero, suc, ◌+◌, List, ◌∷◌, ◌⊎◌, Option, Some, None}
use Rattle.bz_ring.specs.declared.marks.QMark.{QMark}
use Rattle.bz_mark.specs.declared.marks.Mark.TheVariants.{Cut, On, Ready}
use Rattle.bz_ring.specs.declared.marks.QMark.TheVariants.{Memory}
use Rattle.bz_ring.specs.Follows.{power_after}
use Rattle.bz_mark.specs.declared.power.Power.{Power}
use Rattle.bz_mark.specs.declared.power.Power.TheVariants as power
use Rattle.bz_queue.specs.declared.answers.QLimit.{QLimit}
use Rattle.bz_queue.specs.declared.answers.QLimit.TheVariants as which
use Rattle.bz_qsched.specs.Cuts.{CutsOff, CutsOffInPart}
use Rattle.bz_qsched.specs.Points.{Point, actor, fences_of}
use Rattle.bz_qsched.specs.Plans.{IsBefore}
use Rattle.bz_script.specs.declared.cut_plan.CutPlan.{CutPlan}

-- the power is cut where it is on, without evictions; the calls that wait stay
abbrev pub off_by : Power → List QMark → List QMark
off_by power.On past = Memory Cut ∷ past
off_by other past = past

abbrev pub turned_off : List QMark → List QMark
turned_off past = off_by (power_after past) past

-- then it comes on
abbrev pub turned_on : List QMark → List QMark
turned_on past = Memory On ∷ turned_off past

-- an act of the recovery
pub record Recovers (old new : List QMark) : Type 0 where
  pub act : QMark
  pub own : actor act ≡ Some 0
  pub is : new ≡ act ∷ old

-- so many of them
abbrev pub RecoversTimes : ℕ → List QMark → List QMark → Type 0
RecoversTimes zero old new = new ≡ old
RecoversTimes (suc count) old new = (mid : List QMark) × Recovers old mid × RecoversTimes count mid new

-- a whole recovery: its last act is followed by a Ready
abbrev pub RecoversWhole : List QMark → List QMark → Type 0
RecoversWhole old new = (count : ℕ) × (mid : List QMark) × (last : List QMark) × RecoversTimes count old mid × Recovers mid last × (new ≡ Memory Ready ∷ last)

-- power on, to the end of the recovery
abbrev pub Powers : Option CutPlan → Point → Point → Type 0
Powers cut old new = RecoversWhole (turned_on old.past) new.past × IsBefore cut (turned_on old.past) new.past × (new.queue ≡ old.queue)

-- up to the fence at which the power is cut
pub record IsDueInRecovery (cut : CutPlan) (old mid : Point) : Type 0 where
  pub count : ℕ
  pub recovers : RecoversTimes count (turned_on old.past) mid.past
  pub flushes : fences_of mid.past + 1 ≡ fences_of (turned_on old.past) + cut.flush
  pub queue : mid.queue ≡ old.queue

-- the cut was made
abbrev pub PowersCut : List ℕ → ℕ → Option CutPlan → Point → Point → Type 0
PowersCut start words None old new = ⊥
PowersCut start words (Some cut) old new = (mid : Point) × IsDueInRecovery cut old mid × CutsOff start words cut.seed mid new

abbrev pub CutInRecoveryInPart : List ℕ → ℕ → Option CutPlan → Point → Point → Type 0
CutInRecoveryInPart start words None old new = ⊥
CutInRecoveryInPart start words (Some cut) old new = (mid : Point) × IsDueInRecovery cut old mid × CutsOffInPart start words cut.seed mid new

-- the limit on marks forbade what was to come: the cut of the power that is on, power on, an act of the recovery, or what
-- belongs to the armed cut
abbrev pub PowersInPart : QLimit → List ℕ → ℕ → Option CutPlan → Point → Point → Type 0
PowersInPart why start words cut old new =
    (why ≡ which.Marks)
    × (((new.past ≡ old.past) × (new.queue ≡ old.queue))
    ⊎ (((new.past ≡ turned_off old.past) × (new.queue ≡ old.queue))
    ⊎ (((count : ℕ) × RecoversTimes count (turned_on old.past) new.past × IsBefore cut (turned_on old.past) new.past × (new.queue ≡ old.queue))
    ⊎ CutInRecoveryInPart start words cut old new)))
