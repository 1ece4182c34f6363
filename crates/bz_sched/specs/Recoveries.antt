-- Power on, and the recovery that follows. The newest mark stands first.
use Rattle.std.specs.Prelude.{◌≡◌, ℕ, zero, suc, ◌+◌, List, ◌∷◌, ◌⊎◌, Option, Some, None}
use Rattle.bz_mark.specs.declared.marks.Mark.{Mark}
use Rattle.bz_mark.specs.declared.marks.Mark.TheVariants.{Cut, On, Ready}
use Rattle.bz_mark.specs.Times.{power_of}
use Rattle.bz_mark.specs.declared.power.Power.{Power}
use Rattle.bz_mark.specs.declared.power.Power.TheVariants as power
use Rattle.bz_world.specs.declared.answers.LimitKind.{LimitKind}
use Rattle.bz_world.specs.declared.answers.LimitKind.TheVariants as which
use Rattle.bz_sched.specs.Cuts.{CutsOff, CutsOffInPart}
use Rattle.bz_sched.specs.Points.{Point, actor, fences_of}
use Rattle.bz_sched.specs.Plans.{IsBefore}
use Rattle.bz_script.specs.declared.cut_plan.CutPlan.{CutPlan}

-- the power is cut where it is on, without evictions; the calls that wait stay
abbrev pub off_by : Power → List Mark → List Mark
off_by power.On past = Cut ∷ past
off_by other past = past

abbrev pub turned_off : Power → List Mark → List Mark
turned_off at_start past = off_by (power_of at_start past) past

-- then it comes on
abbrev pub turned_on : Power → List Mark → List Mark
turned_on at_start past = On ∷ turned_off at_start past

-- an act of the recovery
pub record Recovers (old new : List Mark) : Type 0 where
  pub act : Mark
  pub own : actor act ≡ Some 0
  pub is : new ≡ act ∷ old

-- so many of them
abbrev pub RecoversTimes : ℕ → List Mark → List Mark → Type 0
RecoversTimes zero old new = new ≡ old
RecoversTimes (suc count) old new = (mid : List Mark) × Recovers old mid × RecoversTimes count mid new

-- a whole recovery: its last act is followed by a Ready
abbrev pub RecoversWhole : List Mark → List Mark → Type 0
RecoversWhole old new = (count : ℕ) × (mid : List Mark) × (last : List Mark) × RecoversTimes count old mid × Recovers mid last × (new ≡ Ready ∷ last)

-- power on, to the end of the recovery
abbrev pub Powers : Power → Option CutPlan → Point → Point → Type 0
Powers at_start cut old new = RecoversWhole (turned_on at_start old.past) new.past × IsBefore cut (turned_on at_start old.past) new.past × (new.queue ≡ old.queue)

-- up to the fence at which the power is cut
pub record IsDueInRecovery (at_start : Power) (cut : CutPlan) (old mid : Point) : Type 0 where
  pub count : ℕ
  pub recovers : RecoversTimes count (turned_on at_start old.past) mid.past
  pub flushes : fences_of mid.past + 1 ≡ fences_of (turned_on at_start old.past) + cut.flush
  pub queue : mid.queue ≡ old.queue

-- the cut was made
abbrev pub PowersCut : Power → List ℕ → ℕ → Option CutPlan → Point → Point → Type 0
PowersCut at_start start words None old new = ⊥
PowersCut at_start start words (Some cut) old new = (mid : Point) × IsDueInRecovery at_start cut old mid × CutsOff start words cut.seed mid new

abbrev pub CutInRecoveryInPart : Power → List ℕ → ℕ → Option CutPlan → Point → Point → Type 0
CutInRecoveryInPart at_start start words None old new = ⊥
CutInRecoveryInPart at_start start words (Some cut) old new = (mid : Point) × IsDueInRecovery at_start cut old mid × CutsOffInPart start words cut.seed mid new

-- the limit on marks forbade what was to come: the cut of the power that is on, power on, an act of the recovery, or what
-- belongs to the armed cut
abbrev pub PowersInPart : LimitKind → Power → List ℕ → ℕ → Option CutPlan → Point → Point → Type 0
PowersInPart why at_start start words cut old new =
    (why ≡ which.Marks)
    × (((new.past ≡ old.past) × (new.queue ≡ old.queue))
    ⊎ (((new.past ≡ turned_off at_start old.past) × (new.queue ≡ old.queue))
    ⊎ (((count : ℕ) × RecoversTimes count (turned_on at_start old.past) new.past × IsBefore cut (turned_on at_start old.past) new.past × (new.queue ≡ old.queue))
    ⊎ CutInRecoveryInPart at_start start words cut old new)))
