-- What the parts of power on do to a world and to the fuse of a cut.
use Rattle.std.specs.Prelude.{◌≡◌, ◌<◌, ◌+◌, ℕ, List, ◌∷◌, ◌⊎◌, Option, Some, None}
use Rattle.bz_ring.specs.declared.marks.QMark.{QMark}
use Rattle.bz_mark.specs.declared.marks.Mark.TheVariants.{On, Ready}
use Rattle.bz_ring.specs.declared.marks.QMark.TheVariants.{Memory}
use Rattle.bz_mark.specs.declared.power.Power.TheVariants as power
use Rattle.bz_queue.specs.QueueView.{QueueView, power_in}
use Rattle.bz_queue.specs.declared.answers.QLimit.TheVariants as which
use Rattle.bz_qsched.specs.Fuses.{Burns}
use Rattle.bz_qsched.specs.Recoveries.{turned_off, turned_on, Recovers, RecoversTimes, RecoversWhole}
use Rattle.bz_qsched.specs.Runs.{IsStopped, Stays, marks_left}
use Rattle.bz_qsched.specs.declared.turn.Stop.{Stop}
use Rattle.bz_qsched.specs.declared.turn.Stop.TheVariants.{Due, Limit}
use Rattle.bz_qsched.specs.declared.turn.Turned.{Turned}
use Rattle.bz_qsched.specs.declared.turn.Turned.TheVariants.{Finished, Stopped}

-- the power is off, and was cut where it was on
pub record IsOff (old new : QueueView) : Type 0 where
  pub stays : Stays old new
  pub off : power_in new ≡ power.Off
  pub past : new.log.past ≡ turned_off old.log.past

-- it has come on, and the recovery has begun
pub record IsOn (old new : QueueView) : Type 0 where
  pub stays : Stays old new
  pub past : new.log.past ≡ Memory On ∷ old.log.past

-- a recovery may begin, from the marks after which the power has come on
pub record IsStarted (old new : QueueView) : Type 0 where
  pub stays : Stays old new
  pub past : new.log.past ≡ turned_on old.log.past

-- no place was left for the cut of the power that is on, or for power on
pub record StartStopped (old new : QueueView) : Type 0 where
  pub stays : Stays old new
  pub past : (new.log.past ≡ old.log.past) ⊎ (new.log.past ≡ turned_off old.log.past)
  pub met : marks_left new < 3

-- the recovery makes an act, and goes on
pub record RecoversOnce (old : QueueView) (fuse : Option ℕ) (new : QueueView) (left : Option ℕ) : Type 0 where
  pub stays : Stays old new
  pub burns : Burns old.log.past fuse new.log.past left
  pub acts : Recovers old.log.past new.log.past
  pub power : power_in new ≡ power.Recovering

-- or it has ended with it
pub record RecoversLast (old : QueueView) (fuse : Option ℕ) (new : QueueView) (left : Option ℕ) : Type 0 where
  pub stays : Stays old new
  pub burns : Burns old.log.past fuse new.log.past left
  pub last : List QMark
  pub acts : Recovers old.log.past last
  pub past : new.log.past ≡ Memory Ready ∷ last
  pub power : power_in new ≡ power.On

-- the limit is one of marks, or the act is the fence
abbrev pub IsRecoveryStop : Stop → Type 0
IsRecoveryStop (Limit why) = why ≡ which.Marks
IsRecoveryStop (Due w) = w ≡ 0

pub record RecoveryStops (old : QueueView) (fuse : Option ℕ) (why : Stop) (new : QueueView) (left : Option ℕ) : Type 0 where
  pub same : new ≡ old
  pub kept : left ≡ fuse
  pub stop : IsRecoveryStop why
  pub stopped : IsStopped new left why

abbrev pub RecoveryAnswers : QueueView → Option ℕ → Option Turned → QueueView → Option ℕ → Type 0
RecoveryAnswers old fuse None new left = RecoversOnce old fuse new left
RecoveryAnswers old fuse (Some Finished) new left = RecoversLast old fuse new left
RecoveryAnswers old fuse (Some (Stopped why)) new left = RecoveryStops old fuse why new left

-- the recovery has come so far
pub record RecoversOn (old : QueueView) (fuse : Option ℕ) (new : QueueView) (left : Option ℕ) : Type 0 where
  pub stays : Stays old new
  pub burns : Burns old.log.past fuse new.log.past left

abbrev pub HasRecovered : QueueView → Option ℕ → Turned → QueueView → Option ℕ → Type 0
HasRecovered old fuse Finished new left = RecoversOn old fuse new left × RecoversWhole old.log.past new.log.past × (power_in new ≡ power.On)
HasRecovered old fuse (Stopped why) new left =
    RecoversOn old fuse new left × ((count : ℕ) × RecoversTimes count old.log.past new.log.past) × (power_in new ≡ power.Recovering) × IsRecoveryStop why × IsStopped new left why
