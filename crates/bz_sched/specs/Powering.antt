-- What the parts of power on do to a world and to the fuse of a cut.
use Rattle.std.specs.Prelude.{◌≡◌, ◌<◌, ◌+◌, ℕ, List, ◌∷◌, ◌⊎◌, Option}
use Rattle.bz_mark.specs.declared.marks.Mark.{Mark}
use Rattle.bz_mark.specs.declared.marks.Mark.TheVariants.{On, Ready}
use Rattle.bz_mark.specs.declared.power.Power.TheVariants as power
use Rattle.bz_world.specs.WorldView.{WorldView, count_reached, power_in}
use Rattle.bz_world.specs.declared.answers.LimitKind.TheVariants as which
use Rattle.bz_sched.specs.Fuses.{Burns}
use Rattle.bz_sched.specs.Recoveries.{turned_off, turned_on, Recovers, RecoversTimes, RecoversWhole}
use Rattle.bz_sched.specs.Runs.{IsStopped, Stays, marks_left}
use Rattle.bz_sched.specs.declared.turn.Stop.{Stop}
use Rattle.bz_sched.specs.declared.turn.Stop.TheVariants.{Due, Limit}
use Rattle.bz_sched.specs.declared.turn.Turned.{Turned}
use Rattle.bz_sched.specs.declared.turn.Turned.TheVariants.{Finished, Stopped}

-- the power is off, and was cut where it was on
pub record IsOff (old new : WorldView) : Type 0 where
  pub stays : Stays old new
  pub off : power_in new ≡ power.Off
  pub past : new.log.past ≡ turned_off old.at_start old.log.past

-- it has come on, and the recovery has begun
pub record IsOn (old new : WorldView) : Type 0 where
  pub stays : Stays old new
  pub past : new.log.past ≡ On ∷ old.log.past

-- a recovery may begin, from the marks after which the power has come on
pub record IsStarted (old new : WorldView) : Type 0 where
  pub stays : Stays old new
  pub past : new.log.past ≡ turned_on old.at_start old.log.past

-- no place was left for the cut of the power that is on, or for power on
pub record StartStopped (old new : WorldView) : Type 0 where
  pub stays : Stays old new
  pub past : (new.log.past ≡ old.log.past) ⊎ (new.log.past ≡ turned_off old.at_start old.log.past)
  pub met : marks_left new < 3

-- no descriptor is taken, and all slots are free but those that the tree reached in the image at power on
pub record IsGivenBack (world : WorldView) : Type 0 where
  pub taken : world.supply.taken ≡ 0
  pub left : world.supply.left + count_reached world.config world.log ≡ world.config.nodes

-- the recovery makes an act, and goes on or has ended with it
abbrev pub GoesOnOrEnds : WorldView → WorldView → Type 0
GoesOnOrEnds old new =
    (Recovers old.log.past new.log.past × (power_in new ≡ power.Recovering))
    ⊎ ((last : List Mark) × Recovers old.log.past last × (new.log.past ≡ Ready ∷ last) × IsGivenBack new)

pub record RecoversOnce (old : WorldView) (fuse : Option ℕ) (new : WorldView) (left : Option ℕ) : Type 0 where
  pub stays : Stays old new
  pub burns : Burns old.log.past fuse new.log.past left
  pub goes : GoesOnOrEnds old new

-- the limit is one of marks, or the act is the fence
abbrev pub IsRecoveryStop : Stop → Type 0
IsRecoveryStop (Limit why) = why ≡ which.Marks
IsRecoveryStop (Due w) = w ≡ 0

pub record RecoveryStops (old : WorldView) (fuse : Option ℕ) (why : Stop) (new : WorldView) (left : Option ℕ) : Type 0 where
  pub same : new ≡ old
  pub kept : left ≡ fuse
  pub stop : IsRecoveryStop why
  pub stopped : IsStopped new left why

abbrev pub EndsRecovery : WorldView → Option ℕ → Turned → WorldView → Option ℕ → Type 0
EndsRecovery old fuse Finished new left = RecoversOnce old fuse new left
EndsRecovery old fuse (Stopped why) new left = RecoveryStops old fuse why new left

-- the recovery has come so far
pub record RecoversOn (old : WorldView) (fuse : Option ℕ) (new : WorldView) (left : Option ℕ) : Type 0 where
  pub stays : Stays old new
  pub burns : Burns old.log.past fuse new.log.past left

abbrev pub HasRecovered : WorldView → Option ℕ → Turned → WorldView → Option ℕ → Type 0
HasRecovered old fuse Finished new left = RecoversOn old fuse new left × RecoversWhole old.log.past new.log.past × IsGivenBack new
HasRecovered old fuse (Stopped why) new left =
    RecoversOn old fuse new left × ((count : ℕ) × RecoversTimes count old.log.past new.log.past) × (power_in new ≡ power.Recovering) × IsRecoveryStop why × IsStopped new left why
