-- Power on gives back descriptors and slots: no fewer slots are free than before.
use Rattle.std.proofs.Common.{◌≡◌, ℕ, zero, suc, ◌+◌, ◌≤◌, List, ◌∷◌, refl, ap, subst, ◌∙◌, arith, Some}
use Rattle.bz_layout.specs.declared.config.Config.{Config}
use Rattle.bz_mark.specs.declared.marks.Mark.{Mark}
use Rattle.bz_mark.specs.declared.marks.Mark.TheVariants as mark
use Rattle.bz_sound.specs.Memory.Moments.{image_after}
use Rattle.bz_mark.specs.Times.{power_of}
use Rattle.bz_sound.specs.Power.Times.{image_at_on}
use Rattle.bz_mark.specs.declared.power.Power.{Power}
use Rattle.bz_mark.specs.declared.power.Power.TheVariants as power
use Rattle.bz_world.specs.WorldView.{WorldView, count_in, power_in, KeepsApart}
use Rattle.bz_sched.specs.Enough.{free_by, free_slots}
use Rattle.bz_sched.specs.Points.{actor}
use Rattle.bz_sched.specs.Powering.{IsGivenBack, IsStarted}
use Rattle.bz_sched.specs.Recoveries.{off_by, Recovers, RecoversTimes, RecoversWhole}
use Rattle.bz_sched.specs.Runs.{Stays}

-- the durable words at power on are those before it
off-image : (start : List ℕ) (p : Power) (past : List Mark) → image_after start (off_by p past) ≡ image_after start past
off-image start power.On past = refl
off-image start power.Off past = refl
off-image start power.Recovering past = refl

act-image : (start : List ℕ) (m : Mark) (past : List Mark) → actor m ≡ Some 0 → image_at_on start (m ∷ past) ≡ image_at_on start past
act-image start (mark.Load w a v) past own = refl
act-image start (mark.Store w a v) past own = refl
act-image start (mark.Cas w a old new found) past own = refl
act-image start (mark.Ask w line) past own = refl
act-image start (mark.Fence w) past own = refl
act-image start m past own = absurd (cc own)

one-image : (start : List ℕ) (old new : List Mark) → Recovers old new → image_at_on start new ≡ image_at_on start old
one-image start old new r = ap (image_at_on start) r.is ∙ act-image start r.act old r.own

times-image : (start : List ℕ) (count : ℕ) (old new : List Mark) → RecoversTimes count old new → image_at_on start new ≡ image_at_on start old
times-image start zero old new same = ap (image_at_on start) same
times-image start (suc count) old new (mid, first, rest) = times-image start count mid new rest ∙ one-image start old mid first

whole-image : (start : List ℕ) (old new : List Mark) → RecoversWhole old new → image_at_on start new ≡ image_at_on start old
whole-image start old new (count, mid, last, times, act, is) = ap (image_at_on start) is ∙ (one-image start mid last act ∙ times-image start count old mid times)

image-same : (old mid new : WorldView) → IsStarted old mid → Stays mid new → RecoversWhole mid.log.past new.log.past → image_at_on new.log.start new.log.past ≡ image_after old.log.start old.log.past
image-same old mid new s stays whole =
    ap (λ (start : List ℕ). image_at_on start new.log.past) (stays.start ∙ s.stays.start)
    ∙ (whole-image old.log.start mid.log.past new.log.past whole
    ∙ (ap (image_at_on old.log.start) s.past ∙ off-image old.log.start (power_of old.at_start old.log.past) old.log.past))

-- so all slots are free but those that the tree of these reaches
reached : (old mid new : WorldView) → IsStarted old mid → Stays mid new → RecoversWhole mid.log.past new.log.past → IsGivenBack new → new.supply.left + count_in old.config (image_after old.log.start old.log.past) ≡ old.config.nodes
reached old mid new s stays whole given =
    subst (λ (c : Config). new.supply.left + count_in c (image_after old.log.start old.log.past) ≡ c.nodes) (stays.config ∙ s.stays.config)
    (subst (λ (image : ℕ → ℕ). new.supply.left + count_in new.config image ≡ new.config.nodes) (image-same old mid new s stays whole) given.left)

pub no_fewer : (old mid new : WorldView) → IsStarted old mid → Stays mid new → RecoversWhole mid.log.past new.log.past → IsGivenBack new → KeepsApart old → free_slots old ≤ new.supply.left
no_fewer old mid new s stays whole given apart = by (power_in old) refl
  where
    by : (p : Power) → power_in old ≡ p → free_by p old ≤ new.supply.left
    by power.On on = omega (arith, apart on, reached old mid new s stays whole given)
    by power.Off off = omega (arith, reached old mid new s stays whole given)
    by power.Recovering recovering = omega (arith, reached old mid new s stays whole given)
