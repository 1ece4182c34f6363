-- A recovery makes few marks, and so does power on.
use Rattle.std.proofs.Common.{◌≡◌, ◌⊎◌, ℕ, zero, suc, ◌+◌, ◌<◌, ◌≤◌, ◌==◌, if◌then◌else◌, Bool, true, List, ◌∷◌, length, refl, sym, ap, subst, ◌∙◌, arith, inl, inr, Option, Some}
use Rattle.std.proofs.lemmas.Bool.Decides.{nat_tests}
use Rattle.bz_layout.specs.declared.thresholds.TheConstants.{MARKS_PER_POWER_ON}
use Rattle.bz_mark.specs.Log.{Limits, count_begins, count_page_calls}
use Rattle.bz_mark.specs.declared.marks.Mark.{Mark}
use Rattle.bz_mark.specs.declared.marks.Mark.TheVariants as mark
use Rattle.bz_mark.specs.Times.{power_of}
use Rattle.bz_mark.specs.declared.power.Power.{Power}
use Rattle.bz_mark.specs.declared.power.Power.TheVariants as power
use Rattle.bz_world.specs.WorldView.{WorldView, power_in, recovery_acts, recovery_most, KeepsApart}
use Rattle.bz_world.specs.declared.answers.LimitKind.{LimitKind}
use Rattle.bz_world.specs.declared.answers.LimitKind.TheVariants as which
use Rattle.bz_sched.specs.Enough.{count_wanting, AreClosed, IsFewSoFar, HasComeOn}
use Rattle.bz_sched.specs.Points.{actor}
use Rattle.bz_sched.specs.Powering.{GoesOnOrEnds, IsGivenBack, IsStarted, StartStopped, RecoversOnce}
use Rattle.bz_sched.specs.Recoveries.{off_by, turned_off, Recovers, RecoversTimes, RecoversWhole}
use Rattle.bz_sched.specs.Runs.{IsAtLimit, Stays}
use Rattle.bz_sched.proofs.GivenLemmas.{no_fewer}

-- a world after other marks, and the acts of its recovery then
abbrev at_marks : WorldView → List Mark → WorldView
at_marks lab past = record lab { log = record lab.log { past = past } }

abbrev acts_in : WorldView → List Mark → ℕ
acts_in lab past = recovery_acts (at_marks lab past)

-- an act of worker 0 is counted
counted : (w acts : ℕ) → Some w ≡ Some 0 → (if w == 0 then acts + 1 else acts) ≡ acts + 1
counted w acts own =
    let zero-is : w ≡ 0 = cc own in
    let same : (w == 0) ≡ true = grind (arith, nat_tests, zero-is) in
    ap (λ (b : Bool). if b then acts + 1 else acts) same

acts-one : (lab : WorldView) (m : Mark) (past : List Mark) → actor m ≡ Some 0 → acts_in lab (m ∷ past) ≡ acts_in lab past + 1
acts-one lab (mark.Load w a v) past own = counted w (acts_in lab past) own
acts-one lab (mark.Store w a v) past own = counted w (acts_in lab past) own
acts-one lab (mark.Cas w a old new found) past own = counted w (acts_in lab past) own
acts-one lab (mark.Ask w line) past own = counted w (acts_in lab past) own
acts-one lab (mark.Fence w) past own = counted w (acts_in lab past) own
acts-one lab m past own = absurd (cc own)

acts-more : (old new : WorldView) → Recovers old.log.past new.log.past → recovery_acts new ≡ recovery_acts old + 1
acts-more old new r = ap (acts_in old) r.is ∙ acts-one old r.act old.log.past r.own

-- so far
pub few_none : (old : WorldView) → power_in old ≡ power.Recovering → recovery_acts old ≡ 0 → IsFewSoFar old old
few_none old recovering fresh = inl (recovering, omega (arith, fresh))

so-far : (old world : WorldView) → IsFewSoFar old world → power_in world ≡ power.Recovering → length world.log.past ≡ length old.log.past + recovery_acts world
so-far old world (inl few) recovering = few.1
so-far old world (inr few) recovering = let opposed : power.On ≡ power.Recovering = sym few.0 ∙ recovering in absurd (cc opposed)

most-same : (old world : WorldView) → world.config ≡ old.config → recovery_most world.config ≡ recovery_most old.config
most-same old world same = ap recovery_most same

pub few_more : (old world new : WorldView) (left after : Option ℕ) → world.config ≡ old.config → IsFewSoFar old world → power_in world ≡ power.Recovering → recovery_acts world < recovery_most world.config → RecoversOnce world left new after → IsFewSoFar old new
few_more old world new left after config few recovering bounded r = by_way r.goes
  where
    now : length world.log.past ≡ length old.log.past + recovery_acts world
    now = so-far old world few recovering

    by_way : GoesOnOrEnds world new → IsFewSoFar old new
    by_way (inl (act, still)) = inl (still, omega (arith, now, ap length act.is, acts-more world new act))
    by_way (inr (last, act, is, given)) = inr (ap (power_of new.at_start) is, omega (arith, now, bounded, most-same old world config, ap length is, ap length act.is))

pub few_stops : (old world new : WorldView) → world.config ≡ old.config → IsFewSoFar old world → power_in world ≡ power.Recovering → recovery_acts world < recovery_most world.config → new ≡ world → length new.log.past < length old.log.past + recovery_most old.config
few_stops old world new config few recovering bounded same = omega (arith, so-far old world few recovering, bounded, most-same old world config, ap (λ (z : WorldView). length z.log.past) same)

pub few_done : (old world : WorldView) → IsFewSoFar old world → (power_in world ≡ power.Recovering → ⊥) → length world.log.past ≤ length old.log.past + recovery_most old.config + 1
few_done old world (inl few) over = absurd (over few.0)
few_done old world (inr few) over = few.1

-- power on
off-more : (p : Power) (past : List Mark) → length (off_by p past) ≤ length past + 1
off-more power.Off past = omega arith
off-more power.Recovering past = omega arith
off-more power.On past = omega arith

pub starts_fresh : (old mid : WorldView) → IsStarted old mid → recovery_acts mid ≡ 0
starts_fresh old mid s = ap (acts_in mid) s.past

started-few : (old mid : WorldView) → IsStarted old mid → length mid.log.past ≤ length old.log.past + 2
started-few old mid s = omega (arith, ap length s.past, off-more (power_of old.at_start old.log.past) old.log.past)

-- what a cut, power on and the acts of a recovery leave of the calls that are closed
off-closed : (p : Power) (past : List Mark) → AreClosed past → AreClosed (off_by p past)
off-closed power.Off past closed = closed
off-closed power.Recovering past closed = closed
off-closed power.On past closed = λ v. refl

act-closed : (m : Mark) (past : List Mark) → actor m ≡ Some 0 → AreClosed past → AreClosed (m ∷ past)
act-closed (mark.Load w a v) past own closed = closed
act-closed (mark.Store w a v) past own closed = closed
act-closed (mark.Cas w a old new found) past own closed = closed
act-closed (mark.Ask w line) past own closed = closed
act-closed (mark.Fence w) past own closed = closed
act-closed m past own closed = absurd (cc own)

one-closed : (old new : List Mark) → Recovers old new → AreClosed old → AreClosed new
one-closed old new r closed = subst AreClosed (sym r.is) (act-closed r.act old r.own closed)

times-closed : (count : ℕ) (old new : List Mark) → RecoversTimes count old new → AreClosed old → AreClosed new
times-closed zero old new same closed = subst AreClosed (sym same) closed
times-closed (suc count) old new (mid, first, rest) closed = times-closed count mid new rest (one-closed old mid first closed)

whole-closed : (old new : List Mark) → RecoversWhole old new → AreClosed old → AreClosed new
whole-closed old new (count, mid, last, times, act, is) closed = subst AreClosed (sym is) (one-closed mid last act (times-closed count old mid times closed))

-- and of the counts of those that began
record SameCalls (old new : List Mark) : Type 0 where
  begins : count_begins new ≡ count_begins old
  pages : count_page_calls new ≡ count_page_calls old
  wanting : count_wanting new ≡ count_wanting old

same-both : (a b c : List Mark) → SameCalls a b → SameCalls b c → SameCalls a c
same-both a b c s t = record { begins = t.begins ∙ s.begins; pages = t.pages ∙ s.pages; wanting = t.wanting ∙ s.wanting }

off-same : (p : Power) (past : List Mark) → SameCalls past (off_by p past)
off-same power.Off past = record { begins = refl; pages = refl; wanting = refl }
off-same power.Recovering past = record { begins = refl; pages = refl; wanting = refl }
off-same power.On past = record { begins = refl; pages = refl; wanting = refl }

act-same : (m : Mark) (past : List Mark) → actor m ≡ Some 0 → SameCalls past (m ∷ past)
act-same (mark.Load w a v) past own = record { begins = refl; pages = refl; wanting = refl }
act-same (mark.Store w a v) past own = record { begins = refl; pages = refl; wanting = refl }
act-same (mark.Cas w a old new found) past own = record { begins = refl; pages = refl; wanting = refl }
act-same (mark.Ask w line) past own = record { begins = refl; pages = refl; wanting = refl }
act-same (mark.Fence w) past own = record { begins = refl; pages = refl; wanting = refl }
act-same m past own = absurd (cc own)

one-same : (old new : List Mark) → Recovers old new → SameCalls old new
one-same old new r = subst (SameCalls old) (sym r.is) (act-same r.act old r.own)

times-same : (count : ℕ) (old new : List Mark) → RecoversTimes count old new → SameCalls old new
times-same zero old new same = subst (SameCalls old) (sym same) (record { begins = refl; pages = refl; wanting = refl })
times-same (suc count) old new (mid, first, rest) = same-both old mid new (one-same old mid first) (times-same count mid new rest)

whole-same : (old new : List Mark) → RecoversWhole old new → SameCalls old new
whole-same old new (count, mid, last, times, act, is) = subst (SameCalls old) (sym is) (same-both old mid (mark.Ready ∷ last) (times-same count old mid times) (subst (λ (z : List Mark). SameCalls mid (mark.Ready ∷ z)) (sym act.is) (let s = act-same act.act mid act.own in record { begins = s.begins; pages = s.pages; wanting = s.wanting })))

pub comes_on : (old mid new : WorldView) → IsStarted old mid → Stays mid new → RecoversWhole mid.log.past new.log.past → IsGivenBack new → KeepsApart old → length new.log.past ≤ length mid.log.past + recovery_most mid.config + 1 → HasComeOn old new
comes_on old mid new s stays whole given apart few = record {
  closed = λ closed. whole-closed mid.log.past new.log.past whole (subst AreClosed (sym s.past) (off-closed (power_of old.at_start old.log.past) old.log.past closed));
  marks = omega (arith, few, started-few old mid s, most-same old mid s.stays.config);
  calls = same.begins;
  pages = same.pages;
  wanting = same.wanting;
  taken = given.taken;
  left = no_fewer old mid new s stays whole given apart;
}
  where
    began : SameCalls old.log.past mid.log.past
    began = subst (SameCalls old.log.past) (sym s.past) (let o = off-same (power_of old.at_start old.log.past) old.log.past in record { begins = o.begins; pages = o.pages; wanting = o.wanting })

    same : SameCalls old.log.past new.log.past
    same = same-both old.log.past mid.log.past new.log.past began (whole-same mid.log.past new.log.past whole)

pub not_stopped : (old mid new : WorldView) → IsStarted old mid → Stays mid new → length new.log.past < length mid.log.past + recovery_most mid.config → (why : LimitKind) → why ≡ which.Marks → IsAtLimit new why
    → length old.log.past + recovery_most old.config + MARKS_PER_POWER_ON ≤ old.log.limits.marks → ⊥
not_stopped old mid new s stays few why is met room =
    let short : IsAtLimit new which.Marks = subst (IsAtLimit new) is met in
    absurd (omega (arith, short, few, started-few old mid s, most-same old mid s.stays.config, room, ap (λ (l : Limits). l.marks) stays.limits, ap (λ (l : Limits). l.marks) s.stays.limits))

pub not_refused : (old new : WorldView) → StartStopped old new → length old.log.past + recovery_most old.config + MARKS_PER_POWER_ON ≤ old.log.limits.marks → ⊥
not_refused old new h room = by_way h.past
  where
    by_way : (new.log.past ≡ old.log.past) ⊎ (new.log.past ≡ turned_off old.at_start old.log.past) → ⊥
    by_way (inl same) = absurd (omega (arith, h.met, room, ap length same, ap (λ (l : Limits). l.marks) h.stays.limits))
    by_way (inr off) = absurd (omega (arith, h.met, room, ap length off, off-more (power_of old.at_start old.log.past) old.log.past, ap (λ (l : Limits). l.marks) h.stays.limits))
