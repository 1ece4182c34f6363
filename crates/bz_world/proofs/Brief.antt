-- A recovery makes few acts: so it is at each mark, from event to event.
use Rattle.std.proofs.Common.{◌≡◌, ℕ, ◌<◌, List, ◌∷◌, refl, sym, ap, subst, ◌∙◌, inl, inr, Option, Some, None}
use Rattle.std.specs.Prelude.{MatchOption}
use Rattle.bz_call.specs.declared.calls.Call.{Call}
use Rattle.bz_layout.specs.declared.config.Config.{Config}
use Rattle.bz_mark.specs.Log.{Log, with_mark}
use Rattle.bz_mark.specs.declared.marks.Mark.{Mark}
use Rattle.bz_mark.specs.declared.marks.Mark.TheVariants.{End, Evict, Ready}
use Rattle.bz_mark.specs.Times.{power_of, since_on}
use Rattle.bz_mark.specs.declared.power.Power.{Power}
use Rattle.bz_mark.specs.declared.power.Power.TheVariants as power
use Rattle.bz_mark.specs.Counts.{acts_by}
use Rattle.bz_world.specs.Recoveries.{AreRecoveriesBrief, IsBrief}
use Rattle.bz_world.specs.WorldView as view
use Rattle.bz_world.specs.WorldView.{WorldView, Evicts, IsStruck, Recovers, Steps, mark_of, power_in, recovery_acts, recovery_most}
use Rattle.bz_world.specs.declared.answers.Applied.{Applied}
use Rattle.bz_world.specs.declared.answers.Applied.TheVariants as applied
use Rattle.bz_world.specs.declared.answers.Begun.{Begun}
use Rattle.bz_world.specs.declared.answers.Begun.TheVariants as begun
use Rattle.bz_world.specs.declared.answers.Event.{Event}
use Rattle.bz_world.specs.declared.answers.Event.TheVariants as event
use Rattle.bz_world.proofs.Powered.{leaves-power, power-more}
use Rattle.bz_world.proofs.ToldEnds.{off-refuses}

abbrev pub IsBriefIn : WorldView → Type 0
IsBriefIn lab = AreRecoveriesBrief lab.config lab.at_start lab.log.past

-- now
abbrev IsBriefNow : WorldView → Type 0
IsBriefNow lab = power_in lab ≡ power.Recovering → recovery_acts lab < recovery_most lab.config

-- with the power on nothing recovers
on-brief : (c : Config) (at_start : Power) (past : List Mark) (mark : Mark) → power_of at_start (mark ∷ past) ≡ power.On → IsBrief c at_start past mark
on-brief c at_start past mark on recovers = absurd (let both : power.On ≡ power.Recovering = sym on ∙ recovers in cc both)

-- an Effect is no act
struck-brief : (c : Config) (at_start : Power) (past new : List Mark) → IsStruck past new → (power_of at_start past ≡ power.Recovering → acts_by 0 (since_on past) < recovery_most c) → AreRecoveriesBrief c at_start past → AreRecoveriesBrief c at_start new
struck-brief c at_start past new (inl same) now brief = subst (AreRecoveriesBrief c at_start) (sym same) brief
struck-brief c at_start past new (inr effect) now brief = subst (AreRecoveriesBrief c at_start) (sym effect.1.1) (now, brief)

power-struck : (at_start : Power) (past new : List Mark) → IsStruck past new → power_of at_start new ≡ power_of at_start past
power-struck at_start past new (inl same) = ap (power_of at_start) same
power-struck at_start past new (inr effect) = ap (power_of at_start) effect.1.1

-- known by other names
moved : (c d : Config) (s t : Power) (p q : List Mark) → d ≡ c → t ≡ s → q ≡ p → AreRecoveriesBrief c s p → AreRecoveriesBrief d t q
moved c d s t p q config start past h = subst (λ (z : Config). AreRecoveriesBrief z t q) (sym config) (subst (λ (z : Power). AreRecoveriesBrief c z q) (sym start) (subst (AreRecoveriesBrief c s) (sym past) h))

-- a step with the power on
module _ (old : WorldView) (w : ℕ) (answer : Applied) (new : WorldView) (s : Steps old w answer new) (is-on : power_in old ≡ power.On) (brief : IsBriefIn old) where
  acted : power_of old.at_start (mark_of w s.made ∷ old.log.past) ≡ power.On
  acted = power-more old.at_start old.log.past (mark_of w s.made) (leaves-power w old.log.past s.made) ∙ is-on

  mid : AreRecoveriesBrief old.config old.at_start s.struck
  mid = struck-brief old.config old.at_start (mark_of w s.made ∷ old.log.past) s.struck s.effect (on-brief old.config old.at_start old.log.past (mark_of w s.made) acted) (on-brief old.config old.at_start old.log.past (mark_of w s.made) acted, brief)

  on-struck : power_of old.at_start s.struck ≡ power.On
  on-struck = power-struck old.at_start (mark_of w s.made ∷ old.log.past) s.struck s.effect ∙ acted

  by-answer : (x : Applied) → view.GoesOn (record old.log { past = s.struck }) w x new.log → IsBriefIn new
  by-answer applied.Stepped same = moved old.config new.config old.at_start new.at_start s.struck new.log.past s.config s.at_start (ap (λ (z : Log). z.past) same) mid
  by-answer (applied.Ended n) e = moved old.config new.config old.at_start new.at_start (End w n e.reply e.at ∷ s.struck) new.log.past s.config s.at_start (ap (λ (z : Log). z.past) e.is) (on-brief old.config old.at_start s.struck (End w n e.reply e.at) on-struck, mid)
  by-answer other never = absurd never

  stepped-brief : IsBriefIn new
  stepped-brief = by-answer answer s.ends

-- a step of the recovery
recovers-brief : (old : WorldView) (answer : Applied) (new : WorldView) → Recovers old answer new → IsBriefIn old → IsBriefIn new
recovers-brief old answer new r brief = by answer r.ends
  where
    mid : AreRecoveriesBrief old.config old.at_start (mark_of 0 r.made ∷ old.log.past)
    mid = ((λ recovers. r.few), brief)

    by : (x : Applied) → view.EndsRecovery (with_mark old.log (mark_of 0 r.made)) x new.log → IsBriefIn new
    by applied.Stepped same = moved old.config new.config old.at_start new.at_start (mark_of 0 r.made ∷ old.log.past) new.log.past r.config r.at_start (ap (λ (z : Log). z.past) same) mid
    by applied.Ready same = moved old.config new.config old.at_start new.at_start (Ready ∷ (mark_of 0 r.made ∷ old.log.past)) new.log.past r.config r.at_start (ap (λ (z : Log). z.past) same) ((λ recovers. absurd (cc recovers)), mid)
    by other never = absurd never

evicts-brief : (old : WorldView) (a : ℕ) (answer : Applied) (new : WorldView) → Evicts old a answer new → IsBriefNow old → IsBriefIn old → IsBriefIn new
evicts-brief old a answer new e now brief = subst IsBriefIn (sym e.rest) (struck-brief old.config old.at_start (Evict a ∷ old.log.past) e.past e.effect now (now, brief))

module _ (old : WorldView) (answer : Applied) (new : WorldView) (now : IsBriefNow old) (later : IsBriefNow new) (brief : IsBriefIn old) where
  refused : (refusal : Applied) → (answer ≡ refusal) × (new ≡ old) → IsBriefIn new
  refused refusal h = subst IsBriefIn (sym h.1) brief

  steps-by : (w : ℕ) (p : Power) → power_in old ≡ p → view.step_refusal old w ≡ None → view.StepsBy p old w answer new → IsBriefIn new
  steps-by w power.On is none h = stepped-brief old w answer new h is brief
  steps-by w power.Recovering is none h = recovers-brief old answer new h brief
  steps-by w power.Off is none h = absurd (off-refuses old w none is)

  step-by : (w : ℕ) (o : Option Applied) → view.step_refusal old w ≡ o → MatchOption o (view.StepsBy (power_in old) old w answer new) (λ refusal. (answer ≡ refusal) × (new ≡ old)) → IsBriefIn new
  step-by w None none h = steps-by w (power_in old) refl none h
  step-by w (Some refusal) is h = refused refusal h

  evict-by : (a : ℕ) (o : Option Applied) → MatchOption o (Evicts old a answer new) (λ refusal. (answer ≡ refusal) × (new ≡ old)) → IsBriefIn new
  evict-by a None h = evicts-brief old a answer new h now brief
  evict-by a (Some refusal) h = refused refusal h

  cut-by : (o : Option Applied) → MatchOption o ((answer ≡ applied.Cut) × (new ≡ view.after_cut old)) (λ refusal. (answer ≡ refusal) × (new ≡ old)) → IsBriefIn new
  cut-by None h = subst IsBriefIn (sym h.1) ((λ recovers. absurd (cc recovers)), brief)
  cut-by (Some refusal) h = refused refusal h

  -- when the power has come on, none is made yet
  on-by : (o : Option Applied) → MatchOption o ((answer ≡ applied.On) × (new ≡ view.after_on old)) (λ refusal. (answer ≡ refusal) × (new ≡ old)) → IsBriefIn new
  on-by None h = subst IsBriefIn (sym h.1) (subst IsBriefNow h.1 later, brief)
  on-by (Some refusal) h = refused refusal h

  -- whatever happens
  pub happened-brief : (what : Event) → view.IsApplied old what answer new → IsBriefIn new
  happened-brief (event.Step w) h = step-by w (view.step_refusal old w) refl h
  happened-brief (event.Evict a) h = evict-by a (view.evict_refusal old a) h
  happened-brief event.Cut h = cut-by (view.cut_refusal old) h
  happened-brief event.On h = on-by (view.on_refusal old) h

-- a call begins
pub begun-brief : (old : WorldView) (w : ℕ) (called : Call) (answer : Begun) (new : WorldView) → IsBriefNow old → IsBriefIn old → new ≡ view.after_begin old w called answer → IsBriefIn new
begun-brief old w called answer new now brief after = subst IsBriefIn (sym after) (by answer)
  where
    by : (x : Begun) → IsBriefIn (view.after_begin old w called x)
    by (begun.Begun n) = (now, brief)
    by other = brief
