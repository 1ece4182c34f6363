-- What a world keeps of what its journal tells of descriptors and slots, from mark to mark.
use Rattle.std.proofs.Common.{◌≡◌, ◌≢◌, ◌⊎◌, ℕ, ◌+◌, ◌-◌, ◌<◌, ◌≤◌, ◌==◌, ◌||◌, if◌then◌else◌, nat_lt, Bool, true, false, List, [], ◌∷◌, length, arith, refl, sym, ap, subst, ◌∙◌, inl, inr, Option, Some, None}
use Rattle.std.specs.Prelude.{option_map, MatchOption}
use Rattle.std.proofs.lemmas.Bool.{true≢false}
use Rattle.std.proofs.lemmas.Bool.Decides.{nat_tests}
use Rattle.bz_swap_acts.specs.declared.acted.Act.{Act}
use Rattle.bz_swap_acts.specs.declared.acted.Act.TheVariants as act
use Rattle.bz_call.specs.declared.calls.Call.{Call}
use Rattle.bz_call.specs.declared.replies.Reply.{Reply}
use Rattle.bz_layout.specs.declared.config.Config.{Config}
use Rattle.bz_mark.specs.Log.{Log, with_mark}
use Rattle.bz_mark.specs.Moments.{at_moment}
use Rattle.bz_mark.proofs.MomentLaws.{at_moment-earlier, at_moment-before}
use Rattle.bz_mark.specs.declared.marks.Mark.{Mark}
use Rattle.bz_mark.specs.declared.marks.Mark.TheVariants.{Begin, End, Load, Store, Cas, Ask, Fence, Evict, Cut, On, Ready, Effect}
use Rattle.bz_sound.specs.Calls.{Open, open_call, with_effect}
use Rattle.bz_sound.specs.Solitary.{IsSolitary, NoneIsOpenBesideASolitaryCall}
use Rattle.bz_mark.specs.Times.{power_of}
use Rattle.bz_mark.specs.declared.power.Power.{Power}
use Rattle.bz_mark.specs.declared.power.Power.TheVariants as power
use Rattle.bz_world.specs.Inside.Told.{BeganAsTold, TellsEnds, TellsEndsIn}
use Rattle.bz_world.specs.Merges.{MergeFollows, MergesFor}
use Rattle.bz_world.specs.Roomy.{HadRoom}
use Rattle.bz_world.specs.Taken.{IsAsShown, NoneOpen, TellsAsShown, supply_told, TakesWhatItTells, EndFollows}
use Rattle.bz_world.specs.WorldView as view
use Rattle.bz_world.specs.WorldView.{WorldView, Supply, mark_of, power_in, TakesAsTold, IsStruck, Steps, Recovers, Evicts}
use Rattle.bz_world.specs.declared.answers.Applied.{Applied}
use Rattle.bz_world.specs.declared.answers.Applied.TheVariants as applied
use Rattle.bz_world.specs.declared.answers.Begun.{Begun}
use Rattle.bz_world.specs.declared.answers.Begun.TheVariants as begun
use Rattle.bz_world.specs.declared.answers.Event.{Event}
use Rattle.bz_world.specs.declared.answers.Event.TheVariants as event
use Rattle.bz_world.specs.declared.answers.LimitKind.TheVariants as which
use Rattle.bz_world.proofs.Powered.{leaves-power, power-more}

-- a mark that begins no call
abbrev pub BeginsNone : Mark → Type 0
BeginsNone (Begin w n called) = ⊥
BeginsNone mark = Unit {0}

-- and ends none
abbrev IsPlain : Mark → Type 0
IsPlain (Begin w n called) = ⊥
IsPlain (End w n reply at) = ⊥
IsPlain mark = Unit {0}

plain-begins : (mark : Mark) → IsPlain mark → BeginsNone mark
plain-begins (Begin w n called) plain = plain
plain-begins mark plain = tt

plain-follows : (c : Config) (start : List ℕ) (past : List Mark) (mark : Mark) → IsPlain mark → EndFollows c start past mark
plain-follows c start past (End w n reply at) plain = absurd plain
plain-follows c start past mark plain = tt

plain-merges : (c : Config) (start : List ℕ) (past : List Mark) (mark : Mark) → IsPlain mark → MergeFollows c start past mark
plain-merges c start past (End w n reply at) plain = absurd plain
plain-merges c start past mark plain = tt

act-plain : (w : ℕ) (made : Act) → IsPlain (mark_of w made)
act-plain w (act.Load a v) = tt
act-plain w (act.Store a v) = tt
act-plain w (act.Cas a old new found) = tt
act-plain w (act.Ask line) = tt
act-plain w act.Fence = tt

-- a call that is open after a mark was open before it, from the same begin
pub record WasOpen (w : ℕ) (past : List Mark) (opened : Open) : Type 0 where
  pub was : Open
  pub is_open : open_call w past ≡ Some was
  pub begun : was.begun ≡ opened.begun
  pub call : was.call ≡ opened.call

still-open : (w : ℕ) (past : List Mark) (opened : Open) → open_call w past ≡ Some opened → WasOpen w past opened
still-open w past opened is = record { was = opened; is_open = is; begun = refl; call = refl }

after-end : (w : ℕ) (past : List Mark) (opened : Open) (t : Bool) → (if t then None else open_call w past) ≡ Some opened → WasOpen w past opened
after-end w past opened true is = absurd (cc is)
after-end w past opened false is = still-open w past opened is

with-effect : (w : ℕ) (past : List Mark) (opened : Open) (moment : ℕ) (o : Option Open) → open_call w past ≡ o → option_map (with_effect moment) o ≡ Some opened → WasOpen w past opened
with-effect w past opened moment None is e = absurd (cc e)
with-effect w past opened moment (Some was) is e = record { was = was; is_open = is; begun = let same : with_effect moment was ≡ opened = cc e in ap (λ (z : Open). z.begun) same; call = let same : with_effect moment was ≡ opened = cc e in ap (λ (z : Open). z.call) same }

after-effect : (w : ℕ) (past : List Mark) (opened : Open) (moment : ℕ) (t : Bool) → (if t then option_map (with_effect moment) (open_call w past) else open_call w past) ≡ Some opened → WasOpen w past opened
after-effect w past opened moment true is = with-effect w past opened moment (open_call w past) refl is
after-effect w past opened moment false is = still-open w past opened is

pub was-open : (w : ℕ) (past : List Mark) (mark : Mark) (opened : Open) → BeginsNone mark → open_call w (mark ∷ past) ≡ Some opened → WasOpen w past opened
was-open w past (Begin v n called) opened none is = absurd none
was-open w past (End v n reply at) opened none is = after-end w past opened (v == w) is
was-open w past (Effect v n) opened none is = after-effect w past opened (length past) (v == w) is
was-open w past Cut opened none is = absurd (cc is)
was-open w past (Load v a x) opened none is = still-open w past opened is
was-open w past (Store v a x) opened none is = still-open w past opened is
was-open w past (Cas v a old new found) opened none is = still-open w past opened is
was-open w past (Ask v line) opened none is = still-open w past opened is
was-open w past (Fence v) opened none is = still-open w past opened is
was-open w past (Evict a) opened none is = still-open w past opened is
was-open w past On opened none is = still-open w past opened is
was-open w past Ready opened none is = still-open w past opened is

pub was-solitary : (w : ℕ) (past : List Mark) (mark : Mark) → BeginsNone mark → IsSolitary w (mark ∷ past) → IsSolitary w past
was-solitary w past (Begin v n called) none solitary = absurd none
was-solitary w past mark none solitary = solitary

-- so what the journal told at its begin it tells still
began-on : (c : Config) (start : List ℕ) (past : List Mark) (mark : Mark) (supply : Supply) → BeginsNone mark → BeganAsTold c start past supply → BeganAsTold c start (mark ∷ past) supply
began-on c start past mark supply none b = record {
  by_now = λ w opened is solitary. omega (arith, few w opened is solitary);
  told = λ w opened is solitary.
      let o = was-open w past mark opened none is in
      b.told w o.was o.is_open (was-solitary w past mark none solitary)
      ∙ (ap (λ (n : ℕ). supply_told c start (at_moment n past)) o.begun ∙ ap (supply_told c start) (sym (at_moment-earlier opened.begun mark past (few w opened is solitary))));
}
  where
    few : (w : ℕ) (opened : Open) → open_call w (mark ∷ past) ≡ Some opened → IsSolitary w (mark ∷ past) → opened.begun ≤ length past
    few w opened is solitary = let o = was-open w past mark opened none is in omega (arith, o.begun, b.by_now w o.was o.is_open (was-solitary w past mark none solitary))

plain-on : (c : Config) (start : List ℕ) (past : List Mark) (mark : Mark) (supply : Supply) → IsPlain mark → TellsEnds c start past supply → TellsEnds c start (mark ∷ past) supply
plain-on c start past mark supply plain t = record { ends = (plain-follows c start past mark plain, t.ends); merges = (plain-merges c start past mark plain, t.merges); began = began-on c start past mark supply (plain-begins mark plain) t.began }

struck-on : (c : Config) (start : List ℕ) (past new : List Mark) (supply : Supply) → IsStruck past new → TellsEnds c start past supply → TellsEnds c start new supply
struck-on c start past new supply (inl same) t = subst (λ (z : List Mark). TellsEnds c start z supply) (sym same) t
struck-on c start past new supply (inr effect) t = subst (λ (z : List Mark). TellsEnds c start z supply) (sym effect.1.1) (plain-on c start past (Effect effect.0 effect.1.0) supply tt t)

-- known by other names
moved : (c d : Config) (s t : List ℕ) (p q : List Mark) (a b : Supply) → d ≡ c → t ≡ s → q ≡ p → b ≡ a → TellsEnds c s p a → TellsEnds d t q b
moved c d s t p q a b config start past supply h =
    subst (λ (z : Config). TellsEnds z t q b) (sym config) (subst (λ (z : List ℕ). TellsEnds c z q b) (sym start) (subst (λ (z : List Mark). TellsEnds c s z b) (sym past) (subst (TellsEnds c s p) (sym supply) h)))

-- what a world tells is what its journal does
as-told : (c : Config) (start : List ℕ) (past : List Mark) (supply : Supply) → IsAsShown c start past supply → supply ≡ supply_told c start past
as-told c start past supply shown = λ t. record { taken = shown.taken t; left = left t }
  where
    left : supply.left ≡ (supply_told c start past).left
    left = omega (arith, shown.left)

-- where nothing has happened
pub tells-at-first : (c : Config) (start : List ℕ) (supply : Supply) → TellsEnds c start [] supply
tells-at-first c start supply = record { ends = tt; merges = tt; began = record { by_now = λ w opened is solitary. absurd solitary; told = λ w opened is solitary. absurd solitary } }

power-struck : (at_start : Power) (past new : List Mark) → IsStruck past new → power_of at_start new ≡ power_of at_start past
power-struck at_start past new (inl same) = ap (power_of at_start) same
power-struck at_start past new (inr effect) = ap (power_of at_start) effect.1.1

-- after the end of a call beside which no other was open none is
none-left : NoneIsOpenBesideASolitaryCall → (w n at : ℕ) (reply : Reply) (past : List Mark) → IsSolitary w past → NoneOpen (End w n reply at ∷ past)
none-left alone w n at reply past solitary v = by (w == v) (λ other. alone w v past solitary (λ same. true≢false (sym (let t : (w == v) ≡ true = grind (arith, nat_tests, same) in t) ∙ other)))
  where
    by : (t : Bool) → (t ≡ false → open_call v past ≡ None) → (if t then None else open_call v past) ≡ None
    by true other = refl
    by false other = other refl

-- a step with the power on
module _ (alone : NoneIsOpenBesideASolitaryCall) (old : WorldView) (w : ℕ) (answer : Applied) (new : WorldView) (s : Steps old w answer new) (shown : TellsAsShown new) (is-on : power_in old ≡ power.On) (told : TellsEndsIn old) where
  mid : TellsEnds old.config old.log.start s.struck old.at_begin
  mid = struck-on old.config old.log.start (mark_of w s.made ∷ old.log.past) s.struck old.at_begin s.effect (plain-on old.config old.log.start old.log.past (mark_of w s.made) old.at_begin (act-plain w s.made) told)

  on-struck : power_of old.at_start s.struck ≡ power.On
  on-struck = power-struck old.at_start (mark_of w s.made ∷ old.log.past) s.struck s.effect ∙ (power-more old.at_start old.log.past (mark_of w s.made) (leaves-power w old.log.past s.made) ∙ is-on)

  -- the call ends
  module _ (n at : ℕ) (reply : Reply) (start : new.log.start ≡ old.log.start) (past : new.log.past ≡ End w n reply at ∷ s.struck) where
    module _ (opened : Open) (is-open : open_call w s.struck ≡ Some opened) (solitary : IsSolitary w s.struck) where
      on-now : power_in new ≡ power.On
      on-now = ap (λ (z : Power). power_of z new.log.past) s.at_start ∙ (ap (power_of old.at_start) past ∙ on-struck)

      supply-is : new.supply ≡ supply_told old.config old.log.start s.struck
      supply-is = as-told new.config new.log.start new.log.past new.supply (shown on-now (subst NoneOpen (sym past) (none-left alone w n at reply s.struck solitary)))
          ∙ (ap (λ (z : Config). supply_told z new.log.start new.log.past) s.config ∙ (ap (λ (z : List ℕ). supply_told old.config z new.log.past) start ∙ ap (supply_told old.config old.log.start) past))

      begun-is : new.at_begin ≡ supply_told old.config old.log.start (at_moment opened.begun s.struck)
      begun-is = s.at_begin ∙ mid.began.told w opened is-open solitary

      takes : TakesWhatItTells old.config old.log.start s.struck opened reply
      takes = record {
        unspent = λ tells. sym supply-is ∙ (s.unspent n at reply past tells solitary ∙ begun-is);
        exact = λ room. subst (λ (z : Supply). TakesAsTold z (supply_told old.config old.log.start s.struck) reply) begun-is (subst (λ (z : Supply). TakesAsTold new.at_begin z reply) supply-is
            (s.exact n at reply opened past is-open solitary (subst (λ (z : Config). HadRoom z old.log.start s.struck opened) (sym s.config) room)));
      }

    ended : TellsEnds old.config old.log.start (End w n reply at ∷ s.struck) old.at_begin
    ended = record { ends = (takes, mid.ends); merges = (subst (λ (z : Config). MergesFor z old.log.start s.struck w reply) s.config (s.merged n at reply past), mid.merges); began = began-on old.config old.log.start s.struck (End w n reply at) old.at_begin tt mid.began }

  by-answer : (x : Applied) → view.GoesOn (record old.log { past = s.struck }) w x new.log → TellsEndsIn new
  by-answer applied.Stepped same = moved old.config new.config old.log.start new.log.start s.struck new.log.past old.at_begin new.at_begin s.config (ap (λ (z : Log). z.start) same) (ap (λ (z : Log). z.past) same) s.at_begin mid
  by-answer (applied.Ended n) e = moved old.config new.config old.log.start new.log.start (End w n e.reply e.at ∷ s.struck) new.log.past old.at_begin new.at_begin s.config (ap (λ (z : Log). z.start) e.is) (ap (λ (z : Log). z.past) e.is) s.at_begin
      (ended n e.at e.reply (ap (λ (z : Log). z.start) e.is) (ap (λ (z : Log). z.past) e.is))
  by-answer other never = absurd never

  stepped-tells : TellsEndsIn new
  stepped-tells = by-answer answer s.ends

-- a step of the recovery
recovers-tells : (old : WorldView) (answer : Applied) (new : WorldView) → Recovers old answer new → TellsEndsIn old → TellsEndsIn new
recovers-tells old answer new r told = by answer r.ends
  where
    mid : TellsEnds old.config old.log.start (mark_of 0 r.made ∷ old.log.past) old.at_begin
    mid = plain-on old.config old.log.start old.log.past (mark_of 0 r.made) old.at_begin (act-plain 0 r.made) told

    by : (x : Applied) → view.EndsRecovery (with_mark old.log (mark_of 0 r.made)) x new.log → TellsEndsIn new
    by applied.Stepped same = moved old.config new.config old.log.start new.log.start (mark_of 0 r.made ∷ old.log.past) new.log.past old.at_begin new.at_begin r.config (ap (λ (z : Log). z.start) same) (ap (λ (z : Log). z.past) same) r.at_begin mid
    by applied.Ready same = moved old.config new.config old.log.start new.log.start (Ready ∷ (mark_of 0 r.made ∷ old.log.past)) new.log.past old.at_begin new.at_begin r.config (ap (λ (z : Log). z.start) same) (ap (λ (z : Log). z.past) same) r.at_begin
        (plain-on old.config old.log.start (mark_of 0 r.made ∷ old.log.past) Ready old.at_begin tt mid)
    by other never = absurd never

evicts-tells : (old : WorldView) (a : ℕ) (answer : Applied) (new : WorldView) → Evicts old a answer new → TellsEndsIn old → TellsEndsIn new
evicts-tells old a answer new e told = subst TellsEndsIn (sym e.rest) (struck-on old.config old.log.start (Evict a ∷ old.log.past) e.past old.at_begin e.effect (plain-on old.config old.log.start old.log.past (Evict a) old.at_begin tt told))

-- with the power off no worker steps
pub off-refuses : (old : WorldView) (w : ℕ) → view.step_refusal old w ≡ None → power_in old ≡ power.Off → ⊥
off-refuses old w none off = by (nat_lt old.config.workers w) (view.is_short old.log) (power_in old) off none
  where
    by : (a b : Bool) (p : Power) → p ≡ power.Off → (if a then Some applied.NoWorker else (if b then Some applied.Limit else view.step_by p old w)) ≡ None → ⊥
    by true b p e h = absurd (cc h)
    by false true p e h = absurd (cc h)
    by false false power.Off e h = absurd (cc h)
    by false false power.On e h = absurd (cc e)
    by false false power.Recovering e h = absurd (cc e)

module _ (alone : NoneIsOpenBesideASolitaryCall) (old : WorldView) (answer : Applied) (new : WorldView) (shown : TellsAsShown new) (told : TellsEndsIn old) where
  refused : (refusal : Applied) → (answer ≡ refusal) × (new ≡ old) → TellsEndsIn new
  refused refusal h = subst TellsEndsIn (sym h.1) told

  steps-by : (w : ℕ) (p : Power) → power_in old ≡ p → view.step_refusal old w ≡ None → view.StepsBy p old w answer new → TellsEndsIn new
  steps-by w power.On is none h = stepped-tells alone old w answer new h shown is told
  steps-by w power.Recovering is none h = recovers-tells old answer new h told
  steps-by w power.Off is none h = absurd (off-refuses old w none is)

  step-by : (w : ℕ) (o : Option Applied) → view.step_refusal old w ≡ o → MatchOption o (view.StepsBy (power_in old) old w answer new) (λ refusal. (answer ≡ refusal) × (new ≡ old)) → TellsEndsIn new
  step-by w None none h = steps-by w (power_in old) refl none h
  step-by w (Some refusal) is h = refused refusal h

  evict-by : (a : ℕ) (o : Option Applied) → MatchOption o (Evicts old a answer new) (λ refusal. (answer ≡ refusal) × (new ≡ old)) → TellsEndsIn new
  evict-by a None h = evicts-tells old a answer new h told
  evict-by a (Some refusal) h = refused refusal h

  cut-by : (o : Option Applied) → MatchOption o ((answer ≡ applied.Cut) × (new ≡ view.after_cut old)) (λ refusal. (answer ≡ refusal) × (new ≡ old)) → TellsEndsIn new
  cut-by None h = subst TellsEndsIn (sym h.1) (plain-on old.config old.log.start old.log.past Cut old.at_begin tt told)
  cut-by (Some refusal) h = refused refusal h

  on-by : (o : Option Applied) → MatchOption o ((answer ≡ applied.On) × (new ≡ view.after_on old)) (λ refusal. (answer ≡ refusal) × (new ≡ old)) → TellsEndsIn new
  on-by None h = subst TellsEndsIn (sym h.1) (plain-on old.config old.log.start old.log.past On old.at_begin tt told)
  on-by (Some refusal) h = refused refusal h

  -- whatever happens
  pub happened-tells : (what : Event) → view.IsApplied old what answer new → TellsEndsIn new
  happened-tells (event.Step w) h = step-by w (view.step_refusal old w) refl h
  happened-tells (event.Evict a) h = evict-by a (view.evict_refusal old a) h
  happened-tells event.Cut h = cut-by (view.cut_refusal old) h
  happened-tells event.On h = on-by (view.on_refusal old) h

-- a call begins with the power on
begins-on : (old : WorldView) (w n : ℕ) (called : Call) → begun.Begun n ≡ view.begin_answer old w called → power_in old ≡ power.On
begins-on old w n called is = by ((w == 0) || nat_lt old.config.workers w) (view.is_short old.log) (power_in old) (sym is)
  where
    by : (a b : Bool) (p : Power) → (if a then begun.NoWorker else (if b then begun.Limit which.Marks else view.answer_by p old w called)) ≡ begun.Begun n → p ≡ power.On
    by true b p h = absurd (cc h)
    by false true p h = absurd (cc h)
    by false false power.On h = refl
    by false false power.Off h = absurd (cc h)
    by false false power.Recovering h = absurd (cc h)

newest-open : (t : Bool) (new : Open) (o : Option Open) (opened : Open) → t ≡ true → (if t then Some new else o) ≡ Some opened → opened.begun ≡ new.begun
newest-open true new o opened is e = let same : new ≡ opened = cc e in ap (λ (z : Open). z.begun) (sym same)
newest-open false new o opened is e = absurd (true≢false (sym is))

module _ (old : WorldView) (w : ℕ) (called : Call) (shown : TellsAsShown old) (told : TellsEndsIn old) where
  begin-began : (n : ℕ) → power_in old ≡ power.On → BeganAsTold old.config old.log.start (Begin w n called ∷ old.log.past) old.supply
  begin-began n on = record {
    by_now = λ v opened is solitary. omega (arith, first v opened is solitary);
    told = λ v opened is solitary.
        as-told old.config old.log.start old.log.past old.supply (shown on solitary.1)
        ∙ ap (supply_told old.config old.log.start) (sym (ap (λ (k : ℕ). at_moment k (Begin w n called ∷ old.log.past)) (first v opened is solitary) ∙ at_moment-before (Begin w n called) old.log.past));
  }
    where
      first : (v : ℕ) (opened : Open) → open_call v (Begin w n called ∷ old.log.past) ≡ Some opened → IsSolitary v (Begin w n called ∷ old.log.past) → opened.begun ≡ length old.log.past
      first v opened is solitary = newest-open (w == v) (record { number = n; call = called; begun = length old.log.past; effect = None }) (open_call v old.log.past) opened (let t : (w == v) ≡ true = grind (arith, nat_tests, solitary.0) in t) is

  begins-by : (answer : Begun) → answer ≡ view.begin_answer old w called → TellsEndsIn (view.after_begin old w called answer)
  begins-by (begun.Begun n) is = record { ends = (tt, told.ends); merges = (tt, told.merges); began = begin-began n (begins-on old w n called is) }
  begins-by other is = told

  pub begun-tells : (answer : Begun) (new : WorldView) → answer ≡ view.begin_answer old w called → new ≡ view.after_begin old w called answer → TellsEndsIn new
  begun-tells answer new is after = subst TellsEndsIn (sym after) (begins-by answer is)
