-- A call that was open at a cut is told `kept` exactly where the journal has its Effect.
use Rattle.std.proofs.Common.{◌≡◌, ◌<◌, ◌⊎◌, inl, inr, ℕ, suc, Bool, true, false, List, [], ◌∷◌, length, refl, sym, ap, subst, ◌∙◌, arith, ◌==◌, Option, Some, None}
use Rattle.std.specs.Prelude.{if◌then◌else◌, option_map, is_some}
use Rattle.std.proofs.lemmas.Bool.Decides.{nat_tests}
use Rattle.bz_call.specs.Map.{Map}
use Rattle.bz_call.specs.declared.calls.Call.{Call}
use Rattle.bz_mark.specs.Moments.{mark_at}
use Rattle.bz_mark.proofs.MomentLaws.{mark_at-newest, mark_at-earlier}
use Rattle.bz_mark.specs.declared.marks.Mark.{Mark}
use Rattle.bz_mark.specs.declared.marks.Mark.TheVariants.{Begin, End, Cut, Effect}
use Rattle.bz_sound.specs.Calls.{Open, open_call, with_effect}
use Rattle.bz_sound.specs.Memory.Moments.{EachMark, map_at_start}
use Rattle.bz_sound.specs.Power.Calls.{CallsOnce}
use Rattle.bz_mark.specs.declared.power.Power.{Power}
use Rattle.bz_sound.proofs.Memory.Acknowledged as stands
use Rattle.bz_sound.proofs.Memory.Ended.{inside}
use Rattle.bz_text.specs.Lines.{open_line}
use Rattle.bz_text.specs.Fates.{HasEffect, TellsFate, TellsFates, FatesAreRight}

-- the Effect of an open call that has one stands in the journal
has-effect : (at_start : Power) (start : Map) (past : List Mark) (w : ℕ) (opened : Open) (at : ℕ) → CallsOnce at_start start past → open_call w past ≡ Some opened → opened.effect ≡ Some at → stands.HasEffect past w opened at
has-effect at_start start [] w opened at once is took = absurd (cc)
has-effect at_start start (Begin v n call ∷ past) w opened at once is took =
    stands.later (Begin v n call) past w opened at (has-effect at_start start past w opened at once.1 (stands.begin-effect (v == w) n (length past) call (open_call w past) opened at is took) took)
has-effect at_start start (End v n reply moment ∷ past) w opened at once is took =
    stands.later (End v n reply moment) past w opened at (has-effect at_start start past w opened at once.1 (stands.end-effect (v == w) (open_call w past) opened is) took)
has-effect at_start start (Effect v n ∷ past) w opened at once is took =
    stands.own-effect (v == w) v w n past opened at refl (λ other here. stands.same-number once.0.1.opened other v n past once.0.1.is_open once.0.1.number here) is took
    (λ here. has-effect at_start start past w opened at once.1 here took)
has-effect at_start start (Cut ∷ past) w opened at once is took = absurd (cc)
has-effect at_start start (mark ∷ past) w opened at once is took = stands.later mark past w opened at (has-effect at_start start past w opened at once.1 is took)

-- an Effect that stands after the Begin is no newer mark of another kind, so it stands before
abbrev pub IsEffectOf : ℕ → Mark → Type 0
IsEffectOf w (Effect v n) = v ≡ w
IsEffectOf w mark = ⊥

own_mark : (w n : ℕ) (mark : Mark) → Some mark ≡ Some (Effect w n) → IsEffectOf w mark
own_mark w n mark is = let same : Effect w n ≡ mark = cc in subst (IsEffectOf w) same refl

earlier : (mark : Mark) (past : List Mark) (w : ℕ) (opened : Open) → (IsEffectOf w mark → ⊥) → HasEffect (mark ∷ past) w opened → HasEffect past w opened
earlier mark past w opened never h = elim (before h.moment h.before_now) [
  | inl lt ↦ record { moment = h.moment; after_begin = h.after_begin; before_now = lt; mark = sym (mark_at-earlier h.moment mark past lt) ∙ h.mark }
  | inr here ↦ absurd (never (own_mark w opened.number mark (sym (mark_at-newest mark past) ∙ subst (λ (m : ℕ). mark_at m (mark ∷ past) ≡ Some (Effect w opened.number)) here h.mark)))
]
  where
    before : (m : ℕ) → m < suc (length past) → (m < length past) ⊎ (m ≡ length past)
    before m lt = grind (arith, nat_tests)

-- the call has begun after the newest Begin of its worker
begun_now : (b : Bool) (n now : ℕ) (call : Call) (rest : Option Open) (opened : Open) → (if b then Some (record { number = n; call = call; begun = now; effect = None }) else rest) ≡ Some opened
    → (now ≡ opened.begun) ⊎ (rest ≡ Some opened)
begun_now true n now call rest opened is = inl (cc)
begun_now false n now call rest opened is = inr is

effect_now : (b : Bool) (now : ℕ) (rest : Option Open) (opened : Open) → (if b then option_map (with_effect now) rest else rest) ≡ Some opened
    → (b ≡ true → is_some opened.effect ≡ true) × (b ≡ false → rest ≡ Some opened)
effect_now true now None opened is = absurd (cc)
effect_now true now (Some was) opened is = let same : with_effect now was ≡ opened = cc in (λ own. subst (λ (o : Open). is_some o.effect ≡ true) same refl, λ other. absurd (cc other))
effect_now false now rest opened is = (λ own. absurd (cc own), λ other. is)

test : (v w : ℕ) → ((v == w) ≡ true) ⊎ (((v == w) ≡ false) × (v ≡ w → ⊥))
test v w = grind (arith, nat_tests)

took_effect : (past : List Mark) (w : ℕ) (opened : Open) → open_call w past ≡ Some opened → HasEffect past w opened → is_some opened.effect ≡ true
took_effect [] w opened is h = absurd (cc is)
took_effect (Begin v n call ∷ past) w opened is h = elim (begun_now (v == w) n (length past) call (open_call w past) opened is) [
  | inl now ↦ absurd (omega (arith, h.after_begin, h.before_now))
  | inr rest ↦ took_effect past w opened rest (earlier (Begin v n call) past w opened (λ never. never) h)
]
took_effect (End v n reply at ∷ past) w opened is h =
    took_effect past w opened (stands.end-effect (v == w) (open_call w past) opened is) (earlier (End v n reply at) past w opened (λ never. never) h)
took_effect (Effect v n ∷ past) w opened is h =
    let now = effect_now (v == w) (length past) (open_call w past) opened is in
    elim (test v w) [
      | inl own ↦ now.0 own
      | inr other ↦ took_effect past w opened (now.1 other.0) (earlier (Effect v n) past w opened other.1 h)
    ]
took_effect (Cut ∷ past) w opened is h = absurd (cc is)
took_effect (mark ∷ past) w opened is h = took_effect past w opened is (earlier mark past w opened (λ never. never) h)

some_effect : (at_start : Power) (start : Map) (past : List Mark) (w : ℕ) (opened : Open) (effect : Option ℕ) → effect ≡ opened.effect → CallsOnce at_start start past → open_call w past ≡ Some opened → is_some effect ≡ true → HasEffect past w opened
some_effect at_start start past w opened None same once is kept = absurd (cc kept)
some_effect at_start start past w opened (Some at) same once is kept =
    let took : opened.effect ≡ Some at = sym same in
    let stands = has-effect at_start start past w opened at once is took in
    record { moment = at; after_begin = (inside w past opened at is took).after_begin; before_now = stands.before_now; mark = stands.mark }

tells-fate : (at_start : Power) (start : Map) (past : List Mark) → CallsOnce at_start start past → (w : ℕ) (opened : Open) → open_call w past ≡ Some opened → TellsFate past w opened
tells-fate at_start start past once w opened is = record {
  kept = is_some opened.effect;
  line = ap (open_line w) is;
  is_right = (λ kept. some_effect at_start start past w opened opened.effect refl once is kept, λ h. took_effect past w opened is h);
}

each_cut : (at_start : Power) (start : Map) (past : List Mark) → CallsOnce at_start start past → EachMark TellsFates past
each_cut at_start start [] once = tt
each_cut at_start start (Cut ∷ past) once = (tells-fate at_start start past once.1, each_cut at_start start past once.1)
each_cut at_start start (mark ∷ past) once = (tt, each_cut at_start start past once.1)

pub fates-are-right : FatesAreRight
fates-are-right c at_start log sound = each_cut at_start (map_at_start c log.start) log.past sound.once
