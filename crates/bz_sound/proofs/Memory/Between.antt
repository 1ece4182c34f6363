-- A call that is open at a moment was open at each moment since its Begin.
use Rattle.std.proofs.Common.{◌≡◌, ◌≤◌, ◌<◌, ◌==◌, ℕ, Bool, true, false, List, [], ◌∷◌, length, refl, sym, ap, ◌∙◌, inl, inr, arith, Option, Some, None}
use Rattle.std.specs.Prelude.{if◌then◌else◌, option_map}
use Rattle.std.proofs.lemmas.Bool.{cases_lt}
use Rattle.bz_call.specs.declared.calls.Call.{Call}
use Rattle.bz_mark.specs.Moments.{at_moment}
use Rattle.bz_mark.proofs.MomentLaws.{at_moment-now, at_moment-earlier}
use Rattle.bz_mark.specs.declared.marks.Mark.{Mark}
use Rattle.bz_mark.specs.declared.marks.Mark.TheVariants.{Begin, End, Cut, Effect}
use Rattle.bz_sound.specs.Calls.{Open, open_call, with_effect}

-- the marks before an earlier moment, seen from one in between
pub at_moment-twice : (early late : ℕ) (past : List Mark) → early ≤ late → late ≤ length past → at_moment early (at_moment late past) ≡ at_moment early past
at_moment-twice early late [] before within = let none : late ≡ length {A = Mark} [] = omega arith in ap (at_moment early) (ap (λ (k : ℕ). at_moment k []) none)
at_moment-twice early late (mark ∷ past) before within = elim (cases_lt (length past) late) [
  | inl last ↦
      let now : late ≡ length (mark ∷ past) = omega arith in
      ap (at_moment early) (ap (λ (k : ℕ). at_moment k (mark ∷ past)) now ∙ at_moment-now (mark ∷ past))
  | inr earlier ↦ ap (at_moment early) (at_moment-earlier late mark past earlier) ∙ at_moment-twice early late past before earlier
      ∙ sym (at_moment-earlier early mark past (omega arith))
]

-- the open call as it was: the same but for its effect
record WasOpen (rest : Option Open) (opened : Open) : Type 0 where
  pub was : Open
  pub is_open : rest ≡ Some was
  pub number : was.number ≡ opened.number
  pub call : was.call ≡ opened.call
  pub begun : was.begun ≡ opened.begun

same : (rest : Option Open) (opened : Open) → rest ≡ Some opened → WasOpen rest opened
same rest opened is = record { was = opened; is_open = is; number = refl; call = refl; begun = refl }

begin-was : (b : Bool) (n now : ℕ) (call : Call) (rest : Option Open) (opened : Open)
    → (if b then Some (record { number = n; call = call; begun = now; effect = None }) else rest) ≡ Some opened → opened.begun < now → WasOpen rest opened
begin-was true n now call rest opened is before = let fresh : now ≡ opened.begun = cc in absurd (omega arith)
begin-was false n now call rest opened is before = same rest opened is

end-was : (b : Bool) (rest : Option Open) (opened : Open) → (if b then None else rest) ≡ Some opened → WasOpen rest opened
end-was true rest opened is = absurd (cc)
end-was false rest opened is = same rest opened is

effect-was : (b : Bool) (now : ℕ) (rest : Option Open) (opened : Open) → (if b then option_map (with_effect now) rest else rest) ≡ Some opened → WasOpen rest opened
effect-was true now None opened is = absurd (cc)
effect-was true now (Some other) opened is = record { was = other; is_open = refl; number = cc; call = cc; begun = cc }
effect-was false now rest opened is = same rest opened is

was-open : (w : ℕ) (mark : Mark) (past : List Mark) (opened : Open) → open_call w (mark ∷ past) ≡ Some opened → opened.begun < length past → WasOpen (open_call w past) opened
was-open w (Begin v n call) past opened is before = begin-was (v == w) n (length past) call (open_call w past) opened is before
was-open w (End v n reply at) past opened is before = end-was (v == w) (open_call w past) opened is
was-open w (Effect v n) past opened is before = effect-was (v == w) (length past) (open_call w past) opened is
was-open w Cut past opened is before = absurd (cc)
was-open w mark past opened is before = same (open_call w past) opened is

-- the call is open at the moment
pub record StaysOpen (past : List Mark) (w : ℕ) (opened : Open) (moment : ℕ) : Type 0 where
  pub then_open : Open
  pub is_open : open_call w (at_moment moment past) ≡ Some then_open
  pub number : then_open.number ≡ opened.number
  pub call : then_open.call ≡ opened.call

pub open-between : (w : ℕ) (past : List Mark) (opened : Open) (moment : ℕ) → open_call w past ≡ Some opened → opened.begun < moment → moment ≤ length past → StaysOpen past w opened moment
open-between w [] opened moment is after within = absurd (cc)
open-between w (mark ∷ past) opened moment is after within = elim (cases_lt (length past) moment) [
  | inl last ↦
      let now : moment ≡ length (mark ∷ past) = omega arith in
      record { then_open = opened; is_open = ap (open_call w) (ap (λ (k : ℕ). at_moment k (mark ∷ past)) now ∙ at_moment-now (mark ∷ past)) ∙ is; number = refl; call = refl }
  | inr earlier ↦
      let before : WasOpen (open_call w past) opened = was-open w mark past opened is (omega arith) in
      let stays : StaysOpen past w before.was moment = open-between w past before.was moment before.is_open (omega (arith, before.begun)) earlier in
      record {
        then_open = stays.then_open;
        is_open = ap (open_call w) (at_moment-earlier moment mark past earlier) ∙ stays.is_open;
        number = stays.number ∙ before.number;
        call = stays.call ∙ before.call;
      }
]
