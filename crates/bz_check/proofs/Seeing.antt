-- What marks saw of the map, and what is seen after one mark more.
use Rattle.std.specs.Prelude.{◌≡◌, ◌<◌, ◌==◌, if◌then◌else◌, ℕ, zero, suc, Bool, true, false, List, [], ◌∷◌, ◌++◌, length, slice_get, Option, Some, None, option_map}
use Rattle.std.proofs.Common.{arith, refl, sym, ap, ◌∙◌, inl, inr, length-append}
use Rattle.std.proofs.lemmas.Bool.{cases_lt}
use Rattle.bz_call.specs.Map.{Map, key_of}
use Rattle.bz_call.specs.declared.calls.Call.{Call}
use Rattle.bz_mark.specs.declared.marks.Mark.{Mark}
use Rattle.bz_mark.specs.declared.marks.Mark.TheVariants.{Begin, End, Load, Effect, Cut}
use Rattle.bz_mark.specs.declared.power.Power.{Power}
use Rattle.bz_mark.specs.Moments.{at_moment, mark_at}
use Rattle.bz_mark.proofs.MomentLaws.{at_moment-earlier, at_moment-before, mark_at-earlier, mark_at-newest}
use Rattle.bz_sound.specs.Calls.{Open, open_call, with_effect, map_after, map_at}
use Rattle.bz_sound.proofs.Memory.Acknowledged.{begin-effect, end-effect}
use Rattle.bz_check.specs.declared.sights.Sight.{Sight}
use Rattle.bz_check.specs.declared.table.OpenCall.{OpenCall}
use Rattle.bz_check.specs.Knowing.{open_of, Knows, HasWorker}
use Rattle.bz_check.specs.Pairs.{Holds}
use Rattle.bz_check.specs.Sights.{sight_with, sight_by, sight_of, seen_after, sight_in_by, sight_in}
use Rattle.bz_check.specs.Tables.{Known, open_in}
use Rattle.bz_check.proofs.Following.{eq_of, some_same}

-- a list with one element more
get_front : (xs : List (Option Sight)) (y : Option Sight) (i : ℕ) → i < length xs → slice_get (xs ++ y ∷ []) i ≡ slice_get xs i
get_front [] y i lt = absurd (omega arith)
get_front (x ∷ xs) y zero lt = refl
get_front (x ∷ xs) y (suc i) lt = get_front xs y i (omega arith)

get_last : (xs : List (Option Sight)) (y : Option Sight) → slice_get (xs ++ y ∷ []) (length xs) ≡ Some y
get_last [] y = refl
get_last (x ∷ xs) y = get_last xs y

get_end : (xs : List (Option Sight)) (y : Option Sight) (i : ℕ) → i ≡ length xs → slice_get (xs ++ y ∷ []) i ≡ Some y
get_end xs y i e = ap (λ (k : ℕ). slice_get (xs ++ y ∷ []) k) e ∙ get_last xs y

pub length-seen : (map : Map) (past : List Mark) → length (seen_after map past) ≡ length past
length-seen map [] = refl
length-seen map (mark ∷ past) = omega (arith, length-append (seen_after map past) (sight_of map past mark ∷ []), length-seen map past)

-- what a mark saw
pub sight_at : (map : Map) (past : List Mark) (moment : ℕ) (mark : Mark) → moment < length past → mark_at moment past ≡ Some mark → slice_get (seen_after map past) moment ≡ Some (sight_of map (at_moment moment past) mark)
sight_at map [] moment mark lt is = absurd (omega arith)
sight_at map (new ∷ past) moment mark lt is = elim (cases_lt moment (length past)) [
  | inl earlier ↦
      get_front (seen_after map past) (sight_of map past new) moment (omega (arith, length-seen map past))
      ∙ sight_at map past moment mark earlier (sym (mark_at-earlier moment new past earlier) ∙ is)
      ∙ ap (λ (marks : List Mark). Some (sight_of map marks mark)) (sym (at_moment-earlier moment new past (omega arith)))
  | inr last ↦
      let now : moment ≡ length past = omega arith in
      let e : new ≡ mark = some_same new mark (sym (mark_at-newest new past) ∙ ap (λ (k : ℕ). mark_at k (new ∷ past)) (sym now) ∙ is) in
      get_end (seen_after map past) (sight_of map past new) moment (omega (arith, length-seen map past))
      ∙ ap (λ (m : Mark). Some (sight_of map past m)) e
      ∙ ap (λ (marks : List Mark). Some (sight_of map marks mark)) (sym (ap (λ (k : ℕ). at_moment k (new ∷ past)) now ∙ at_moment-before new past))
]

-- the Effect of an open call saw what stood at the call's key
pub record ShowsEffect (map : Map) (past : List Mark) (w : ℕ) (opened : Open) (effect : ℕ) : Type 0 where
  pub before_now : effect < length past
  pub shown : slice_get (seen_after map past) effect ≡ Some (Some (sight_with false w (map_at map effect past) opened.call))

later_shown : (map : Map) (past : List Mark) (mark : Mark) (w : ℕ) (opened : Open) (effect : ℕ) → ShowsEffect map past w opened effect → ShowsEffect map (mark ∷ past) w opened effect
later_shown map past mark w opened effect h = record {
  before_now = omega (arith, h.before_now);
  shown = get_front (seen_after map past) (sight_of map past mark) effect (omega (arith, length-seen map past, h.before_now)) ∙ h.shown
      ∙ ap (λ (marks : List Mark). Some (Some (sight_with false w (map_after map marks) opened.call))) (sym (at_moment-earlier effect mark past (omega (arith, h.before_now))));
}

own_shown : (b : Bool) (v w n : ℕ) (map : Map) (past : List Mark) (opened : Open) (effect : ℕ) → (v == w) ≡ b
    → (if b then option_map (with_effect (length past)) (open_call w past) else open_call w past) ≡ Some opened → opened.effect ≡ Some effect
    → (open_call w past ≡ Some opened → ShowsEffect map past w opened effect) → ShowsEffect map (Effect v n ∷ past) w opened effect
own_shown true v w n map past opened effect same is took before = go (open_call w past) refl is
  where
    worker : v ≡ w
    worker = eq_of v w same

    go : (rest : Option Open) → open_call w past ≡ rest → option_map (with_effect (length past)) rest ≡ Some opened → ShowsEffect map (Effect v n ∷ past) w opened effect
    go None e made = absurd (cc)
    go (Some other) e made =
        let told : Some (length past) ≡ opened.effect = cc in
        let now : length past ≡ effect = cc in
        let call : other.call ≡ opened.call = cc in
        let marks : past ≡ at_moment effect (Effect v n ∷ past) = sym (ap (λ (k : ℕ). at_moment k (Effect v n ∷ past)) (sym now) ∙ at_moment-before (Effect v n) past) in
        let own : sight_by false v (map_after map past) (open_call v past) ≡ Some (sight_with false w (map_after map past) other.call)
        = ap (λ (u : ℕ). sight_by false u (map_after map past) (open_call u past)) worker ∙ ap (λ (o : Option Open). sight_by false w (map_after map past) o) e in
        record {
          before_now = omega arith;
          shown = get_end (seen_after map past) (sight_of map past (Effect v n)) effect (omega (arith, length-seen map past)) ∙ ap (λ (s : Option Sight). Some s) own
              ∙ ap (λ (c : Call). Some (Some (sight_with false w (map_after map past) c))) call
              ∙ ap (λ (all : List Mark). Some (Some (sight_with false w (map_after map all) opened.call))) marks;
        }
own_shown false v w n map past opened effect same is took before = later_shown map past (Effect v n) w opened effect (before is)

pub shows_effect : (map : Map) (past : List Mark) (w : ℕ) (opened : Open) (effect : ℕ) → open_call w past ≡ Some opened → opened.effect ≡ Some effect → ShowsEffect map past w opened effect
shows_effect map [] w opened effect is took = absurd (cc)
shows_effect map (Begin v n call ∷ past) w opened effect is took =
    later_shown map past (Begin v n call) w opened effect (shows_effect map past w opened effect (begin-effect (v == w) n (length past) call (open_call w past) opened effect is took) took)
shows_effect map (End v n reply at ∷ past) w opened effect is took =
    later_shown map past (End v n reply at) w opened effect (shows_effect map past w opened effect (end-effect (v == w) (open_call w past) opened is) took)
shows_effect map (Effect v n ∷ past) w opened effect is took = own_shown (v == w) v w n map past opened effect refl is took (λ here. shows_effect map past w opened effect here took)
shows_effect map (Cut ∷ past) w opened effect is took = absurd (cc)
shows_effect map (mark ∷ past) w opened effect is took = later_shown map past mark w opened effect (shows_effect map past w opened effect is took)

-- what a mark sees by the table and the pairs is what it sees by the marks
abbrev found_sight : Bool → ℕ → Option (List ℕ) → Sight
found_sight load w found = record { w = w; load = load; found = found }

same_sight : (load : Bool) (w : ℕ) (o : Option OpenCall) (opened : Option Open) (map : Map) (pairs : List (List ℕ × List ℕ)) → Holds map pairs → option_map open_of o ≡ opened → sight_in_by load w pairs o ≡ sight_by load w map opened
same_sight load w None opened map pairs h e = ap (λ (o : Option Open). sight_by load w map o) e
same_sight load w (Some call) opened map pairs h e =
    ap (λ (found : Option (List ℕ)). Some (found_sight load w found)) (sym (h (key_of call.call))) ∙ ap (λ (o : Option Open). sight_by load w map o) e

pub sight_more : (at_start : Power) (past : List Mark) (t : Known) (mark : Mark) (map : Map) (pairs : List (List ℕ × List ℕ)) → Knows at_start past t → HasWorker mark → Holds (map_after map past) pairs → sight_in t pairs mark ≡ sight_of map past mark
sight_more at_start past t (Load w a v) map pairs k has h = same_sight true w (open_in t w) (open_call w past) (map_after map past) pairs h (k.is_open w has)
sight_more at_start past t (Effect w n) map pairs k has h = same_sight false w (open_in t w) (open_call w past) (map_after map past) pairs h (k.is_open w has)
sight_more at_start past t mark map pairs k has h = refl
