-- No call takes effect twice.
use Rattle.std.proofs.Common.{◌≡◌, ◌<◌, ◌≤◌, ℕ, ◌+◌, ◌-◌, ◌==◌, zero, suc, Bool, true, false, List, [], ◌∷◌, length, drop, refl, sym, ap, ◌∙◌, subst, inl, inr, arith, Option, Some, None}
use Rattle.std.specs.Prelude.{if◌then◌else◌, option_map}
use Rattle.std.proofs.lemmas.Bool.{cases_lt}
use Rattle.std.proofs.lemmas.Bool.Decides.{nat_tests}
use Rattle.bz_call.specs.Map.{Map}
use Rattle.bz_call.specs.declared.calls.Call.{Call}
use Rattle.bz_mark.specs.Moments.{at_moment, mark_at}
use Rattle.bz_mark.proofs.MomentLaws.{length-at_moment, mark_at-at_moment, mark_at-earlier}
use Rattle.bz_mark.proofs.WordLaws.{newest-mark_at}
use Rattle.bz_mark.specs.declared.marks.Mark.{Mark}
use Rattle.bz_mark.specs.declared.marks.Mark.TheVariants.{Begin, End, Cut, Effect}
use Rattle.bz_sound.specs.Calls.{Open, open_call, begun_calls, with_effect}
use Rattle.bz_sound.specs.Memory.CallLaws.{EffectsStandOnce}
use Rattle.bz_sound.proofs.Memory.Marks.{each-at, each-before}
use Rattle.bz_sound.proofs.Memory.Standing.{MayStand, CallsStand, unbroken-stands}
use Rattle.bz_sound.proofs.Memory.Told.{last-call}

one-more : (b : Bool) (count : ℕ) → count ≤ (if b then count + 1 else count)
one-more true count = omega arith
one-more false count = omega arith

-- calls that have begun stay so
begun-drop : (w count : ℕ) (past : List Mark) → begun_calls w (drop count past) ≤ begun_calls w past
begun-drop w zero past = omega arith
begun-drop w (suc count) [] = omega arith
begun-drop w (suc count) (Begin v n call ∷ past) = omega (arith, one-more (v == w) (begun_calls w past), begun-drop w count past)
begun-drop w (suc count) (mark ∷ past) = begun-drop w count past

-- a call that took effect has begun
effect-begun : (start : Map) (past : List Mark) (first w n : ℕ) → CallsStand start past → first < length past → mark_at first past ≡ Some (Effect w n) → n ≤ begun_calls w past
effect-begun start past first w n once h is =
    let may = each-at (MayStand start) past first (Effect w n) once h is in
    let last = last-call start (at_moment first past) w may.1.opened (each-before (MayStand start) first past once) may.1.is_open in
    omega (arith, may.1.number, last.last, begun-drop w (length past - first) past)

-- if the call with this number is open, it took effect
record TookEffect (past : List Mark) (w n : ℕ) : Type 0 where
  pub took : (opened : Open) → open_call w past ≡ Some opened → opened.number ≡ n → opened.effect ≡ None → ⊥

now-took : (b : Bool) (now n : ℕ) (rest : Option Open) (opened : Open) → (if b then option_map (with_effect now) rest else rest) ≡ Some opened → opened.number ≡ n → opened.effect ≡ None
    → (b ≡ false → rest ≡ Some opened → ⊥) → ⊥
now-took true now n None opened is number quiet before = cc
now-took true now n (Some other) opened is number quiet before = let took : Some now ≡ opened.effect = cc in cc
now-took false now n rest opened is number quiet before = before refl is

begin-took : (b : Bool) (v w m n : ℕ) (past : List Mark) (call : Call) (opened : Open) → (v == w) ≡ b → m ≡ begun_calls v past + 1 → n ≤ begun_calls w past
    → (if b then Some (record { number = m; call = call; begun = length past; effect = None }) else open_call w past) ≡ Some opened → opened.number ≡ n
    → (open_call w past ≡ Some opened → ⊥) → ⊥
begin-took true v w m n past call opened same numbered begun is number before =
    let worker : v ≡ w = grind (arith, nat_tests) in
    let fresh : m ≡ opened.number = cc in
    omega (arith, ap (λ (u : ℕ). begun_calls u past) worker)
begin-took false v w m n past call opened same numbered begun is number before = before is

end-took : (b : Bool) (rest : Option Open) (opened : Open) → (if b then None else rest) ≡ Some opened → (rest ≡ Some opened → ⊥) → ⊥
end-took true rest opened is before = cc
end-took false rest opened is before = before is

-- one mark more
stays-took : (start : Map) (mark : Mark) (past : List Mark) (w n : ℕ) → MayStand start past mark → n ≤ begun_calls w past → TookEffect past w n → TookEffect (mark ∷ past) w n
stays-took start (Begin v m call) past w n may begun h = record { took = λ opened is number quiet. begin-took (v == w) v w m n past call opened refl may.1.numbered begun is number (λ here. h.took opened here number quiet) }
stays-took start (End v m reply at) past w n may begun h = record { took = λ opened is number quiet. end-took (v == w) (open_call w past) opened is (λ here. h.took opened here number quiet) }
stays-took start (Effect v m) past w n may begun h = record { took = λ opened is number quiet. now-took (v == w) (length past) n (open_call w past) opened is number quiet (λ other here. h.took opened here number quiet) }
stays-took start Cut past w n may begun h = record { took = λ opened is number quiet. cc }
stays-took start mark past w n may begun h = record { took = λ opened is number quiet. h.took opened is number quiet }

took-now : (past : List Mark) (w n : ℕ) → TookEffect (Effect w n ∷ past) w n
took-now past w n = record { took = λ opened is number quiet. now-took (w == w) (length past) n (open_call w past) opened is number quiet (λ other here. absurd (grind (arith, nat_tests, other))) }

took : (start : Map) (past : List Mark) (first w n : ℕ) → CallsStand start past → first < length past → mark_at first past ≡ Some (Effect w n) → TookEffect past w n
took start [] first w n once h is = absurd (omega arith)
took start (mark ∷ past) first w n once h is = elim (cases_lt first (length past)) [
  | inl earlier ↦
      let before : mark_at first past ≡ Some (Effect w n) = sym (mark_at-earlier first mark past earlier) ∙ is in
      stays-took start mark past w n once.0 (effect-begun start past first w n once.1 earlier before) (took start past first w n once.1 earlier before)
  | inr last ↦ subst (λ (newest : Mark). TookEffect (newest ∷ past) w n) (sym (newest-mark_at mark (Effect w n) past first last h is)) (took-now past w n)
]

-- no later Effect names the same call
not-later : (start : Map) (past : List Mark) (first second w n : ℕ) → CallsStand start past → second < length past → mark_at first past ≡ Some (Effect w n)
    → mark_at second past ≡ Some (Effect w n) → first < second → ⊥
not-later start past first second w n once h is again order =
    let may = each-at (MayStand start) past second (Effect w n) once h again in
    let size : length (at_moment second past) ≡ second = length-at_moment second past (omega arith) in
    let before : mark_at first (at_moment second past) ≡ Some (Effect w n) = mark_at-at_moment first second past order (omega arith) ∙ is in
    (took start (at_moment second past) first w n (each-before (MayStand start) second past once) (omega arith) before).took may.1.opened may.1.is_open may.1.number may.1.once

pub stands-once : (start : Map) (past : List Mark) (first second w n : ℕ) → CallsStand start past → first < length past → second < length past → mark_at first past ≡ Some (Effect w n)
    → mark_at second past ≡ Some (Effect w n) → first ≡ second
stands-once start past first second w n once h k is again = elim (cases_lt first second) [
  | inl before ↦ absurd (not-later start past first second w n once k is again before)
  | inr not_before ↦ elim (cases_lt second first) [
    | inl after ↦ absurd (not-later start past second first w n once h again is after)
    | inr not_after ↦ omega arith
  ]
]

pub effects-once : EffectsStandOnce
effects-once c log first second w n sound h k is again = stands-once _ log.past first second w n (unbroken-stands c log sound).once h k is again
