-- What is known of calls and of the power stays known after each mark.
use Rattle.std.specs.Prelude.{◌≡◌, ◌≢◌, ◌<◌, ◌≤◌, ◌+◌, ◌-◌, ◌^◌, ◌==◌, nat_le, if◌then◌else◌, ℕ, Bool, true, false, List, [], ◌∷◌, length, get_or, slice_set, replicate, Option, Some, None, option_map, IfSome, zero, suc}
use Rattle.std.proofs.Common.{arith, refl, sym, ap, ◌∙◌, subst, inl, inr}
use Rattle.std.proofs.lemmas.Bool.{cases_eq}
use Rattle.std.proofs.lemmas.Bool.Decides.{nat_tests}
use Rattle.std.proofs.lemmas.List.{get_or-set_same, get_or-set_other, length-set, length-replicate}
use Rattle.bz_mark.specs.declared.marks.Mark.{Mark}
use Rattle.bz_mark.specs.declared.marks.Mark.TheVariants.{Begin, End, Cut, On, Ready, Effect}
use Rattle.bz_mark.specs.declared.power.Power.{Power}
use Rattle.bz_mark.specs.declared.power.Power.TheVariants as power
use Rattle.bz_mark.specs.Times.{power_of}
use Rattle.bz_sound.specs.Calls.{Open, with_effect, open_call, begun_calls}
use Rattle.bz_check.specs.declared.table.OpenCall.{OpenCall}
use Rattle.bz_check.specs.declared.table.Caller.{Caller}
use Rattle.bz_check.specs.Tables.{Known, nobody, no_calls, caller_at, begun_from, took, next_count, table_after}
use Rattle.bz_check.specs.Knowing.{open_of, Knows, HasWorker}
use Rattle.bz_check.proofs.Tests.{same_test, other_test}

at_most : (a b : ℕ) → a ≤ b → nat_le a b ≡ true
at_most a b h = grind (arith, nat_tests)

not_most : (a b : ℕ) → b < a → nat_le a b ≡ false
not_most a b h = grind (arith, nat_tests)

-- no worker has begun more calls than there are marks
one_more : (t : Bool) (x n : ℕ) → x ≤ n → (if t then x + 1 else x) ≤ suc n
one_more true x n h = omega arith
one_more false x n h = omega arith

begun-within : (w : ℕ) (past : List Mark) → begun_calls w past ≤ length past
begun-within w [] = omega arith
begun-within w (Begin v n call ∷ past) = one_more (v == w) (begun_calls w past) (length past) (begun-within w past)
begun-within w (mark ∷ past) = omega (arith, begun-within w past)

later : (o : Option OpenCall) (n : ℕ) → IfSome o (λ call. call.begun < n) → IfSome o (λ call. call.begun < suc n)
later None n h = h
later (Some call) n h = omega arith

none_from : (o : Option OpenCall) (n : ℕ) → IfSome o (λ call. call.begun < n) → begun_from (n + 1) o ≡ None
none_from None n h = refl
none_from (Some call) n h = rw (not_most (n + 1) call.begun (omega arith)) refl

took-before : (o : Option OpenCall) (now n : ℕ) → IfSome o (λ call. call.begun < n) → IfSome (took now o) (λ call. call.begun < suc n)
took-before None now n h = h
took-before (Some call) now n h = omega arith

effect_of : (t : Bool) (now : ℕ) (call : OpenCall) → let after : OpenCall = record call { effect = Some now } in
    option_map open_of (if t then Some after else None) ≡ option_map (with_effect now) (option_map open_of (if t then Some call else None))
effect_of true now call = refl
effect_of false now call = refl

took-open : (o : Option OpenCall) (cut now : ℕ) → option_map open_of (begun_from cut (took now o)) ≡ option_map (with_effect now) (option_map open_of (begun_from cut o))
took-open None cut now = refl
took-open (Some call) cut now = effect_of (nat_le cut call.begun) now call

-- one worker's caller is another one
caller-same : (callers : List Caller) (w : ℕ) (caller : Caller) → length callers ≡ 256 → w < 256 → get_or (slice_set callers w caller) w nobody ≡ caller
caller-same callers w caller size lt = get_or-set_same callers w caller nobody (omega arith)

caller-other : (callers : List Caller) (w v : ℕ) (caller : Caller) → v ≢ w → get_or (slice_set callers w caller) v nobody ≡ get_or callers v nobody
caller-other callers w v caller ne = get_or-set_other callers w v caller nobody ne

caller-here : (callers : List Caller) (w v : ℕ) (caller : Caller) → length callers ≡ 256 → w < 256 → v ≡ w → get_or (slice_set callers w caller) v nobody ≡ caller
caller-here callers w v caller size lt e = ap (λ (u : ℕ). get_or (slice_set callers w caller) u nobody) e ∙ caller-same callers w caller size lt

-- a mark that changes one worker's calls alone, and not the power
record Turns (at_start : Power) (past : List Mark) (mark : Mark) (t : Known) (w : ℕ) (caller : Caller) : Type 0 where
  worker : w < 256
  begun : caller.begun ≡ begun_calls w (mark ∷ past)
  is_open : option_map open_of (begun_from t.cut caller.last) ≡ open_call w (mark ∷ past)
  before : IfSome caller.last (λ call. call.begun < suc (length past))
  others_begun : (v : ℕ) → v ≢ w → begun_calls v (mark ∷ past) ≡ begun_calls v past
  others_open : (v : ℕ) → v ≢ w → open_call v (mark ∷ past) ≡ open_call v past
  power : power_of at_start (mark ∷ past) ≡ power_of at_start past

turned : (at_start : Power) (past : List Mark) (mark : Mark) (t : Known) (w : ℕ) (caller : Caller) → Knows at_start past t → Turns at_start past mark t w caller
    → Knows at_start (mark ∷ past) (record { callers = slice_set t.callers w caller; power = t.power; newest = Some mark; cut = t.cut })
turned at_start past mark t w caller k c = record {
  size = length-set t.callers w caller ∙ k.size;
  now = omega (arith, k.now);
  begun = λ v lt. elim (cases_eq v w) [
    | inl e ↦ ap (λ (x : Caller). x.begun) (caller-here t.callers w v caller k.size c.worker e) ∙ (c.begun ∙ ap (λ (u : ℕ). begun_calls u (mark ∷ past)) (sym e))
    | inr ne ↦ ap (λ (x : Caller). x.begun) (caller-other t.callers w v caller ne) ∙ (k.begun v lt ∙ sym (c.others_begun v ne))
  ];
  is_open = λ v lt. elim (cases_eq v w) [
    | inl e ↦ ap (λ (x : Caller). option_map open_of (begun_from t.cut x.last)) (caller-here t.callers w v caller k.size c.worker e) ∙ (c.is_open ∙ ap (λ (u : ℕ). open_call u (mark ∷ past)) (sym e))
    | inr ne ↦ ap (λ (x : Caller). option_map open_of (begun_from t.cut x.last)) (caller-other t.callers w v caller ne) ∙ (k.is_open v lt ∙ sym (c.others_open v ne))
  ];
  before = λ v lt. elim (cases_eq v w) [
    | inl e ↦ subst (λ (x : Caller). IfSome x.last (λ call. call.begun < suc (length past))) (sym (caller-here t.callers w v caller k.size c.worker e)) c.before
    | inr ne ↦ subst (λ (x : Caller). IfSome x.last (λ call. call.begun < suc (length past))) (sym (caller-other t.callers w v caller ne)) (later (caller_at t v).last (length past) (k.before v lt))
  ];
  power = k.power ∙ sym c.power;
  newest = refl;
}

-- a mark that changes no calls
rests : (at_start : Power) (past : List Mark) (mark : Mark) (t : Known) (now : Power) → Knows at_start past t → ((v : ℕ) → begun_calls v (mark ∷ past) ≡ begun_calls v past) → ((v : ℕ) → open_call v (mark ∷ past) ≡ open_call v past)
    → now ≡ power_of at_start (mark ∷ past) → Knows at_start (mark ∷ past) (record { callers = t.callers; power = now; newest = Some mark; cut = t.cut })
rests at_start past mark t now k begun opens is = record {
  size = k.size;
  now = omega (arith, k.now);
  begun = λ v lt. k.begun v lt ∙ sym (begun v);
  is_open = λ v lt. k.is_open v lt ∙ sym (opens v);
  before = λ v lt. later (caller_at t v).last (length past) (k.before v lt);
  power = is;
  newest = refl;
}

begin_knows : (at_start : Power) (past : List Mark) (t : Known) (w n : ℕ) → Knows at_start past t → w < 256 → length past < 2 ^ 32 - 1 → (call : _) → Knows at_start (Begin w n call ∷ past) (table_after t (length past) (Begin w n call))
begin_knows at_start past t w n k lt few call =
    turned at_start past (Begin w n call) t w (record { begun = next_count (caller_at t w).begun; last = Some (record { number = n; call = call; begun = length past; effect = None }) }) k (record {
      worker = lt;
      begun = rw (same_test w w refl) (omega (arith, k.begun w lt, begun-within w past));
      is_open = rw (same_test w w refl, at_most t.cut (length past) k.now) refl;
      before = omega arith;
      others_begun = λ v ne. rw (other_test w v (λ e. ne (sym e))) refl;
      others_open = λ v ne. rw (other_test w v (λ e. ne (sym e))) refl;
      power = refl;
    })

end_knows : (at_start : Power) (past : List Mark) (t : Known) (w n at : ℕ) → Knows at_start past t → w < 256 → (reply : _) → Knows at_start (End w n reply at ∷ past) (table_after t (length past) (End w n reply at))
end_knows at_start past t w n at k lt reply =
    turned at_start past (End w n reply at) t w (record { begun = (caller_at t w).begun; last = None }) k (record {
      worker = lt;
      begun = k.begun w lt;
      is_open = rw (same_test w w refl) refl;
      before = tt;
      others_begun = λ v ne. refl;
      others_open = λ v ne. rw (other_test w v (λ e. ne (sym e))) refl;
      power = refl;
    })

effect_knows : (at_start : Power) (past : List Mark) (t : Known) (w n : ℕ) → Knows at_start past t → w < 256 → Knows at_start (Effect w n ∷ past) (table_after t (length past) (Effect w n))
effect_knows at_start past t w n k lt =
    turned at_start past (Effect w n) t w (record { begun = (caller_at t w).begun; last = took (length past) (caller_at t w).last }) k (record {
      worker = lt;
      begun = k.begun w lt;
      is_open = rw (same_test w w refl) (took-open (caller_at t w).last t.cut (length past) ∙ ap (λ (o : Option Open). option_map (with_effect (length past)) o) (k.is_open w lt));
      before = took-before (caller_at t w).last (length past) (length past) (k.before w lt);
      others_begun = λ v ne. refl;
      others_open = λ v ne. rw (other_test w v (λ e. ne (sym e))) refl;
      power = refl;
    })

cut_knows : (at_start : Power) (past : List Mark) (t : Known) → Knows at_start past t → Knows at_start (Cut ∷ past) (table_after t (length past) Cut)
cut_knows at_start past t k = record {
  size = k.size;
  now = omega arith;
  begun = λ v lt. k.begun v lt;
  is_open = λ v lt. ap (λ (o : Option OpenCall). option_map open_of o) (none_from (caller_at t v).last (length past) (k.before v lt));
  before = λ v lt. later (caller_at t v).last (length past) (k.before v lt);
  power = refl;
  newest = refl;
}

-- one mark more
pub knows_more : (at_start : Power) (past : List Mark) (t : Known) (mark : Mark) → Knows at_start past t → HasWorker mark → length past < 2 ^ 32 - 1 → Knows at_start (mark ∷ past) (table_after t (length past) mark)
knows_more at_start past t (Begin w n call) k has few = begin_knows at_start past t w n k has few call
knows_more at_start past t (End w n reply at) k has few = end_knows at_start past t w n at k has reply
knows_more at_start past t (Effect w n) k has few = effect_knows at_start past t w n k has
knows_more at_start past t Cut k has few = cut_knows at_start past t k
knows_more at_start past t On k has few = rests at_start past On t power.Recovering k (λ v. refl) (λ v. refl) refl
knows_more at_start past t Ready k has few = rests at_start past Ready t power.On k (λ v. refl) (λ v. refl) refl
knows_more at_start past t mark k has few = rests at_start past mark t t.power k (λ v. refl) (λ v. refl) k.power

-- before any mark
nobody-at : (n w : ℕ) → get_or (replicate n nobody) w nobody ≡ nobody
nobody-at zero w = refl
nobody-at (suc n) zero = refl
nobody-at (suc n) (suc w) = nobody-at n w

pub knows_none : (at_start : Power) → Knows at_start [] (no_calls at_start)
knows_none at_start = record {
  size = length-replicate {A = Caller} 256 nobody;
  now = omega arith;
  begun = λ w lt. rw (nobody-at 256 w) refl;
  is_open = λ w lt. rw (nobody-at 256 w) refl;
  before = λ w lt. rw (nobody-at 256 w) tt;
  power = refl;
  newest = refl;
}
