-- The tests of a table decide which mark may follow.
use Rattle.std.specs.Prelude.{◌≡◌, ◌≢◌, ◌<◌, ◌-◌, ◌==◌, ◌&&◌, ◌↔◌, not, nat_lt, ℕ, zero, suc, Bool, true, false, List, [], ◌∷◌, Option, Some, None, option_map, is_some, is_none}
use Rattle.std.proofs.Common.{arith, refl, sym, ap, ◌∙◌, subst, inl, inr}
use Rattle.std.proofs.lemmas.Bool.{cases_eq}
use Rattle.std.proofs.lemmas.Bool.Decides.{nat_tests}
use Rattle.bz_call.specs.Map.{Map, apply, IsChange}
use Rattle.bz_mark.specs.declared.marks.Mark.{Mark}
use Rattle.bz_mark.specs.declared.marks.Mark.TheVariants.{Begin, End, Load, Store, Cas, Ask, Fence, Evict, Cut, On, Ready, Effect}
use Rattle.bz_mark.specs.declared.power.Power.{Power}
use Rattle.bz_mark.specs.declared.power.Power.TheVariants as power
use Rattle.bz_sound.specs.Calls.{Open, open_call, map_after, MayEnd, MayEffect}
use Rattle.bz_sound.specs.Memory.Calls.{HasOpenCall}
use Rattle.bz_sound.specs.Memory.Moments.{IsAfterFence}
use Rattle.bz_sound.specs.Power.Calls.{MayAct, IsAfterRecovering, BeginsPowered, MayFollow}
use Rattle.bz_check.specs.declared.table.OpenCall.{OpenCall}
use Rattle.bz_check.specs.Tables.{Known, caller_at, open_in, is_on_in, is_recovering_in, is_off_in, after_fence_in, after_recovering_in, has_number_in, may_effect_in, may_act_in, may_begin_in, may_follow_in}
use Rattle.bz_check.specs.Knowing.{open_of, newest_of, Knows, HasWorker}
use Rattle.bz_check.proofs.Tests.{same_test, other_test}

-- tests
pub false_true : false ≡ true → ⊥
false_true e = cc

pub none_some : {A : Type 0} (x : A) → None ≡ Some x → ⊥
none_some x e = cc

pub some_same : {A : Type 0} (x y : A) → Some x ≡ Some y → x ≡ y
some_same x y e = cc

pub eq_of : (a b : ℕ) → (a == b) ≡ true → a ≡ b
eq_of a b h = elim (cases_eq a b) [ inl e ↦ e | inr ne ↦ absurd (false_true (sym (other_test a b ne) ∙ h)) ]

pub less_of : (a b : ℕ) → nat_lt a b ≡ true → a < b
less_of a b h = grind (arith, nat_tests)

pub less_test : (a b : ℕ) → a < b → nat_lt a b ≡ true
less_test a b h = grind (arith, nat_tests)

pub both_of : (a b : Bool) → (a && b) ≡ true → (a ≡ true) × (b ≡ true)
both_of true b h = (refl, h)
both_of false b h = absurd (false_true h)

pub both : (a b : Bool) → a ≡ true → b ≡ true → (a && b) ≡ true
both true b p q = q
both false b p q = absurd (false_true p)

not_of : (a : Bool) → not a ≡ true → a ≡ false
not_of true h = absurd (false_true h)
not_of false h = refl

not_test : (a : Bool) → a ≡ false → not a ≡ true
not_test true h = absurd (false_true (sym h))
not_test false h = refl

-- the power
on_of : (p : Power) → is_on_in p ≡ true → p ≡ power.On
on_of power.Off h = absurd (false_true h)
on_of power.Recovering h = absurd (false_true h)
on_of power.On h = refl

on_test : (p : Power) → p ≡ power.On → is_on_in p ≡ true
on_test p e = rw e refl

recovering_of : (p : Power) → is_recovering_in p ≡ true → p ≡ power.Recovering
recovering_of power.Off h = absurd (false_true h)
recovering_of power.Recovering h = refl
recovering_of power.On h = absurd (false_true h)

recovering_test : (p : Power) → p ≡ power.Recovering → is_recovering_in p ≡ true
recovering_test p e = rw e refl

off_of : (p : Power) → is_off_in p ≡ true → p ≡ power.Off
off_of power.Off h = refl
off_of power.Recovering h = absurd (false_true h)
off_of power.On h = absurd (false_true h)

off_test : (p : Power) → p ≡ power.Off → is_off_in p ≡ true
off_test p e = rw e refl

not_off_of : (p : Power) → not (is_off_in p) ≡ true → p ≢ power.Off
not_off_of p h e = false_true (sym (not_of (is_off_in p) h) ∙ off_test p e)

not_off_test : (p : Power) → p ≢ power.Off → not (is_off_in p) ≡ true
not_off_test power.Off ne = absurd (ne refl)
not_off_test power.Recovering ne = refl
not_off_test power.On ne = refl

-- the newest mark
fence_of : (past : List Mark) → after_fence_in (newest_of past) ≡ true → IsAfterFence past
fence_of [] h = absurd (false_true h)
fence_of (Fence w ∷ past) h = tt
fence_of (Evict a ∷ past) h = tt
fence_of (mark ∷ past) h = absurd (false_true h)

fence_test : (past : List Mark) → IsAfterFence past → after_fence_in (newest_of past) ≡ true
fence_test [] h = absurd h
fence_test (Fence w ∷ past) h = refl
fence_test (Evict a ∷ past) h = refl
fence_test (mark ∷ past) h = absurd h

recover_of : (past : List Mark) → after_recovering_in (newest_of past) ≡ true → IsAfterRecovering past
recover_of [] h = absurd (false_true h)
recover_of (Load w a v ∷ past) h = eq_of w 0 h
recover_of (Store w a v ∷ past) h = eq_of w 0 h
recover_of (Cas w a old new found ∷ past) h = eq_of w 0 h
recover_of (Ask w line ∷ past) h = eq_of w 0 h
recover_of (Fence w ∷ past) h = eq_of w 0 h
recover_of (mark ∷ past) h = absurd (false_true h)

recover_test : (past : List Mark) → IsAfterRecovering past → after_recovering_in (newest_of past) ≡ true
recover_test [] h = absurd h
recover_test (Load w a v ∷ past) h = same_test w 0 h
recover_test (Store w a v ∷ past) h = same_test w 0 h
recover_test (Cas w a old new found ∷ past) h = same_test w 0 h
recover_test (Ask w line ∷ past) h = same_test w 0 h
recover_test (Fence w ∷ past) h = same_test w 0 h
recover_test (mark ∷ past) h = absurd h

-- an open call
open_of_test : (o : Option OpenCall) (past : List Mark) (w : ℕ) → option_map open_of o ≡ open_call w past → is_some o ≡ true → HasOpenCall past w
open_of_test None past w is h = absurd (false_true h)
open_of_test (Some call) past w is h = record { opened = open_of call; is_open = sym is }

open_test : (o : Option OpenCall) (past : List Mark) (w : ℕ) → option_map open_of o ≡ open_call w past → HasOpenCall past w → is_some o ≡ true
open_test None past w is h = absurd (none_some h.opened (is ∙ h.is_open))
open_test (Some call) past w is h = refl

closed_of : (o : Option OpenCall) (past : List Mark) (w : ℕ) → option_map open_of o ≡ open_call w past → is_some o ≡ false → open_call w past ≡ None
closed_of None past w is h = sym is
closed_of (Some call) past w is h = absurd (false_true (sym h))

closed_test : (o : Option OpenCall) (past : List Mark) (w : ℕ) → option_map open_of o ≡ open_call w past → open_call w past ≡ None → is_some o ≡ false
closed_test None past w is h = refl
closed_test (Some call) past w is h = absurd (none_some (open_of call) (sym (is ∙ h)))

end_of : (o : Option OpenCall) (past : List Mark) (w n : ℕ) → option_map open_of o ≡ open_call w past → has_number_in o n ≡ true → MayEnd past w n
end_of None past w n is h = absurd (false_true h)
end_of (Some call) past w n is h = record { opened = open_of call; is_open = sym is; number = eq_of call.number n h }

end_test : (o : Option OpenCall) (past : List Mark) (w n : ℕ) → option_map open_of o ≡ open_call w past → MayEnd past w n → has_number_in o n ≡ true
end_test None past w n is h = absurd (none_some h.opened (is ∙ h.is_open))
end_test (Some call) past w n is h =
    let e : open_of call ≡ h.opened = some_same (open_of call) h.opened (is ∙ h.is_open) in
    same_test call.number n (ap (λ (o : Open). o.number) e ∙ h.number)

no_effect_of : (o : Option ℕ) → is_none o ≡ true → o ≡ None
no_effect_of None h = refl
no_effect_of (Some n) h = absurd (false_true h)

no_effect_test : (o : Option ℕ) → o ≡ None → is_none o ≡ true
no_effect_test o e = rw e refl

-- whether the open call of a worker changes the map
abbrev pub Changes : Bool → Map → Option OpenCall → Type 0
Changes changes at None = Unit {0}
Changes changes at (Some call) = changes ≡ true ↔ IsChange (apply at call.call).reply

effect_of : (o : Option OpenCall) (at : Map) (past : List Mark) (w n : ℕ) (changes : Bool) → option_map open_of o ≡ open_call w past → Changes changes (map_after at past) o → may_effect_in o n ≡ true → changes ≡ true → MayEffect at past w n
effect_of None at past w n changes is tells h c = absurd (false_true h)
effect_of (Some call) at past w n changes is tells h c =
    let two = both_of (call.number == n) (is_none call.effect) h in
    record { opened = open_of call; is_open = sym is; number = eq_of call.number n two.0; once = no_effect_of call.effect two.1; changes = tells.0 c }

effect_test : (o : Option OpenCall) (at : Map) (past : List Mark) (w n : ℕ) (changes : Bool) → option_map open_of o ≡ open_call w past → Changes changes (map_after at past) o → MayEffect at past w n → (may_effect_in o n && changes) ≡ true
effect_test None at past w n changes is tells h = absurd (none_some h.opened (is ∙ h.is_open))
effect_test (Some call) at past w n changes is tells h =
    let e : open_of call ≡ h.opened = some_same (open_of call) h.opened (is ∙ h.is_open) in
    both (call.number == n && is_none call.effect) changes
    (both (call.number == n) (is_none call.effect) (same_test call.number n (ap (λ (o : Open). o.number) e ∙ h.number)) (no_effect_test call.effect (ap (λ (o : Open). o.effect) e ∙ h.once)))
    (tells.1 (subst (λ (o : Open). IsChange (apply (map_after at past) o.call).reply) (sym e) h.changes))

-- an act
other_act : (t : Known) (w : ℕ) → may_act_in t (suc w) ≡ is_some (open_in t (suc w))
other_act t w = let ne : suc w ≢ 0 = λ e. omega arith in rw (other_test (suc w) 0 ne) refl

act_of : (at_start : Power) (past : List Mark) (t : Known) (w : ℕ) → Knows at_start past t → w < 256 → may_act_in t w ≡ true → MayAct at_start past w
act_of at_start past t zero k lt h = sym k.power ∙ recovering_of t.power h
act_of at_start past t (suc w) k lt h = open_of_test (open_in t (suc w)) past (suc w) (k.is_open (suc w) lt) (sym (other_act t w) ∙ h)

act_test : (at_start : Power) (past : List Mark) (t : Known) (w : ℕ) → Knows at_start past t → w < 256 → MayAct at_start past w → may_act_in t w ≡ true
act_test at_start past t zero k lt h = recovering_test t.power (k.power ∙ h)
act_test at_start past t (suc w) k lt h = other_act t w ∙ open_test (open_in t (suc w)) past (suc w) (k.is_open (suc w) lt) h

-- a Begin
begin_of : (at_start : Power) (past : List Mark) (t : Known) (w n : ℕ) → Knows at_start past t → w < 256 → may_begin_in t w n ≡ true → BeginsPowered at_start past w n
begin_of at_start past t w n k lt h =
    let one = both_of (not (w == 0)) _ h in
    let two = both_of (is_on_in t.power) _ one.1 in
    let three = both_of (not (is_some (open_in t w))) _ two.1 in
    let four = both_of (nat_lt 0 n) _ three.1 in
    let ne : w ≡ 0 → ⊥ = λ e. false_true (sym (not_of (w == 0) one.0) ∙ same_test w 0 e) in
    record {
      worker = omega arith;
      powered = sym k.power ∙ on_of t.power two.0;
      begins = record {
        numbered = omega (arith, less_of 0 n four.0, eq_of (n - 1) (caller_at t w).begun four.1, k.begun w lt);
        none_open = closed_of (open_in t w) past w (k.is_open w lt) (not_of (is_some (open_in t w)) three.0);
      };
    }

begin_test : (at_start : Power) (past : List Mark) (t : Known) (w n : ℕ) → Knows at_start past t → w < 256 → BeginsPowered at_start past w n → may_begin_in t w n ≡ true
begin_test at_start past t w n k lt h =
    both (not (w == 0)) _ (not_test (w == 0) (other_test w 0 (λ e. omega (arith, h.worker))))
    (both (is_on_in t.power) _ (on_test t.power (k.power ∙ h.powered))
    (both (not (is_some (open_in t w))) _ (not_test (is_some (open_in t w)) (closed_test (open_in t w) past w (k.is_open w lt) h.begins.none_open))
    (both (nat_lt 0 n) _ (less_test 0 n (omega (arith, h.begins.numbered))) (same_test (n - 1) (caller_at t w).begun (omega (arith, h.begins.numbered, k.begun w lt))))))

-- an Effect's test of the map is right
abbrev pub TellsChange : Known → Bool → Map → Mark → Type 0
TellsChange t changes at (Effect w n) = Changes changes at (open_in t w)
TellsChange t changes at mark = Unit {0}

pub follows_of : (at_start : Power) (at : Map) (past : List Mark) (t : Known) (changes : Bool) (mark : Mark) → Knows at_start past t → HasWorker mark → TellsChange t changes (map_after at past) mark → may_follow_in t changes mark ≡ true → MayFollow at_start at past mark
follows_of at_start at past t changes (Begin w n call) k has tells h = begin_of at_start past t w n k has h
follows_of at_start at past t changes (End w n reply moment) k has tells h = end_of (open_in t w) past w n (k.is_open w has) h
follows_of at_start at past t changes (Load w a v) k has tells h = act_of at_start past t w k has h
follows_of at_start at past t changes (Store w a v) k has tells h = act_of at_start past t w k has h
follows_of at_start at past t changes (Cas w a old new found) k has tells h = act_of at_start past t w k has h
follows_of at_start at past t changes (Ask w line) k has tells h = act_of at_start past t w k has h
follows_of at_start at past t changes (Fence w) k has tells h = act_of at_start past t w k has h
follows_of at_start at past t changes (Evict a) k has tells h = λ e. not_off_of t.power h (k.power ∙ e)
follows_of at_start at past t changes Cut k has tells h = λ e. not_off_of t.power h (k.power ∙ e)
follows_of at_start at past t changes On k has tells h = sym k.power ∙ off_of t.power h
follows_of at_start at past t changes Ready k has tells h = recover_of past (sym (ap after_recovering_in k.newest) ∙ h)
follows_of at_start at past t changes (Effect w n) k has tells h =
    let one = both_of (after_fence_in t.newest) _ h in
    let two = both_of (may_effect_in (open_in t w) n) changes one.1 in
    (fence_of past (sym (ap after_fence_in k.newest) ∙ one.0), effect_of (open_in t w) at past w n changes (k.is_open w has) tells two.0 two.1)

pub follows_test : (at_start : Power) (at : Map) (past : List Mark) (t : Known) (changes : Bool) (mark : Mark) → Knows at_start past t → HasWorker mark → TellsChange t changes (map_after at past) mark → MayFollow at_start at past mark → may_follow_in t changes mark ≡ true
follows_test at_start at past t changes (Begin w n call) k has tells h = begin_test at_start past t w n k has h
follows_test at_start at past t changes (End w n reply moment) k has tells h = end_test (open_in t w) past w n (k.is_open w has) h
follows_test at_start at past t changes (Load w a v) k has tells h = act_test at_start past t w k has h
follows_test at_start at past t changes (Store w a v) k has tells h = act_test at_start past t w k has h
follows_test at_start at past t changes (Cas w a old new found) k has tells h = act_test at_start past t w k has h
follows_test at_start at past t changes (Ask w line) k has tells h = act_test at_start past t w k has h
follows_test at_start at past t changes (Fence w) k has tells h = act_test at_start past t w k has h
follows_test at_start at past t changes (Evict a) k has tells h = not_off_test t.power (λ e. h (sym k.power ∙ e))
follows_test at_start at past t changes Cut k has tells h = not_off_test t.power (λ e. h (sym k.power ∙ e))
follows_test at_start at past t changes On k has tells h = off_test t.power (k.power ∙ h)
follows_test at_start at past t changes Ready k has tells h = ap after_recovering_in k.newest ∙ recover_test past h
follows_test at_start at past t changes (Effect w n) k has tells h =
    both (after_fence_in t.newest) _ (ap after_fence_in k.newest ∙ fence_test past h.0) (effect_test (open_in t w) at past w n changes (k.is_open w has) tells h.1)
