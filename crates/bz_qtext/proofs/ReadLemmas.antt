-- One mark more is read.
use Rattle.std.proofs.Common.{◌≡◌, ◌≢◌, ◌≤◌, ◌<◌, ◌⊎◌, inl, inr, ℕ, ◌+◌, Bool, true, false, List, [], ◌∷◌, ◌++◌, length, set, get_or, replicate, refl, sym, ◌∙◌, arith, Option, Some, None, ◌==◌}
use Rattle.std.specs.Prelude.{option_map, if◌then◌else◌}
use Rattle.std.proofs.lemmas.Bool.Decides.{nat_tests}
use Rattle.std.proofs.lemmas.Grind.{common_steps}
use Rattle.std.proofs.lemmas.List.{length-replicate, get_or-replicate}
use Rattle.bz_ring.specs.declared.calls.QCall.{QCall}
use Rattle.bz_ring.specs.declared.calls.QReply.{QReply}
use Rattle.bz_ring.specs.Journal.{at_moment, mark_at}
use Rattle.bz_qtext.proofs.MomentLaws.{at_moment-next, mark_at-at_moment, length-at_moment}
use Rattle.bz_ring.specs.declared.marks.QMark.{QMark}
use Rattle.bz_mark.specs.declared.marks.Mark.{Mark}
use Rattle.bz_mark.specs.declared.marks.Mark.TheVariants.{Cut}
use Rattle.bz_ring.specs.declared.marks.QMark.TheVariants.{Begin, End, Effect, Memory}
use Rattle.bz_ring.specs.Calls.{Open, open_call, with_effect}
use Rattle.bz_qtext.proofs.CallLaws.{began_before, has_begin}
use Rattle.bz_qtext.specs.declared.ended.QEnded.{QEnded}
use Rattle.bz_qtext.specs.Report.{ended_by, ended_calls}
use Rattle.bz_qtext.specs.Reading.{IsReadTo, ended_since}

abbrev pub began : Option Open → Option ℕ
began opened = option_map (λ call. call.begun) opened

pub same_number : (w : ℕ) → (w == w) ≡ true
same_number w = grind (arith, nat_tests)

pub other_number : (w v : ℕ) → v ≢ w → (w == v) ≡ false
other_number w v h = grind (arith, nat_tests)

pub either : (v w : ℕ) → (v ≡ w) ⊎ (v ≢ w)
either v w = grind (arith, nat_tests)

pub set_same : {A : Type 0} (xs : List A) (w : ℕ) (x d : A) → w < length xs → get_or (set xs w x) w d ≡ x
set_same xs w x d h = grind (arith, common_steps)

pub set_other : {A : Type 0} (xs : List A) (v w : ℕ) (x d : A) → v ≢ w → get_or (set xs w x) v d ≡ get_or xs v d
set_other xs v w x d h = grind (arith, common_steps)

effect_began : (b : Bool) (now : ℕ) (rest : Option Open) → began (if b then option_map (with_effect now) rest else rest) ≡ began rest
effect_began true now None = refl
effect_began true now (Some opened) = refl
effect_began false now rest = refl

-- what the call that ends has, by the moment at which it began
pub since_is : (w at : ℕ) (reply : QReply) (past : List QMark) (moment : ℕ) (opened : Open) → moment ≤ length past → open_call w (at_moment moment past) ≡ Some opened
    → ended_since w reply at (mark_at opened.begun past) ≡ ended_by w reply at (open_call w (at_moment moment past))
since_is w at reply past moment opened le is =
    let before : opened.begun < moment = omega (arith, began_before w (at_moment moment past) opened is, length-at_moment moment past le) in
    let found : mark_at opened.begun past ≡ Some (Begin w opened.number opened.call) = sym (mark_at-at_moment opened.begun moment past before le) ∙ has_begin w (at_moment moment past) opened is in
    rw (found, is) refl

-- a Begin
pub read_begin : (past : List QMark) (moment : ℕ) (begins : List (Option ℕ)) (calls : List QEnded) (w n : ℕ) (call : QCall) → moment < length past → w < 256
    → mark_at moment past ≡ Some (Begin w n call) → IsReadTo past moment begins calls → IsReadTo past (moment + 1) (set begins w (Some moment)) calls
read_begin past moment begins calls w n call lt small is h =
    let next = at_moment-next moment (Begin w n call) past is lt in
    let size : length (at_moment moment past) ≡ moment = length-at_moment moment past (omega arith) in
    record {
      places = grind (arith, common_steps, h.places);
      begun = λ v few. elim (either v w) [
        | inl e ↦ rw (e, set_same begins w (Some moment) None (omega (arith, h.places)), next, same_number w, size) refl
        | inr ne ↦ rw (set_other begins v w (Some moment) None ne, next, other_number w v ne) (h.begun v few)
      ];
      ended = rw next h.ended;
    }

-- an End of no open call, and of one
pub read_end : (past : List QMark) (moment : ℕ) (begins : List (Option ℕ)) (calls more : List QEnded) (w n at : ℕ) (reply : QReply) → moment < length past → w < 256
    → mark_at moment past ≡ Some (End w n reply at) → IsReadTo past moment begins calls → more ≡ calls ++ ended_by w reply at (open_call w (at_moment moment past))
    → IsReadTo past (moment + 1) (set begins w None) more
read_end past moment begins calls more w n at reply lt small is h longer =
    let next = at_moment-next moment (End w n reply at) past is lt in
    record {
      places = grind (arith, common_steps, h.places);
      begun = λ v few. elim (either v w) [
        | inl e ↦ rw (e, set_same begins w None None (omega (arith, h.places)), next, same_number w) refl
        | inr ne ↦ rw (set_other begins v w None None ne, next, other_number w v ne) (h.begun v few)
      ];
      ended = rw (next, longer, h.ended) refl;
    }

-- where the table has no moment, no call is open
pub none_open : (past : List QMark) (moment : ℕ) (begins : List (Option ℕ)) (calls : List QEnded) (w : ℕ) → w < 256 → IsReadTo past moment begins calls
    → get_or begins w None ≡ None → open_call w (at_moment moment past) ≡ None
none_open past moment begins calls w small h is = none_of (open_call w (at_moment moment past)) (sym (h.begun w small) ∙ is)
  where
    none_of : (opened : Option Open) → began opened ≡ None → opened ≡ None
    none_of None e = refl
    none_of (Some opened) e = absurd cc

-- where it has one, the call that began there is
pub record Since (past : List QMark) (moment w begun : ℕ) : Type 0 where
  pub opened : Open
  pub is : open_call w (at_moment moment past) ≡ Some opened
  pub same : opened.begun ≡ begun
  pub before : begun < length past

pub some_open : (past : List QMark) (moment : ℕ) (begins : List (Option ℕ)) (calls : List QEnded) (w begun : ℕ) → w < 256 → moment ≤ length past → IsReadTo past moment begins calls
    → get_or begins w None ≡ Some begun → Since past moment w begun
some_open past moment begins calls w begun small le h is = since_of (open_call w (at_moment moment past)) refl (sym (h.begun w small) ∙ is)
  where
    since_of : (opened : Option Open) → open_call w (at_moment moment past) ≡ opened → began opened ≡ Some begun → Since past moment w begun
    since_of None here e = absurd cc
    since_of (Some opened) here e =
        let same : opened.begun ≡ begun = cc in
        record { opened = opened; is = here; same = same; before = omega (arith, began_before w (at_moment moment past) opened here, length-at_moment moment past le) }

pub read_cut : (past : List QMark) (moment : ℕ) (begins after : List (Option ℕ)) (calls more : List QEnded) → moment < length past
    → mark_at moment past ≡ Some (Memory Cut) → IsReadTo past moment begins calls → after ≡ replicate 256 None → more ≡ [] → IsReadTo past (moment + 1) after more
read_cut past moment begins after calls more lt is h none empty =
    let next = at_moment-next moment (Memory Cut) past is lt in
    rw (none, empty) (record {
      places = length-replicate {A = Option ℕ} 256 None;
      begun = λ v few. rw (next, get_or-replicate {A = Option ℕ} 256 v None None few) refl;
      ended = rw next refl;
    })

-- what is read is told by the marks
pub settled : (past : List QMark) (moment : ℕ) (begins : List (Option ℕ)) (calls : List QEnded) → IsReadTo past moment begins calls → IsReadTo past moment begins (ended_calls (at_moment moment past))
settled past moment begins calls h = record { places = h.places; begun = h.begun; ended = refl }

-- the marks that neither open nor close a call
abbrev pub IsOther : QMark → Type 0
IsOther (Begin w n call) = ⊥
IsOther (End w n reply at) = ⊥
IsOther (Memory Cut) = ⊥
IsOther mark = Unit {0}

pub other_from : (mark : QMark) → ((w n : ℕ) (call : QCall) → mark ≡ Begin w n call → ⊥) → ((w n : ℕ) (reply : QReply) (at : ℕ) → mark ≡ End w n reply at → ⊥) → (mark ≡ Memory Cut → ⊥) → IsOther mark
other_from (Begin w n call) no_begin no_end no_cut = no_begin w n call refl
other_from (End w n reply at) no_begin no_end no_cut = no_end w n reply at refl
other_from (Memory Cut) no_begin no_end no_cut = no_cut refl
other_from mark no_begin no_end no_cut = tt

-- a mark of the memory that is no cut
pub no_cut_is_other : (memory : Mark) → (memory ≡ Cut → ⊥) → IsOther (Memory memory)
no_cut_is_other Cut never = never refl
no_cut_is_other memory never = tt

other_began : (w : ℕ) (mark : QMark) (past : List QMark) → IsOther mark → began (open_call w (mark ∷ past)) ≡ began (open_call w past)
other_began w (Begin v n call) past h = absurd h
other_began w (End v n reply at) past h = absurd h
other_began w (Memory Cut) past h = absurd h
other_began w (Effect v n) past h = effect_began (v == w) (length past) (open_call w past)
other_began w mark past h = refl

other_ended : (mark : QMark) (past : List QMark) → IsOther mark → ended_calls (mark ∷ past) ≡ ended_calls past
other_ended (Begin v n call) past h = absurd h
other_ended (End v n reply at) past h = absurd h
other_ended (Memory Cut) past h = absurd h
other_ended mark past h = refl

pub read_other : (past : List QMark) (moment : ℕ) (begins : List (Option ℕ)) (calls : List QEnded) (mark : QMark) → moment < length past
    → mark_at moment past ≡ Some mark → IsOther mark → IsReadTo past moment begins calls → IsReadTo past (moment + 1) begins calls
read_other past moment begins calls mark lt is other h =
    let next = at_moment-next moment mark past is lt in
    record {
      places = h.places;
      begun = λ v few. rw next (h.begun v few ∙ sym (other_began v mark (at_moment moment past) other));
      ended = rw next (h.ended ∙ sym (other_ended mark (at_moment moment past) other));
    }

-- nothing is read yet
pub read_none : (past : List QMark) (begins : List (Option ℕ)) (calls : List QEnded) → begins ≡ replicate 256 None → calls ≡ [] → IsReadTo past 0 begins calls
read_none past begins calls none empty =
    let start : at_moment 0 past ≡ [] = grind (arith, common_steps) in
    rw (none, empty) (record {
      places = length-replicate {A = Option ℕ} 256 None;
      begun = λ v few. rw (start, get_or-replicate {A = Option ℕ} 256 v None None few) refl;
      ended = rw start refl;
    })

-- its Begin stands where it began
pub begin-found : (past : List QMark) (moment w : ℕ) (opened : Open) → moment ≤ length past → open_call w (at_moment moment past) ≡ Some opened
    → mark_at opened.begun past ≡ Some (Begin w opened.number opened.call)
begin-found past moment w opened le is =
    let before : opened.begun < moment = omega (arith, began_before w (at_moment moment past) opened is, length-at_moment moment past le) in
    sym (mark_at-at_moment opened.begun moment past before le) ∙ has_begin w (at_moment moment past) opened is
