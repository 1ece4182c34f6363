-- The first of a worker's calls that wait: it is the one that is found, and it is taken out.
use Rattle.std.proofs.Common.{◌≡◌, ◌≢◌, ◌≤◌, ◌<◌, ℕ, suc, ◌+◌, Bool, true, false, List, [], ◌∷◌, length, set, get_or, refl, sym, ap, ◌∙◌, arith, Some, None, slice_get, nat_le, ◌==◌}
use Rattle.std.specs.Prelude.{if◌then◌else◌}
use Rattle.std.proofs.lemmas.Bool.Decides.{nat_tests}
use Rattle.std.proofs.lemmas.Grind.{common_steps}
use Rattle.std.proofs.lemmas.Option.{slice_get-get_or}
use Rattle.bz_ring.specs.declared.calls.QCall.{QCall}
use Rattle.bz_qsched.specs.Queued.{calls_of, without_first, IsFirst}
use Rattle.bz_qsched.specs.QueueKept.{waiting_from, IsFound}
use Rattle.bz_qsched.proofs.QueueLaws.{same_owner}
use Rattle.bz_qsched.proofs.LookLemmas.{Stands, stands_first, stands_later, standing, beyond}

-- where the next calls are looked for once one was taken
pub record Moves (next after : List ℕ) (w place : ℕ) : Type 0 where
  pub own : get_or after w 0 ≡ place + 1
  pub others : (v : ℕ) → v ≢ w → get_or after v 0 ≡ get_or next v 0

pub set_other : (xs : List ℕ) (v w x : ℕ) → v ≢ w → get_or (set xs w x) v 0 ≡ get_or xs v 0
set_other xs v w x h = grind (arith, common_steps)

pub set_same : (xs : List ℕ) (w x : ℕ) → w < length xs → get_or (set xs w x) w 0 ≡ x
set_same xs w x h = grind (arith, common_steps)

moves_set : (next : List ℕ) (w place : ℕ) → w < length next → Moves next (set next w (place + 1)) w place
moves_set next w place h = record { own = set_same next w (place + 1) h; others = λ v other. set_other next v w (place + 1) other }

passed : (b : Bool) (x : ℕ × QCall) (calls : List (ℕ × QCall)) → b ≡ false → (if b then x ∷ calls else calls) ≡ calls
passed true x calls is = absurd cc
passed false x calls is = refl

pub kept_in : (b : Bool) (x : ℕ × QCall) (calls : List (ℕ × QCall)) → b ≡ true → (if b then x ∷ calls else calls) ≡ x ∷ calls
kept_in true x calls is = refl
kept_in false x calls is = absurd cc

-- behind the taken call nothing changes
same_behind : (calls : List (ℕ × QCall)) (at place w : ℕ) (next after : List ℕ) → Moves next after w place → place < at → get_or next w 0 ≤ at → waiting_from at after calls ≡ waiting_from at next calls
same_behind [] at place w next after m behind low = refl
same_behind (x ∷ calls) at place w next after m behind low = by_owner (x.0 == w) refl (same_behind calls (at + 1) place w next after m (omega arith) (omega arith))
  where
    by_owner : (b : Bool) → (x.0 == w) ≡ b → waiting_from (at + 1) after calls ≡ waiting_from (at + 1) next calls → waiting_from at after (x ∷ calls) ≡ waiting_from at next (x ∷ calls)
    by_owner true is e =
        let same : x.0 ≡ w = same_owner x.0 w is in
        let own = m.own in
        let before : nat_le (get_or next x.0 0) at ≡ true = rw same (grind (arith, nat_tests)) in
        let now : nat_le (get_or after x.0 0) at ≡ true = rw same (grind (arith, nat_tests)) in
        kept_in _ x _ now ∙ ap (λ (rest : List (ℕ × QCall)). x ∷ rest) e ∙ sym (kept_in _ x _ before)
    by_owner false is e =
        let other : x.0 ≢ w = λ same. grind (arith, nat_tests) in
        rw (m.others x.0 other, e) refl

skipped : (b : Bool) (x : ℕ × QCall) (w : ℕ) (calls : List (ℕ × QCall)) → (x.0 == w) ≡ false → (if b then x ∷ without_first w calls else without_first w calls) ≡ without_first w (if b then x ∷ calls else calls)
skipped true x w calls other = rw other refl
skipped false x w calls other = refl

-- the call that is taken out is the first one of its worker
pub taken_out : (calls : List (ℕ × QCall)) (at place w : ℕ) (call : QCall) (next after : List ℕ) → Moves next after w place → Stands calls at place w call (get_or next w 0)
    → waiting_from at after calls ≡ without_first w (waiting_from at next calls)
taken_out [] at place w call next after m s = absurd (let wrong = s.is in cc)
taken_out (x ∷ calls) at place w call next after m s =
    let own = m.own in
    let start = s.start in
    standing (waiting_from at after (x ∷ calls) ≡ without_first w (waiting_from at next (x ∷ calls))) x calls at place w call (get_or next w 0) s
    (λ here is.
    let same : x.0 ≡ w = ap (λ (c : ℕ × QCall). c.0) is in
    let before : nat_le (get_or next x.0 0) at ≡ true = rw same (grind (arith, nat_tests)) in
    let now : nat_le (get_or after x.0 0) at ≡ false = rw same (grind (arith, nat_tests)) in
    let test : (x.0 == w) ≡ true = grind (arith, nat_tests) in
    passed _ x _ now ∙ same_behind calls (at + 1) place w next after m (omega arith) (omega arith)
    ∙ sym (ap (λ (rest : List (ℕ × QCall)). without_first w rest) (kept_in _ x _ before) ∙ rw test refl))
    (λ later same high.
    let before : nat_le (get_or next x.0 0) at ≡ false = rw same (grind (arith, nat_tests)) in
    let now : nat_le (get_or after x.0 0) at ≡ false = rw same (grind (arith, nat_tests)) in
    passed _ x _ now ∙ taken_out calls (at + 1) place w call next after m (stands_later x calls at place w call (get_or next w 0) s later)
    ∙ sym (ap (λ (rest : List (ℕ × QCall)). without_first w rest) (passed _ x _ before)))
    (λ later is.
    let other : x.0 ≢ w = λ same. grind (arith, nat_tests) in
    let e = taken_out calls (at + 1) place w call next after m (stands_later x calls at place w call (get_or next w 0) s later) in
    rw (m.others x.0 other, e) (skipped (nat_le (get_or next x.0 0) at) x w (waiting_from (at + 1) next calls) is))

of_other : (b : Bool) (x : ℕ × QCall) (w : ℕ) (calls : List (ℕ × QCall)) → (x.0 == w) ≡ false → calls_of w (if b then x ∷ calls else calls) ≡ calls_of w calls
of_other true x w calls other = rw other refl
of_other false x w calls other = refl

-- the worker's calls that wait begin with it
pub first_is : (calls : List (ℕ × QCall)) (at place w : ℕ) (call : QCall) (next : List ℕ) → Stands calls at place w call (get_or next w 0)
    → (rest : List (ℕ × QCall)) × (calls_of w (waiting_from at next calls) ≡ (w, call) ∷ rest)
first_is [] at place w call next s = absurd (let wrong = s.is in cc)
first_is (x ∷ calls) at place w call next s =
    let start = s.start in
    standing ((rest : List (ℕ × QCall)) × (calls_of w (waiting_from at next (x ∷ calls)) ≡ (w, call) ∷ rest)) x calls at place w call (get_or next w 0) s
    (λ here is.
    let same : x.0 ≡ w = ap (λ (c : ℕ × QCall). c.0) is in
    let before : nat_le (get_or next x.0 0) at ≡ true = rw same (grind (arith, nat_tests)) in
    let test : (x.0 == w) ≡ true = grind (arith, nat_tests) in
    (calls_of w (waiting_from (at + 1) next calls), ap (λ (rest : List (ℕ × QCall)). calls_of w rest) (kept_in _ x _ before) ∙ kept_in (x.0 == w) x _ test ∙ ap (λ (c : ℕ × QCall). c ∷ calls_of w (waiting_from (at + 1) next calls)) is))
    (λ later same high.
    let before : nat_le (get_or next x.0 0) at ≡ false = rw same (grind (arith, nat_tests)) in
    let more = first_is calls (at + 1) place w call next (stands_later x calls at place w call (get_or next w 0) s later) in
    (more.0, ap (λ (rest : List (ℕ × QCall)). calls_of w rest) (passed _ x _ before) ∙ more.1))
    (λ later is.
    let more = first_is calls (at + 1) place w call next (stands_later x calls at place w call (get_or next w 0) s later) in
    (more.0, of_other (nat_le (get_or next x.0 0) at) x w (waiting_from (at + 1) next calls) is ∙ more.1))

not_behind : (x : ℕ × QCall) (calls : List (ℕ × QCall)) (at w : ℕ) (next : List ℕ) → ((j : ℕ) (other : ℕ × QCall) → get_or next w 0 ≤ at + j → slice_get (x ∷ calls) j ≡ Some other → other.0 ≢ w) → x.0 ≡ w
    → (b : Bool) → nat_le (get_or next w 0) at ≡ b → nat_le (get_or next x.0 0) at ≡ false
not_behind x calls at w next none same false is = rw same is
not_behind x calls at w next none same true is = absurd (none 0 x (grind (arith, nat_tests)) refl same)

none_waits : (calls : List (ℕ × QCall)) (at w : ℕ) (next : List ℕ) → ((j : ℕ) (other : ℕ × QCall) → get_or next w 0 ≤ at + j → slice_get calls j ≡ Some other → other.0 ≢ w) → calls_of w (waiting_from at next calls) ≡ []
none_waits [] at w next none = refl
none_waits (x ∷ calls) at w next none = by_owner (x.0 == w) refl (none_waits calls (at + 1) w next (λ j other low got. none (suc j) other (omega arith) got))
  where
    by_owner : (b : Bool) → (x.0 == w) ≡ b → calls_of w (waiting_from (at + 1) next calls) ≡ [] → calls_of w (waiting_from at next (x ∷ calls)) ≡ []
    by_owner true is more =
        let same : x.0 ≡ w = same_owner x.0 w is in
        ap (λ (rest : List (ℕ × QCall)). calls_of w rest) (passed _ x _ (not_behind x calls at w next none same (nat_le (get_or next w 0) at) refl)) ∙ more
    by_owner false is more = of_other (nat_le (get_or next x.0 0) at) x w (waiting_from (at + 1) next calls) is ∙ more

-- what is found is the first call that waits
pub found_first : (calls : List (ℕ × QCall)) (next : List ℕ) (w at : ℕ) (read : ℕ × QCall) → IsFound calls (get_or next w 0) w (Some at) → read ≡ get_or calls at read → IsFirst w (calls_of w (waiting_from 0 next calls)) (Some read.1)
found_first calls next w at read found is =
    let lt = beyond calls at (w, found.0) found.1 in
    let same : Some (w, found.0) ≡ Some read = sym found.1 ∙ slice_get-get_or calls at read lt ∙ ap Some (sym is) in
    let call : found.0 ≡ read.1 = cc in
    rw (← call) (first_is calls 0 at w found.0 next (stands_first calls (get_or next w 0) at w found.0 found.1 found.2 found.3))

pub found_none : (calls : List (ℕ × QCall)) (next : List ℕ) (w : ℕ) → IsFound calls (get_or next w 0) w None → calls_of w (waiting_from 0 next calls) ≡ []
found_none calls next w none = none_waits calls 0 w next (λ j other low got. none j other (omega arith) (beyond calls j other got) got)

-- the calls that wait once the first one of a worker was taken out
pub found_taken : (calls : List (ℕ × QCall)) (next : List ℕ) (w at : ℕ) → w < length next → IsFound calls (get_or next w 0) w (Some at) → waiting_from 0 (set next w (at + 1)) calls ≡ without_first w (waiting_from 0 next calls)
found_taken calls next w at h found = taken_out calls 0 at w found.0 next (set next w (at + 1)) (moves_set next w at h) (stands_first calls (get_or next w 0) at w found.0 found.1 found.2 found.3)
