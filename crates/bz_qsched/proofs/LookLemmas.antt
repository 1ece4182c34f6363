-- Looking for a worker's first call in a list, from a place on.
use Rattle.std.proofs.Common.{◌≡◌, ◌≢◌, ◌≤◌, ◌<◌, ℕ, zero, suc, ◌+◌, ◌-◌, Bool, true, false, List, [], ◌∷◌, length, get_or, refl, sym, ap, ◌∙◌, arith, Option, Some, slice_get, nat_le, ◌==◌}
use Rattle.std.proofs.lemmas.Bool.Decides.{nat_tests}
use Rattle.std.proofs.lemmas.Option.{slice_get-get_or}
use Rattle.bz_ring.specs.declared.calls.QCall.{QCall}
use Rattle.bz_qsched.specs.QueueKept.{NoneOf, IsFound}
use Rattle.bz_qsched.proofs.QueueLaws.{same_owner}

pub none_nowhere : (w from : ℕ) (calls : List (ℕ × QCall)) → NoneOf w from from calls
none_nowhere w from calls at call low high is = absurd (omega arith)

some_same : (x y : ℕ × QCall) → ◌≡◌ {A = Option (ℕ × QCall)} (Some x) (Some y) → x.0 ≡ y.0
some_same x y is = let same : x ≡ y = cc in ap (λ (call : ℕ × QCall). call.0) same

pub none_further : (w from at : ℕ) (calls : List (ℕ × QCall)) (call : ℕ × QCall) → NoneOf w from at calls → at < length calls → call ≡ get_or calls at call → call.0 ≢ w → NoneOf w from (at + 1) calls
none_further w from at calls call none lt is other j other_call low high got = by_place (j == at) refl
  where
    by_place : (b : Bool) → (j == at) ≡ b → other_call.0 ≢ w
    by_place true here =
        let same : j ≡ at = same_owner j at here in
        let first : Some other_call ≡ Some call = sym got ∙ ap (λ (k : ℕ). slice_get calls k) same ∙ slice_get-get_or calls at call lt ∙ ap Some (sym is) in
        λ own. other (sym (some_same other_call call first) ∙ own)
    by_place false here = none j other_call low (grind (arith, nat_tests)) got

pub found_at : (calls : List (ℕ × QCall)) (from at w : ℕ) (call : ℕ × QCall) → NoneOf w from at calls → from ≤ at → at < length calls → call ≡ get_or calls at call → call.0 ≡ w → IsFound calls from w (Some at)
found_at calls from at w call none low h is owner =
    let whole : ◌≡◌ {A = ℕ × QCall} (w, call.1) call = ap (λ (v : ℕ). (v, call.1)) (sym owner) in
    (call.1, slice_get-get_or calls at call h ∙ ap Some (sym is ∙ sym whole), low, none)

-- the call that is read at a place
pub read_is : (calls : List (ℕ × QCall)) (at : ℕ) (other : ℕ × QCall) → at < length calls → get_or calls at other ≡ get_or calls at (get_or calls at other)
read_is calls at other lt =
    let same : ◌≡◌ {A = Option (ℕ × QCall)} (Some (get_or calls at other)) (Some (get_or calls at (get_or calls at other))) = sym (slice_get-get_or calls at other lt) ∙ slice_get-get_or calls at (get_or calls at other) lt in
    cc

-- where a call stands among those from a place on
pub record Stands (calls : List (ℕ × QCall)) (at place w : ℕ) (call : QCall) (from : ℕ) : Type 0 where
  pub behind : at ≤ place
  pub start : from ≤ place
  pub is : slice_get calls (place - at) ≡ Some (w, call)
  pub none : (j : ℕ) (other : ℕ × QCall) → from ≤ at + j → at + j < place → slice_get calls j ≡ Some other → other.0 ≢ w

pub stands_first : (calls : List (ℕ × QCall)) (from place w : ℕ) (call : QCall) → slice_get calls place ≡ Some (w, call) → from ≤ place → NoneOf w from place calls → Stands calls 0 place w call from
stands_first calls from place w call is start none = record {
  behind = omega arith;
  start = start;
  is = let whole : place ≡ place - 0 = omega arith in ap (λ (k : ℕ). slice_get calls k) (sym whole) ∙ is;
  none = λ j other low high got. none j other (omega arith) (omega arith) got;
}

-- it is not the call at the first place
pub stands_later : (x : ℕ × QCall) (calls : List (ℕ × QCall)) (at place w : ℕ) (call : QCall) (from : ℕ) → Stands (x ∷ calls) at place w call from → at < place → Stands calls (at + 1) place w call from
stands_later x calls at place w call from s later = record {
  behind = omega arith;
  start = s.start;
  is = let apart : place - at ≡ suc (place - (at + 1)) = omega arith in ap (λ (k : ℕ). slice_get (x ∷ calls) k) (sym apart) ∙ s.is;
  none = λ j other low high got. s.none (suc j) other (omega arith) (omega arith) got;
}

-- it is the call at the first place
stands_here : (x : ℕ × QCall) (calls : List (ℕ × QCall)) (at place w : ℕ) (call : QCall) (from : ℕ) → Stands (x ∷ calls) at place w call from → place ≡ at → x ≡ (w, call)
stands_here x calls at place w call from s here =
    let apart : place - at ≡ 0 = omega arith in
    let same : Some x ≡ Some (w, call) = ap (λ (k : ℕ). slice_get (x ∷ calls) k) (sym apart) ∙ s.is in
    cc

-- one way or the other: the call is the first one, or one before it is passed over, or one of another worker
pub standing : (P : Type 0) (x : ℕ × QCall) (calls : List (ℕ × QCall)) (at place w : ℕ) (call : QCall) (from : ℕ) → Stands (x ∷ calls) at place w call from
    → (place ≡ at → x ≡ (w, call) → P)
    → (at < place → x.0 ≡ w → at < from → P)
    → (at < place → (x.0 == w) ≡ false → P)
    → P
standing P x calls at place w call from s here passed other = by_place (place == at) refl
  where
    by_owner : at < place → (b : Bool) → (x.0 == w) ≡ b → P
    by_owner later false is = other later is
    by_owner later true is = passed later (same_owner x.0 w is) (by_start (nat_le from at) refl)
      where
        by_start : (b : Bool) → nat_le from at ≡ b → at < from
        by_start false is_not = grind (arith, nat_tests)
        by_start true starts = absurd (s.none 0 x (grind (arith, nat_tests)) (omega arith) refl (same_owner x.0 w is))

    by_place : (b : Bool) → (place == at) ≡ b → P
    by_place true is = let same : place ≡ at = same_owner place at is in here same (stands_here x calls at place w call from s same)
    by_place false is = let behind = s.behind in let later : at < place = grind (arith, nat_tests) in by_owner later (x.0 == w) refl

-- the place of a call that is there
pub beyond : (calls : List (ℕ × QCall)) (at : ℕ) (call : ℕ × QCall) → slice_get calls at ≡ Some call → at < length calls
beyond [] at call is = absurd cc
beyond (x ∷ calls) zero call is = omega arith
beyond (x ∷ calls) (suc at) call is = omega (arith, beyond calls at call is)
