-- Laws of a worker's calls among others.
use Rattle.std.proofs.Common.{◌≡◌, ◌≢◌, ℕ, Bool, true, false, List, [], ◌∷◌, ◌++◌, drop, refl, sym, ap, ◌∙◌, arith, ◌==◌}
use Rattle.std.specs.Prelude.{if◌then◌else◌}
use Rattle.std.proofs.lemmas.Bool.Decides.{nat_tests}
use Rattle.bz_ring.specs.declared.calls.QCall.{QCall}
use Rattle.bz_qsched.specs.Queued.{calls_of, without_first}

-- among two lists they are those among the first and those among the second
pub calls_of-append : (w : ℕ) (xs ys : List (ℕ × QCall)) → calls_of w (xs ++ ys) ≡ calls_of w xs ++ calls_of w ys
calls_of-append w [] ys = refl
calls_of-append w (x ∷ xs) ys = by_test (x.0 == w) (calls_of-append w xs ys)
  where
    by_test : (b : Bool) → calls_of w (xs ++ ys) ≡ calls_of w xs ++ calls_of w ys → (if b then x ∷ calls_of w (xs ++ ys) else calls_of w (xs ++ ys)) ≡ (if b then x ∷ calls_of w xs else calls_of w xs) ++ calls_of w ys
    by_test true e = ap (λ (calls : List (ℕ × QCall)). x ∷ calls) e
    by_test false e = e

pub not_same : (v w u : ℕ) → u ≡ v → w ≢ v → (u == w) ≡ false
not_same v w u is other = grind (arith, nat_tests)

skip_call : (b : Bool) (call : ℕ × QCall) (rest : List (ℕ × QCall)) → b ≡ false → rest ≡ (if b then call ∷ rest else rest)
skip_call true call rest is = absurd cc
skip_call false call rest is = refl

both_calls : (b : Bool) (call : ℕ × QCall) (xs ys : List (ℕ × QCall)) → xs ≡ ys → (if b then call ∷ xs else xs) ≡ (if b then call ∷ ys else ys)
both_calls b call xs ys e = rw e refl

pub same_owner : (u v : ℕ) → (u == v) ≡ true → u ≡ v
same_owner u v is = grind (arith, nat_tests)

-- the calls of another worker stay
pub calls_of-without : (w v : ℕ) (calls : List (ℕ × QCall)) → w ≢ v → calls_of w (without_first v calls) ≡ calls_of w calls
calls_of-without w v [] other = refl
calls_of-without w v (call ∷ calls) other = by_test (call.0 == v) (λ is. not_same v w call.0 (same_owner call.0 v is) other) (calls_of-without w v calls other)
  where
    by_test : (taken : Bool) → (taken ≡ true → (call.0 == w) ≡ false) → calls_of w (without_first v calls) ≡ calls_of w calls
        → calls_of w (if taken then calls else call ∷ without_first v calls) ≡ calls_of w (call ∷ calls)
    by_test true h e = skip_call (call.0 == w) call (calls_of w calls) (h refl)
    by_test false h e = both_calls (call.0 == w) call (calls_of w (without_first v calls)) (calls_of w calls) e

-- of the worker's own calls the first one is left out
pub calls_of-taken : (w : ℕ) (calls : List (ℕ × QCall)) → calls_of w (without_first w calls) ≡ drop 1 (calls_of w calls)
calls_of-taken w [] = refl
calls_of-taken w (call ∷ calls) = by_test (call.0 == w) refl (calls_of-taken w calls)
  where
    by_test : (mine : Bool) → (call.0 == w) ≡ mine → calls_of w (without_first w calls) ≡ drop 1 (calls_of w calls)
        → calls_of w (if mine then calls else call ∷ without_first w calls) ≡ drop 1 (if mine then call ∷ calls_of w calls else calls_of w calls)
    by_test true is e = refl
    by_test false is e = sym (skip_call (call.0 == w) call (calls_of w (without_first w calls)) is) ∙ e
