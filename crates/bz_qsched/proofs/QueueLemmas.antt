-- What a queue keeps true of its parts, at each of its changes.
use Rattle.std.proofs.Common.{◌≡◌, ◌≢◌, ◌≤◌, ◌<◌, ℕ, zero, suc, ◌+◌, ◌-◌, Bool, true, false, List, [], ◌∷◌, ◌++◌, length, set, drop, get_or, replicate, refl, sym, ap, ◌∙◌, arith, Some, nat_le, ◌==◌}
use Rattle.std.specs.Prelude.{if◌then◌else◌, slice_get}
use Rattle.std.proofs.lemmas.Bool.Decides.{nat_tests}
use Rattle.std.proofs.lemmas.List.{length-append}
use Rattle.std.proofs.lemmas.Option.{slice_get-get_or}
use Rattle.bz_ring.specs.declared.calls.QCall.{QCall}
use Rattle.bz_qsched.specs.Queued.{calls_of, without_first}
use Rattle.bz_qsched.specs.QueueKept.{waiting_from, IsKept, IsFound, AreCalls}
use Rattle.bz_queue.specs.QueueView.{IsCall}
use Rattle.bz_qsched.proofs.QueueLaws.{same_owner, calls_of-append, calls_of-without, calls_of-taken}
use Rattle.bz_qsched.proofs.LookLemmas.{stands_first, beyond}
use Rattle.bz_qsched.proofs.FirstLemmas.{set_other, set_same, kept_in, first_is, found_taken}

-- a call more
pub queued_behind : (calls : List (ℕ × QCall)) (at : ℕ) (next : List ℕ) (w : ℕ) (call : QCall) → get_or next w 0 ≤ at + length calls → waiting_from at next (calls ++ (w, call) ∷ []) ≡ waiting_from at next calls ++ (w, call) ∷ []
queued_behind [] at next w call low = let test : nat_le (get_or next w 0) at ≡ true = grind (arith, nat_tests) in kept_in _ (w, call) [] test
queued_behind (x ∷ calls) at next w call low = by_test (nat_le (get_or next x.0 0) at) (queued_behind calls (at + 1) next w call (omega arith))
  where
    by_test : (b : Bool) → waiting_from (at + 1) next (calls ++ (w, call) ∷ []) ≡ waiting_from (at + 1) next calls ++ (w, call) ∷ []
        → (if b then x ∷ waiting_from (at + 1) next (calls ++ (w, call) ∷ []) else waiting_from (at + 1) next (calls ++ (w, call) ∷ [])) ≡ (if b then x ∷ waiting_from (at + 1) next calls else waiting_from (at + 1) next calls) ++ (w, call) ∷ []
    by_test true e = ap (λ (rest : List (ℕ × QCall)). x ∷ rest) e
    by_test false e = e

-- no more calls wait than came
few_of : (w : ℕ) (calls : List (ℕ × QCall)) → length (calls_of w calls) ≤ length calls
few_of w [] = omega arith
few_of w (x ∷ calls) = by_test (x.0 == w) (few_of w calls)
  where
    by_test : (b : Bool) → length (calls_of w calls) ≤ length calls → length (if b then x ∷ calls_of w calls else calls_of w calls) ≤ length (x ∷ calls)
    by_test true e = omega arith
    by_test false e = omega arith

few_wait : (calls : List (ℕ × QCall)) (at : ℕ) (next : List ℕ) → length (waiting_from at next calls) ≤ length calls
few_wait [] at next = omega arith
few_wait (x ∷ calls) at next = by_test (nat_le (get_or next x.0 0) at) (few_wait calls (at + 1) next)
  where
    by_test : (b : Bool) → length (waiting_from (at + 1) next calls) ≤ length calls → length (if b then x ∷ waiting_from (at + 1) next calls else waiting_from (at + 1) next calls) ≤ length (x ∷ calls)
    by_test true e = omega arith
    by_test false e = omega arith

pub few_waiting : (calls : List (ℕ × QCall)) (next waiting : List ℕ) (most capacity w : ℕ) → IsKept calls next waiting most capacity → get_or waiting w 0 ≤ length calls
few_waiting calls next waiting most capacity w k = omega (arith, k.counted w, few_of w (waiting_from 0 next calls), few_wait calls 0 next)

zeros_are : (n w : ℕ) → ◌≡◌ {A = ℕ} (get_or (replicate n 0) w 0) 0
zeros_are zero w = refl
zeros_are (suc n) zero = refl
zeros_are (suc n) (suc w) = zeros_are n w

-- an empty queue
pub kept_empty : (calls : List (ℕ × QCall)) (next waiting : List ℕ) (most capacity : ℕ) → calls ≡ [] → next ≡ replicate 256 0 → waiting ≡ replicate 256 0 → most ≤ capacity → IsKept calls next waiting most capacity
kept_empty calls next waiting most capacity none zeros no_counts room = rw (none, zeros, no_counts) (record {
  fits = omega arith;
  taken = room;
  within = λ w. omega (arith, zeros_are 256 w);
  counted = λ w. zeros_are 256 w;
})

last_of : (v w : ℕ) (calls : List (ℕ × QCall)) (call : QCall) → length (calls_of v (calls ++ (w, call) ∷ [])) ≡ length (calls_of v calls) + length (calls_of v ((w, call) ∷ []))
last_of v w calls call = ap length (calls_of-append v calls ((w, call) ∷ [])) ∙ length-append (calls_of v calls) (calls_of v ((w, call) ∷ []))

-- a call was put at the end
pub kept_pushed : (calls more : List (ℕ × QCall)) (next waiting : List ℕ) (most capacity after w : ℕ) (call : QCall) → IsKept calls next waiting most capacity → w < length waiting → length calls < most → capacity ≤ after
    → more ≡ calls ++ (w, call) ∷ [] → IsKept more next (set waiting w (get_or waiting w 0 + 1)) most after
kept_pushed calls more next waiting most capacity after w call k small room grown is = rw is (record {
  fits = omega (arith, length-append calls ((w, call) ∷ []));
  taken = omega (arith, k.taken);
  within = λ v. omega (arith, length-append calls ((w, call) ∷ []), k.within v);
  counted = λ v. by_owner v (w == v) refl;
})
  where
    whole : (v : ℕ) → length (calls_of v (waiting_from 0 next (calls ++ (w, call) ∷ []))) ≡ length (calls_of v (waiting_from 0 next calls)) + length (calls_of v ((w, call) ∷ []))
    whole v = ap (λ (all : List (ℕ × QCall)). length (calls_of v all)) (queued_behind calls 0 next w call (omega (arith, k.within w))) ∙ last_of v w (waiting_from 0 next calls) call

    by_owner : (v : ℕ) (b : Bool) → (w == v) ≡ b → get_or (set waiting w (get_or waiting w 0 + 1)) v 0 ≡ length (calls_of v (waiting_from 0 next (calls ++ (w, call) ∷ [])))
    by_owner v true is =
        let same : w ≡ v = same_owner w v is in
        let one : length (calls_of v ((w, call) ∷ [])) ≡ 1 = rw is refl in
        let set_here : get_or (set waiting w (get_or waiting w 0 + 1)) v 0 ≡ get_or waiting v 0 + 1 = rw (← same) (set_same waiting w (get_or waiting w 0 + 1) small) in
        omega (arith, set_here, whole v, one, k.counted v)
    by_owner v false is =
        let none : length (calls_of v ((w, call) ∷ [])) ≡ 0 = rw is refl in
        let other : v ≢ w = λ same. grind (arith, nat_tests) in
        omega (arith, set_other waiting v w (get_or waiting w 0 + 1) other, whole v, none, k.counted v)

one_fewer : (calls rest : List (ℕ × QCall)) (call : ℕ × QCall) → calls ≡ call ∷ rest → length (drop 1 calls) ≡ length calls - 1
one_fewer calls rest call is = rw is (omega arith)

-- the first call of a worker is left out
pub kept_left : (calls : List (ℕ × QCall)) (next waiting : List ℕ) (most capacity w at : ℕ) → IsKept calls next waiting most capacity → w < length next → w < length waiting → IsFound calls (get_or next w 0) w (Some at)
    → IsKept calls (set next w (at + 1)) (set waiting w (get_or waiting w 0 - 1)) most capacity
kept_left calls next waiting most capacity w at k small few found = record {
  fits = k.fits;
  taken = k.taken;
  within = λ v. within_then v (v == w) refl;
  counted = λ v. counted_then v (v == w) refl;
}
  where
    within_then : (v : ℕ) (b : Bool) → (v == w) ≡ b → get_or (set next w (at + 1)) v 0 ≤ length calls
    within_then v true is = let same : v ≡ w = same_owner v w is in rw same (omega (arith, set_same next w (at + 1) small, beyond calls at (w, found.0) found.1))
    within_then v false is = let other : v ≢ w = λ same. grind (arith, nat_tests) in omega (arith, set_other next v w (at + 1) other, k.within v)

    counted_then : (v : ℕ) (b : Bool) → (v == w) ≡ b → get_or (set waiting w (get_or waiting w 0 - 1)) v 0 ≡ length (calls_of v (waiting_from 0 (set next w (at + 1)) calls))
    counted_then v true is =
        let same : v ≡ w = same_owner v w is in
        let first = first_is calls 0 at w found.0 next (stands_first calls (get_or next w 0) at w found.0 found.1 found.2 found.3) in
        let fewer : length (calls_of w (without_first w (waiting_from 0 next calls))) ≡ length (calls_of w (waiting_from 0 next calls)) - 1 =
        ap length (calls_of-taken w (waiting_from 0 next calls)) ∙ one_fewer (calls_of w (waiting_from 0 next calls)) first.0 (w, found.0) first.1 in
        rw (same, found_taken calls next w at small found) (omega (arith, set_same waiting w (get_or waiting w 0 - 1) few, fewer, k.counted w))
    counted_then v false is =
        let other : v ≢ w = λ same. grind (arith, nat_tests) in
        rw (found_taken calls next w at small found, calls_of-without v w (waiting_from 0 next calls) other) (set_other waiting v w (get_or waiting w 0 - 1) other ∙ k.counted v)

-- each of the calls may begin, and one more
pub calls_more : (calls : List (ℕ × QCall)) (w : ℕ) (call : QCall) → IsCall call → AreCalls calls → AreCalls (calls ++ (w, call) ∷ [])
calls_more [] w call is are = (is, tt)
calls_more (x ∷ calls) w call is are = (are.0, calls_more calls w call is are.1)

-- so may the one at a place
call_at : (calls : List (ℕ × QCall)) (at : ℕ) (call : ℕ × QCall) → AreCalls calls → slice_get calls at ≡ Some call → IsCall call.1
call_at [] at call are is = absurd (cc is)
call_at (x ∷ calls) zero call are is = let same : x ≡ call = cc in rw (← same) are.0
call_at (x ∷ calls) (suc at) call are is = call_at calls at call are.1 is

-- and the one that is found
pub found_may : (calls : List (ℕ × QCall)) (from w at : ℕ) (read : ℕ × QCall) → AreCalls calls → IsFound calls from w (Some at) → read ≡ get_or calls at read → IsCall read.1
found_may calls from w at read are found is =
    let lt = beyond calls at (w, found.0) found.1 in
    call_at calls at read are (slice_get-get_or calls at read lt ∙ ap Some (sym is))

-- where none of a worker's calls waits none is taken out
pub without_none : (w : ℕ) (calls : List (ℕ × QCall)) → calls_of w calls ≡ [] → calls ≡ without_first w calls
without_none w [] none = refl
without_none w (call ∷ calls) none = by_test (call.0 == w) none (without_none w calls)
  where
    by_test : (mine : Bool) → (if mine then call ∷ calls_of w calls else calls_of w calls) ≡ [] → (calls_of w calls ≡ [] → calls ≡ without_first w calls) → call ∷ calls ≡ (if mine then calls else call ∷ without_first w calls)
    by_test true none rest = absurd (cc none)
    by_test false none rest = ap (λ (xs : List (ℕ × QCall)). call ∷ xs) (rest none)
