-- The workers that pass a test, of those from 1 to 64: their list is made worker by worker.
use Rattle.std.proofs.Common.{◌≡◌, ◌≤◌, ◌<◌, ℕ, zero, suc, ◌+◌, ◌-◌, ◌/◌, ◌%◌, Bool, true, false, List, [], ◌∷◌, ◌++◌, length, slice_index, refl, sym, ap, subst, ◌∙◌, append_assoc, arith}
use Rattle.std.specs.Prelude.{if◌then◌else◌}
use Rattle.std.proofs.Math.Nat.{mod-lt}
use Rattle.std.proofs.lemmas.List.{append-nil, length-append}
use Rattle.bz_sched.specs.Turns.{passing_from}

-- those from a worker on
abbrev pub passing_on : (ℕ → Bool) → ℕ → List ℕ
passing_on test w = passing_from test w (65 - w)

one_later : (test : ℕ → Bool) (w : ℕ) → w < 65 → passing_on test w ≡ passing_from test w (suc (65 - (w + 1)))
one_later test w few = let more : 65 - w ≡ suc (65 - (w + 1)) = omega arith in ap (λ (count : ℕ). passing_from test w count) more

here_passes : (test : ℕ → Bool) (w : ℕ) → w < 65 → test w ≡ true → passing_on test w ≡ w ∷ passing_on test (w + 1)
here_passes test w few passes = one_later test w few ∙ rw passes refl

here_fails : (test : ℕ → Bool) (w : ℕ) → w < 65 → test w ≡ false → passing_on test w ≡ passing_on test (w + 1)
here_fails test w few fails = one_later test w few ∙ rw fails refl

none_on : (test : ℕ → Bool) (w : ℕ) → 65 ≤ w → passing_on test w ≡ []
none_on test w all = let none : 65 - w ≡ 0 = omega arith in ap (λ (count : ℕ). passing_from test w count) none

-- those before a worker are listed
pub record Listed (test : ℕ → Bool) (w : ℕ) (busy : List ℕ) : Type 0 where
  pub whole : busy ++ passing_on test w ≡ passing_from test 1 64
  pub few : length busy < w

pub listed_none : (test : ℕ → Bool) (busy : List ℕ) → busy ≡ [] → Listed test 1 busy
listed_none test busy none = rw none (record { whole = refl; few = omega arith })

pub listed_one : (test : ℕ → Bool) (w : ℕ) (busy more : List ℕ) → w < 65 → test w ≡ true → more ≡ busy ++ w ∷ [] → Listed test w busy → Listed test (w + 1) more
listed_one test w busy more few passes is l = rw is (record {
  whole = append_assoc busy (w ∷ []) (passing_on test (w + 1)) ∙ ap (λ (rest : List ℕ). busy ++ rest) (sym (here_passes test w few passes)) ∙ l.whole;
  few = omega (arith, length-append busy (w ∷ []), l.few);
})

pub listed_skip : (test : ℕ → Bool) (w : ℕ) (busy : List ℕ) → w < 65 → test w ≡ false → Listed test w busy → Listed test (w + 1) busy
listed_skip test w busy few fails l = record {
  whole = ap (λ (rest : List ℕ). busy ++ rest) (sym (here_fails test w few fails)) ∙ l.whole;
  few = omega (arith, l.few);
}

pub listed_all : (test : ℕ → Bool) (w : ℕ) (busy : List ℕ) → 65 ≤ w → Listed test w busy → busy ≡ passing_from test 1 64
listed_all test w busy all l = sym (append-nil busy) ∙ ap (λ (rest : List ℕ). busy ++ rest) (sym (none_on test w all)) ∙ l.whole

-- a worker that was listed passes the test, and is one of those from the first on and before the last
pub record Passes (test : ℕ → Bool) (first last w : ℕ) : Type 0 where
  pub passes : test w ≡ true
  pub from : first ≤ w
  pub below : w < last

each_passes : (test : ℕ → Bool) (first last w more at : ℕ) → first ≤ w → w + more ≤ last → at < length (passing_from test w more) → Passes test first last (slice_index (passing_from test w more) at)
each_passes test first last w zero at start end within = absurd (omega (arith, within))
each_passes test first last w (suc more) at start end within = by_test (test w) refl at within (λ later. each_passes test first last (w + 1) more later (omega arith) (omega arith))
  where
    by_test : (b : Bool) → test w ≡ b → (at : ℕ) → at < length (if b then w ∷ passing_from test (w + 1) more else passing_from test (w + 1) more)
        → ((later : ℕ) → later < length (passing_from test (w + 1) more) → Passes test first last (slice_index (passing_from test (w + 1) more) later))
        → Passes test first last (slice_index (if b then w ∷ passing_from test (w + 1) more else passing_from test (w + 1) more) at)
    by_test true is zero within rest = record { passes = is; from = start; below = omega arith }
    by_test true is (suc at) within rest = rest at (omega (arith, within))
    by_test false is at within rest = rest at within

drawn_of_all : (test : ℕ → Bool) (draw : ℕ) → 0 < length (passing_from test 1 64) → Passes test 1 65 (slice_index (passing_from test 1 64) ((draw / 8) % length (passing_from test 1 64)))
drawn_of_all test draw some = each_passes test 1 65 1 64 ((draw / 8) % length (passing_from test 1 64)) (omega arith) (omega arith) (mod-lt (draw / 8) some)

-- so does the one that a draw names in the list
pub drawn_passes : (test : ℕ → Bool) (busy shown : List ℕ) (draw count : ℕ) → busy ≡ passing_from test 1 64 → 0 < length busy → shown ≡ busy → count ≡ length busy → Passes test 1 65 (slice_index shown ((draw / 8) % count))
drawn_passes test busy shown draw count listed some same is =
    rw (same, is) (subst (λ (list : List ℕ). 0 < length list → Passes test 1 65 (slice_index list ((draw / 8) % length list))) (sym listed) (drawn_of_all test draw) some)

-- tests that agree list the same workers
pub same_list : (test other : ℕ → Bool) (w more : ℕ) → ((v : ℕ) → test v ≡ other v) → passing_from test w more ≡ passing_from other w more
same_list test other w zero same = refl
same_list test other w (suc more) same = rw (same w, same_list test other (w + 1) more same) refl
