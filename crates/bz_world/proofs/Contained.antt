-- The two ways to say that a slot is one of a list.
use Rattle.std.proofs.Common.{◌≡◌, ◌≢◌, ℕ, zero, suc, ◌<◌, ◌||◌, ◌==◌, Bool, true, false, List, [], ◌∷◌, Contains, length, arith, refl}
use Rattle.std.specs.Prelude.{slice_index_or}
use Rattle.std.proofs.lemmas.Bool.Decides.{nat_tests}
use Rattle.bz_tree.specs.Walk.{is_among}

pub among-contains : (xs : List ℕ) (k : ℕ) → is_among xs k ≡ true → Contains xs k
among-contains [] k h = absurd (cc)
among-contains (x ∷ xs) k h = go (x == k) refl h (among-contains xs k)
  where
    go : (b : Bool) → (x == k) ≡ b → b || is_among xs k ≡ true → (is_among xs k ≡ true → Contains xs k) → Contains (x ∷ xs) k
    go true e t rest = let same : x ≡ k = grind (arith, nat_tests) in (0, omega arith, same)
    go false e t rest = let r = rest t in (suc r.0, omega (arith, r.1), r.2)

-- a number that is not the first one stands behind it
behind : (x : ℕ) (xs : List ℕ) (k : ℕ) → x ≢ k → (i : ℕ) → i < length (x ∷ xs) → slice_index_or (x ∷ xs) i k ≡ k → Contains xs k
behind x xs k ne zero l e = absurd (ne e)
behind x xs k ne (suc i) l e = (i, omega (arith, l), e)

pub contains-among : (xs : List ℕ) (k : ℕ) → Contains xs k → is_among xs k ≡ true
contains-among [] k c = absurd (omega (arith, c.1))
contains-among (x ∷ xs) k c = go (x == k) refl (contains-among xs k)
  where
    go : (b : Bool) → (x == k) ≡ b → (Contains xs k → is_among xs k ≡ true) → b || is_among xs k ≡ true
    go true e rest = refl
    go false e rest = rest (behind x xs k (λ same. let t : (x == k) ≡ true = grind (arith, nat_tests) in absurd (cc (t, e))) c.0 c.1 c.2)
