-- What a look-up finds among pairs whose keys rise, and among the same pairs in another order.
use Rattle.std.proofs.Common.{◌≡◌, ◌≢◌, ℕ, zero, suc, ◌<◌, Bool, true, false, cond, List, [], ◌∷◌, length, get_or, arith, refl, sym, ap, subst, ◌∙◌, Option}
use Rattle.std.specs.Prelude.{Some, None, T}
use Rattle.std.specs.Cmp.Lexicographic.{slice_cmp}
use Rattle.std.specs.FinMap.{find, is_sorted, slice_cmp-IsAntisymmetric, nat_cmp-IsAntisymmetric}
use Rattle.std.specs.FinMap.Entries.{below_all}
use Rattle.std.specs.List.{Contains}
use Rattle.std.specs.List.Sorted.{IsPermutation}
use Rattle.std.specs.Ordering.{nat_cmp, eq_by_cmp, is_eq}
use Rattle.std.specs.declared.cmp.Ordering.{Ordering}
use Rattle.std.specs.declared.cmp.Ordering.TheVariants.{Less, Equal, Greater}
use Rattle.std.proofs.lemmas.Bool.{true≢false}
use Rattle.std.proofs.lemmas.Cmp.{nat_list_cmp_total, tied_itself}
use Rattle.std.proofs.lemmas.List.{get_or-map, length-map}
use Rattle.std.proofs.lemmas.List.Sorted.{Contains-permutation, IsPermutation-sym}
use Rattle.bz_slotted.specs.FromNode.Records.{IsBefore, AreRising, keys_of}

equal : (o : Ordering) → is_eq o ≡ true → o ≡ Equal
equal Less h = absurd (true≢false (sym h))
equal Equal h = refl
equal Greater h = absurd (true≢false (sym h))

-- only a key itself ties with it
pub ties : (a b : List ℕ) → eq_by_cmp (slice_cmp nat_cmp) a b ≡ true → a ≡ b
ties a b h = slice_cmp-IsAntisymmetric nat_cmp-IsAntisymmetric a b (equal (slice_cmp nat_cmp a b) h)

pub ties-itself : (a b : List ℕ) → a ≡ b → eq_by_cmp (slice_cmp nat_cmp) a b ≡ true
ties-itself a b same = ap (λ k. is_eq (slice_cmp nat_cmp a k)) (sym same) ∙ ap is_eq (tied_itself nat_list_cmp_total a)

before-ties : (a b : List ℕ) → IsBefore a b → eq_by_cmp (slice_cmp nat_cmp) b a ≡ false
before-ties a b before = go (eq_by_cmp (slice_cmp nat_cmp) b a) refl
  where
    go : (t : Bool) → eq_by_cmp (slice_cmp nat_cmp) b a ≡ t → t ≡ false
    go true e = (
        let same : slice_cmp nat_cmp a b ≡ Equal = ap (λ k. slice_cmp nat_cmp a k) (ties b a e) ∙ tied_itself nat_list_cmp_total a in
        absurd (cc))
    go false e = refl

later : (x : List ℕ × List ℕ) (xs : List (List ℕ × List ℕ)) (y : List ℕ × List ℕ) → Contains xs y → Contains (x ∷ xs) y
later x xs y (k, within, is) = (suc k, omega arith, is)

-- what is found is a pair of the list
pub found-contained : (key value : List ℕ) (xs : List (List ℕ × List ℕ)) → find (slice_cmp nat_cmp) key xs ≡ Some value → Contains xs (key, value)
found-contained key value [] e = absurd (cc)
found-contained key value (x ∷ xs) e = go (eq_by_cmp (slice_cmp nat_cmp) key x.0) refl e (found-contained key value xs)
  where
    go : (b : Bool) → eq_by_cmp (slice_cmp nat_cmp) key x.0 ≡ b → cond b (Some x.1) (find (slice_cmp nat_cmp) key xs) ≡ Some value
        → (find (slice_cmp nat_cmp) key xs ≡ Some value → Contains xs (key, value)) → Contains (x ∷ xs) (key, value)
    go true t is ih = (
        let k : x.0 ≡ key = sym (ties key x.0 t) in
        let v : x.1 ≡ value = cc in
        (0, omega arith, λ i. (k i, v i)))
    go false t is ih = later x xs (key, value) (ih is)

-- the key of a pair of the list is found
contained-found : (key value : List ℕ) (xs : List (List ℕ × List ℕ)) → Contains xs (key, value) → find (slice_cmp nat_cmp) key xs ≢ None
contained-found key value [] (k, within, is) none = absurd (omega arith)
contained-found key value (x ∷ xs) (zero, within, is) none =
    let t : eq_by_cmp (slice_cmp nat_cmp) key x.0 ≡ true = ties-itself key x.0 (sym (ap (λ (y : List ℕ × List ℕ). y.0) is)) in
    let some : Some x.1 ≡ None = rw t at none in
    absurd (cc)
contained-found key value (x ∷ xs) (suc k, within, is) none = go (eq_by_cmp (slice_cmp nat_cmp) key x.0) none (contained-found key value xs (k, omega arith, is))
  where
    go : (b : Bool) → cond b (Some x.1) (find (slice_cmp nat_cmp) key xs) ≡ None → find (slice_cmp nat_cmp) key xs ≢ None → ⊥
    go true e ih = absurd (cc)
    go false e ih = ih e

pub rising-tail : (x : List ℕ × List ℕ) (xs : List (List ℕ × List ℕ)) → AreRising (keys_of (x ∷ xs)) → AreRising (keys_of xs)
rising-tail x xs rising i j less within = rising (suc i) (suc j) (omega arith) (omega arith)

-- where the keys rise, what is found is the one pair of the key
rising-found : (key value : List ℕ) (xs : List (List ℕ × List ℕ)) → AreRising (keys_of xs) → Contains xs (key, value) → find (slice_cmp nat_cmp) key xs ≡ Some value
rising-found key value [] rising (k, within, is) = absurd (omega arith)
rising-found key value (x ∷ xs) rising (zero, within, is) =
    let t : eq_by_cmp (slice_cmp nat_cmp) key x.0 ≡ true = ties-itself key x.0 (sym (ap (λ (y : List ℕ × List ℕ). y.0) is)) in
    let v : x.1 ≡ value = ap (λ (y : List ℕ × List ℕ). y.1) is in
    rw (t, v) refl
rising-found key value (x ∷ xs) rising (suc k, within, is) =
    let inside : k < length xs = omega arith in
    let here : get_or (keys_of xs) k [] ≡ key = get_or-map (λ (y : List ℕ × List ℕ). y.0) xs k (key, value) [] inside ∙ ap (λ (y : List ℕ × List ℕ). y.0) is in
    let before : IsBefore x.0 key = rw here at (rising 0 (suc k) (omega arith) (omega (arith, inside, length-map xs (λ (y : List ℕ × List ℕ). y.0)))) in
    rw (before-ties x.0 key before) (rising-found key value xs (rising-tail x xs rising) (k, inside, is))

-- a look-up finds the same in the order of keys
pub find-order : (key : List ℕ) (xs ys : List (List ℕ × List ℕ)) → IsPermutation xs ys → AreRising (keys_of ys) → find (slice_cmp nat_cmp) key ys ≡ find (slice_cmp nat_cmp) key xs
find-order key xs ys same rising = go (find (slice_cmp nat_cmp) key xs) refl (find (slice_cmp nat_cmp) key ys) refl
  where
    go : (a : Option (List ℕ)) → find (slice_cmp nat_cmp) key xs ≡ a → (b : Option (List ℕ)) → find (slice_cmp nat_cmp) key ys ≡ b → find (slice_cmp nat_cmp) key ys ≡ find (slice_cmp nat_cmp) key xs
    go (Some value) e b f = rising-found key value ys rising (Contains-permutation xs ys (key, value) same (found-contained key value xs e)) ∙ sym e
    go None e None f = f ∙ sym e
    go None e (Some value) f = absurd (contained-found key value xs (Contains-permutation ys xs (key, value) (IsPermutation-sym xs ys same) (found-contained key value ys f)) e)

below : (key : List ℕ) (xs : List (List ℕ × List ℕ)) → ((k : ℕ) → k < length xs → IsBefore key (get_or (keys_of xs) k [])) → below_all (slice_cmp nat_cmp) key xs ≡ true
below key [] h = refl
below key (x ∷ xs) h =
    let first : slice_cmp nat_cmp key x.0 ≡ Less = h 0 (omega arith) in
    rw (first, below key xs (λ k l. h (suc k) (omega arith))) refl

sorted : (xs : List (List ℕ × List ℕ)) → AreRising (keys_of xs) → is_sorted (slice_cmp nat_cmp) xs ≡ true
sorted [] rising = refl
sorted (x ∷ xs) rising =
    let first : below_all (slice_cmp nat_cmp) x.0 xs ≡ true = below x.0 xs (λ k l. rising 0 (suc k) (omega arith) (omega (arith, l, length-map xs (λ (y : List ℕ × List ℕ). y.0)))) in
    rw (first, sorted xs (rising-tail x xs rising)) refl

-- a list whose keys rise is one of a map's entries
pub rising-sorted : (xs : List (List ℕ × List ℕ)) → AreRising (keys_of xs) → T (is_sorted (slice_cmp nat_cmp) xs)
rising-sorted xs rising = subst T (sym (sorted xs rising)) tt
