-- Records put in the order of their keys: which list that is, and what is found in it.
use Rattle.std.proofs.Common.{◌≡◌, ℕ, suc, ◌<◌, Bool, true, false, cond, List, [], ◌∷◌, length, get_or, arith, refl, sym, ap, subst, ◌∙◌, Option}
use Rattle.std.specs.Prelude.{Some, None, T}
use Rattle.std.specs.Cmp.{eq_by_cmp_equiv, IsEquivalence}
use Rattle.std.specs.Cmp.Lexicographic.{slice_cmp}
use Rattle.std.specs.FinMap.{from_entries, entries_sorted, get-entries, get-from_entries, find, is_sorted, slice_cmp-IsAntisymmetric, nat_cmp-IsAntisymmetric}
use Rattle.std.specs.FinMap.Entries.{below_all, same_entries}
use Rattle.std.specs.List.{IsDistinct}
use Rattle.std.specs.List.Sorted.{IsPermutation}
use Rattle.std.specs.Map.{lookup}
use Rattle.std.specs.Ordering.{nat_cmp, eq_by_cmp, is_eq}
use Rattle.std.specs.declared.cmp.Ordering.{Ordering}
use Rattle.std.specs.declared.cmp.Ordering.TheVariants.{Less, Equal, Greater}
use Rattle.std.proofs.lemmas.Cmp.{nat_list_cmp_total}
use Rattle.std.proofs.lemmas.List.{get_or_default}
use Rattle.std.proofs.lemmas.List.Sorted.{Contains-permutation, IsPermutation-sym, IsPermutation-map}
use Rattle.std.proofs.lemmas.Map.Keys.{IsDistinct-from_apart, IsDistinct-IsPermutation}
use Rattle.std.proofs.lemmas.Map.Views.{Contains-from_lookup, lookup-from_Contains}
use Rattle.bz_node.specs.Records.{AreRising, keys_of}
use Rattle.bz_tree.specs.Content.{Pairs}
use Rattle.bz_judge.specs.Inside.Gathers.{in_order}

-- two keys are one
abbrev same : List ℕ → List ℕ → Bool
same = eq_by_cmp (slice_cmp nat_cmp)

equivalent : IsEquivalence same
equivalent = eq_by_cmp_equiv nat_list_cmp_total

equal : (o : Ordering) → is_eq o ≡ true → o ≡ Equal
equal Less e = absurd (cc)
equal Equal e = refl
equal Greater e = absurd (cc)

pub exact : (a b : List ℕ) → same a b ≡ true → a ≡ b
exact a b e = slice_cmp-IsAntisymmetric nat_cmp-IsAntisymmetric a b (equal (slice_cmp nat_cmp a b) e)

looked-up : (q : List ℕ) (xs : Pairs) → find (slice_cmp nat_cmp) q xs ≡ lookup (same q) xs
looked-up q [] = refl
looked-up q (x ∷ xs) = ap (cond (same q x.0) (Some x.1)) (looked-up q xs)

distinct : (xs : Pairs) → AreRising (keys_of xs) → IsDistinct same (keys_of xs)
distinct xs rising = IsDistinct-from_apart same (keys_of xs) (λ i j d less within.
    let first : get_or (keys_of xs) i d ≡ get_or (keys_of xs) i [] = get_or_default (keys_of xs) i d [] (omega arith) in
    let second : get_or (keys_of xs) j d ≡ get_or (keys_of xs) j [] = get_or_default (keys_of xs) j d [] within in
    rw (first, second) (ap is_eq (rising i j less within)))

-- a look-up finds the same in the order of keys
found-alike : (q : List ℕ) (xs ys : Pairs) → IsPermutation xs ys → AreRising (keys_of ys) → lookup (same q) ys ≡ lookup (same q) xs
found-alike q xs ys moved rising = go (lookup (same q) xs) refl (lookup (same q) ys) refl
  where
    back : IsPermutation ys xs
    back = IsPermutation-sym xs ys moved

    apart : IsDistinct same (keys_of xs)
    apart = IsDistinct-IsPermutation same (λ a b. equivalent.symm a b) (keys_of ys) (keys_of xs) (IsPermutation-map (λ (r : List ℕ × List ℕ). r.0) ys xs back) (distinct ys rising)

    go : (a : Option (List ℕ)) → lookup (same q) xs ≡ a → (b : Option (List ℕ)) → lookup (same q) ys ≡ b → lookup (same q) ys ≡ lookup (same q) xs
    go (Some v) e b f = lookup-from_Contains equivalent q v ys (distinct ys rising) (Contains-permutation xs ys (q, v) moved (Contains-from_lookup exact q v xs e)) ∙ sym e
    go None e None f = f ∙ sym e
    go None e (Some v) f = f ∙ sym (lookup-from_Contains equivalent q v xs apart (Contains-permutation ys xs (q, v) back (Contains-from_lookup exact q v ys f)))

below : (key : List ℕ) (xs : Pairs) → ((k : ℕ) → k < length (keys_of xs) → slice_cmp nat_cmp key (get_or (keys_of xs) k []) ≡ Less) → below_all (slice_cmp nat_cmp) key xs ≡ true
below key [] h = refl
below key (x ∷ xs) h =
    let first : slice_cmp nat_cmp key x.0 ≡ Less = h 0 (omega arith) in
    rw (first, below key xs (λ k l. h (suc k) (omega arith))) refl

rising-sorted : (xs : Pairs) → AreRising (keys_of xs) → is_sorted (slice_cmp nat_cmp) xs ≡ true
rising-sorted [] rising = refl
rising-sorted (x ∷ xs) rising = rw (below x.0 xs (λ k l. rising 0 (suc k) (omega arith) (omega arith)), rising-sorted xs (λ i j less within. rising (suc i) (suc j) (omega arith) (omega arith))) refl

is-true : (b : Bool) → T b → b ≡ true
is-true true t = refl
is-true false t = absurd t

-- what is found in the order of keys is what was found before
pub found-in-order : (q : List ℕ) (xs : Pairs) → find (slice_cmp nat_cmp) q (in_order xs) ≡ find (slice_cmp nat_cmp) q xs
unfolding in_order
found-in-order q xs = sym (get-entries (from_entries xs) q) ∙ get-from_entries nat_list_cmp_total xs q

pub in-order-sorted : (xs : Pairs) → is_sorted (slice_cmp nat_cmp) (in_order xs) ≡ true
unfolding in_order
in-order-sorted xs = is-true _ (entries_sorted (from_entries {R = slice_cmp nat_cmp} xs))

-- a list in the order of keys in which the same is found is that one
pub is-in-order : (xs ys : Pairs) → is_sorted (slice_cmp nat_cmp) ys ≡ true → ((q : List ℕ) → find (slice_cmp nat_cmp) q ys ≡ find (slice_cmp nat_cmp) q xs) → ys ≡ in_order xs
is-in-order xs ys sorted found =
    same_entries (slice_cmp nat_cmp) nat_list_cmp_total (slice_cmp-IsAntisymmetric nat_cmp-IsAntisymmetric) ys (in_order xs) (subst T (sym sorted) tt) (subst T (sym (in-order-sorted xs)) tt)
    (λ q. found q ∙ sym (found-in-order q xs))

-- the records themselves, in an order in which their keys rise, are that list
pub put-in-order : (xs ys : Pairs) → IsPermutation xs ys → AreRising (keys_of ys) → ys ≡ in_order xs
put-in-order xs ys moved rising = is-in-order xs ys (rising-sorted ys rising) (λ q. looked-up q ys ∙ (found-alike q xs ys moved rising ∙ sym (looked-up q xs)))
