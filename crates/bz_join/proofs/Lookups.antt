-- Looking a key up among records that are joined of two parts.
use Rattle.std.proofs.Common.{◌≡◌, ◌≢◌, ℕ, suc, Bool, true, false, cond, List, [], ◌∷◌, ◌++◌, arith, refl, sym, ap}
use Rattle.std.specs.Prelude.{All, Some, None}
use Rattle.std.specs.Cmp.Lexicographic.{slice_cmp}
use Rattle.std.specs.FinMap.{find, slice_cmp-IsAntisymmetric, nat_cmp-IsAntisymmetric}
use Rattle.std.specs.Ordering.{nat_cmp, eq_by_cmp, is_eq}
use Rattle.std.specs.declared.cmp.Ordering.{Ordering}
use Rattle.std.specs.declared.cmp.Ordering.TheVariants.{Less, Equal, Greater}
use Rattle.std.proofs.lemmas.Bool.{true≢false}
use Rattle.bz_node.specs.Records.{keys_of}

equal : (o : Ordering) → is_eq o ≡ true → o ≡ Equal
equal Less h = absurd (true≢false (sym h))
equal Equal h = refl
equal Greater h = absurd (true≢false (sym h))

-- a key that is another does not tie
other : (key x : List ℕ) → x ≢ key → eq_by_cmp (slice_cmp nat_cmp) key x ≡ false
other key x ne = go (eq_by_cmp (slice_cmp nat_cmp) key x) refl
  where
    go : (t : Bool) → eq_by_cmp (slice_cmp nat_cmp) key x ≡ t → t ≡ false
    go true e = absurd (ne (sym (slice_cmp-IsAntisymmetric nat_cmp-IsAntisymmetric key x (equal (slice_cmp nat_cmp key x) e))))
    go false e = refl

-- among records of other keys nothing is found
pub none-of : (key : List ℕ) (xs : List (List ℕ × List ℕ)) → All (λ k. k ≢ key) (keys_of xs) → find (slice_cmp nat_cmp) key xs ≡ None
none-of key [] h = refl
none-of key (x ∷ xs) h = rw (other key x.0 (h 0 [] (omega arith))) (none-of key xs (λ i d l. h (suc i) d (omega arith)))

pub find-left : (key : List ℕ) (xs ys : List (List ℕ × List ℕ)) → find (slice_cmp nat_cmp) key ys ≡ None → find (slice_cmp nat_cmp) key (xs ++ ys) ≡ find (slice_cmp nat_cmp) key xs
find-left key [] ys none = none
find-left key (x ∷ xs) ys none = ap (λ rest. cond (eq_by_cmp (slice_cmp nat_cmp) key x.0) (Some x.1) rest) (find-left key xs ys none)

pub find-right : (key : List ℕ) (xs ys : List (List ℕ × List ℕ)) → All (λ k. k ≢ key) (keys_of xs) → find (slice_cmp nat_cmp) key (xs ++ ys) ≡ find (slice_cmp nat_cmp) key ys
find-right key [] ys h = refl
find-right key (x ∷ xs) ys h = rw (other key x.0 (h 0 [] (omega arith))) (find-right key xs ys (λ i d l. h (suc i) d (omega arith)))
