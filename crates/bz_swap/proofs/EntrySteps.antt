-- Steps of the loops over entry lists.
use Rattle.std.specs.Prelude.{◌≡◌, nat_lt, ℕ, suc, ◌+◌, ◌<◌, true, false, List, [], ◌∷◌, ◌++◌, length, get_or, take, drop, set}
use Rattle.std.proofs.Common.{arith, refl, ap, sym, subst, ◌∙◌}
use Rattle.std.proofs.lemmas.List.{drop_more, take_more, take_more_set, drop_all}
use Rattle.bz_word.specs.declared.entry.Entry.{Entry}
use Rattle.bz_swap.specs.EntryLists.{inserted, AreRising}
use Rattle.bz_swap.specs.Inside.Parts.{listed}
use Rattle.bz_swap.proofs.EntryLists.{rising-drop, inserted-front}

push-front : (xs ys : List Entry) (e : Entry) → (xs ++ e ∷ []) ++ ys ≡ xs ++ e ∷ ys
push-front [] ys e = refl
push-front (x ∷ xs) ys e = ap (λ zs. x ∷ zs) (push-front xs ys e)

-- an entry stays in front of the carried one
pub passes : (c d e : Entry) (old now all : List Entry) (i : ℕ) → i < length old → i < length now → get_or old i d ≡ e → get_or now i d ≡ e
    → nat_lt c.target e.target ≡ false → take i now ++ inserted c (drop i old) ≡ all → take (i + 1) now ++ inserted c (drop (i + 1) old) ≡ all
passes c d e old now all i in_old in_now here there order before =
    let rest : drop i old ≡ e ∷ drop (i + 1) old = drop_more old i d in_old ∙ ap (λ x. x ∷ drop (i + 1) old) here in
    let front : take (i + 1) now ≡ take i now ++ e ∷ [] = take_more now i d in_now ∙ ap (λ x. take i now ++ x ∷ []) there in
    let step : inserted c (drop i old) ≡ e ∷ inserted c (drop (i + 1) old) = ap (inserted c) rest ∙ (rw order refl) in
    ap (λ xs. xs ++ inserted c (drop (i + 1) old)) front ∙ push-front (take i now) (inserted c (drop (i + 1) old)) e
    ∙ ap (λ ys. take i now ++ ys) (sym step) ∙ before

-- the carried entry takes the place of one, which is carried on
pub carries : (c d e : Entry) (old now all : List Entry) (i : ℕ) → i < length old → i < length now → get_or old i d ≡ e → AreRising old
    → nat_lt c.target e.target ≡ true → take i now ++ inserted c (drop i old) ≡ all → take (i + 1) (set now i c) ++ inserted e (drop (i + 1) old) ≡ all
carries c d e old now all i in_old in_now here rising order before =
    let rest : drop i old ≡ e ∷ drop (i + 1) old = drop_more old i d in_old ∙ ap (λ x. x ∷ drop (i + 1) old) here in
    let front : take (i + 1) (set now i c) ≡ take i now ++ c ∷ [] = take_more_set now i c in_now in
    let first : inserted e (drop (i + 1) old) ≡ e ∷ drop (i + 1) old = inserted-front e (drop (i + 1) old) (subst AreRising rest (rising-drop old i rising)) in
    let step : inserted c (drop i old) ≡ c ∷ e ∷ drop (i + 1) old = ap (inserted c) rest ∙ (rw order refl) in
    ap (λ xs. xs ++ inserted e (drop (i + 1) old)) front ∙ push-front (take i now) (inserted e (drop (i + 1) old)) c
    ∙ ap (λ ys. take i now ++ c ∷ ys) first ∙ ap (λ ys. take i now ++ ys) (sym step) ∙ before

-- a list is its elements
pub listed-all : (f : ℕ → Entry) (xs : List Entry) (i : ℕ) → ((k : ℕ) (d : Entry) → k < length xs → f (i + k) ≡ get_or xs k d) → listed f i (length xs) ≡ xs
listed-all f [] i each = refl
listed-all f (x ∷ xs) i each =
    let here : f i ≡ x = ap f (omega arith) ∙ each 0 x (omega arith) in
    let rest : listed f (i + 1) (length xs) ≡ xs = listed-all f xs (i + 1) (λ k d below. ap f (omega arith) ∙ each (suc k) d (omega (arith, below))) in
    rw (here, rest) refl

-- the last entry carried stands at the end
pub ends : (c : Entry) (old now all : List Entry) (n i : ℕ) → i ≡ n → length old ≡ n → n < length now → take i now ++ inserted c (drop i old) ≡ all → take (n + 1) (set now n c) ≡ all
ends c old now all n i same long room before =
    let rest : drop i old ≡ [] = drop_all i old (omega (arith, long, same)) in
    take_more_set now n c room ∙ ap (λ j. take j now ++ c ∷ []) (sym same) ∙ ap (λ ys. take i now ++ inserted c ys) (sym rest) ∙ before

-- an entry is its three words
pub same-entry : (a b : Entry) → a.target ≡ b.target → a.expected ≡ b.expected → a.new ≡ b.new → a ≡ b
same-entry a b target expected new = ap (λ t. of t a.expected a.new) target ∙ ap (λ e. of b.target e a.new) expected ∙ ap (λ n. of b.target b.expected n) new
  where
    of : ℕ → ℕ → ℕ → Entry
    of t e n = record { target = t; expected = e; new = n }

pub plain : (k : ℕ) → 0 + k ≡ k
plain k = omega arith
