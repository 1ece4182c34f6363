-- Two lists of the same records whose keys rise are one list.
use Rattle.std.specs.Prelude.{◌≡◌, ℕ, zero, suc, List, ◌∷◌, []}
use Rattle.std.specs.List.{Contains}
use Rattle.std.proofs.Common.{arith, refl, ap, sym, ◌∙◌}
use Rattle.std.proofs.lemmas.List.Sorted.{Contains-permutation, IsPermutation-sym}
use Rattle.bz_node.specs.Records.{IsBefore, AreRising, keys_of}
use Rattle.bz_node.specs.Laws.{OrderIsUnique}
use Rattle.bz_node.proofs.Orders.{get_or-keys_of, length-keys_of, IsBefore-trans, IsBefore-other}

AreRising-tail : (r : List ℕ × List ℕ) (rs : List (List ℕ × List ℕ)) → AreRising (keys_of (r ∷ rs)) → AreRising (keys_of rs)
AreRising-tail r rs rising i j less within = rising (suc i) (suc j) (omega arith) (omega arith)

-- the first key is before that of every later record
first_before : (r : List ℕ × List ℕ) (rs : List (List ℕ × List ℕ)) (x : List ℕ × List ℕ) → AreRising (keys_of (r ∷ rs)) → Contains rs x → IsBefore r.0 x.0
first_before r rs x rising (k, within, is) =
    let key = get_or-keys_of rs k x within ∙ ap (λ (y : List ℕ × List ℕ). y.0) is in
    rw (← key) (rising 0 (suc k) (omega arith) (omega (arith, length-keys_of rs)))

Contains-later : (r : List ℕ × List ℕ) (rs : List (List ℕ × List ℕ)) (x : List ℕ × List ℕ) → Contains rs x → Contains (r ∷ rs) x
Contains-later r rs x (k, within, is) = (suc k, omega arith, is)

-- a member of a list is its first element or a later one
pub data InList (r : List ℕ × List ℕ) (rs : List (List ℕ × List ℕ)) (x : List ℕ × List ℕ) : Type 0 where
  first : r ≡ x → InList r rs x
  later : Contains rs x → InList r rs x

parted : (r : List ℕ × List ℕ) (rs : List (List ℕ × List ℕ)) (x : List ℕ × List ℕ) → Contains (r ∷ rs) x → InList r rs x
parted r rs x (zero, within, is) = first is
parted r rs x (suc k, within, is) = later (k, omega arith, is)

same_first : (r s : List ℕ × List ℕ) (rs ss : List (List ℕ × List ℕ)) → AreRising (keys_of (r ∷ rs)) → AreRising (keys_of (s ∷ ss)) → InList s ss r → InList r rs s → r ≡ s
same_first r s rs ss up up' (first is) q = sym is
same_first r s rs ss up up' (later p) (first is) = is
same_first r s rs ss up up' (later p) (later q) =
    absurd (IsBefore-other r.0 r.0 (IsBefore-trans r.0 s.0 r.0 (first_before r rs s up q) (first_before s ss r up' p)) refl)

in_rest : (r s x : List ℕ × List ℕ) (rs ss : List (List ℕ × List ℕ)) → AreRising (keys_of (r ∷ rs)) → r ≡ s → Contains rs x → InList s ss x → Contains ss x
in_rest r s x rs ss up same p (first is) = absurd (IsBefore-other r.0 x.0 (first_before r rs x up p) (ap (λ (y : List ℕ × List ℕ). y.0) (same ∙ is)))
in_rest r s x rs ss up same p (later q) = q

none_in : (r : List ℕ × List ℕ) → Contains [] r → ⊥
none_in r (k, within, is) = absurd (omega arith)

one_list : (rs ss : List (List ℕ × List ℕ)) → AreRising (keys_of rs) → AreRising (keys_of ss) → ((x : List ℕ × List ℕ) → Contains rs x → Contains ss x) → ((x : List ℕ × List ℕ) → Contains ss x → Contains rs x) → ss ≡ rs
one_list [] [] up up' there back = refl
one_list [] (s ∷ ss) up up' there back = absurd (none_in s (back s (0, omega arith, refl)))
one_list (r ∷ rs) [] up up' there back = absurd (none_in r (there r (0, omega arith, refl)))
one_list (r ∷ rs) (s ∷ ss) up up' there back =
    let same : r ≡ s = same_first r s rs ss up up' (parted s ss r (there r (0, omega arith, refl))) (parted r rs s (back s (0, omega arith, refl))) in
    let rest = one_list rs ss (AreRising-tail r rs up) (AreRising-tail s ss up')
    (λ x p. in_rest r s x rs ss up same p (parted s ss x (there x (Contains-later r rs x p))))
    (λ x p. in_rest s r x ss rs up' (sym same) p (parted r rs x (back x (Contains-later s ss x p)))) in
    λ i. sym same i ∷ rest i

pub order_unique : OrderIsUnique
order_unique records sorted rising order =
    one_list records sorted rising order.rising (λ x p. Contains-permutation records sorted x order.same p) (λ x p. Contains-permutation sorted records x (IsPermutation-sym records sorted order.same) p)
