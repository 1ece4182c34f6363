-- The first free slots, once they are taken.
use Rattle.std.proofs.Common.{◌≡◌, ℕ, zero, suc, ◌<◌, ◌≤◌, ◌==◌, ◌||◌, Bool, true, false, List, [], ◌∷◌, ◌++◌, length, take, drop, arith, refl, sym, ap, subst, ◌∙◌, inl, inr}
use Rattle.std.specs.Prelude.{slice_index, Contains}
use Rattle.std.proofs.lemmas.Bool.{cases_lt, true≢false}
use Rattle.std.proofs.lemmas.Bool.Decides.{nat_tests}
use Rattle.std.proofs.lemmas.List.{get_or_append_left, get_or-take, length-take-le}
use Rattle.bz_layout.specs.Slots.{FreeSlots, IsInOrder, TakenSlotsAreGone}
use Rattle.bz_tree.specs.Walk.{is_among}
use Rattle.bz_renew.specs.Nodes.{AreSlotsTaken}
use Rattle.bz_renew.proofs.Words.{or-right}

-- a slot that is not contained is not among them
not-among : (k : ℕ) (xs : List ℕ) → ¬ Contains xs k → is_among xs k ≡ false
not-among k [] out = refl
not-among k (x ∷ xs) out = go (x == k) refl (not-among k xs (λ h. out (suc h.0, omega (arith, h.1), h.2)))
  where
    go : (b : Bool) → (x == k) ≡ b → is_among xs k ≡ false → (x == k) || is_among xs k ≡ false
    go true e ih = let same : x ≡ k = grind (arith, nat_tests) in absurd (out (0, omega arith, same))
    go false e ih = rw e ih

-- what stands in a list is among it
among-index : (xs : List ℕ) (n k : ℕ) → n < length xs → slice_index xs n ≡ k → is_among xs k ≡ true
among-index [] n k l e = absurd (omega (arith, l))
among-index (x ∷ xs) zero k l e = let hit : (x == k) ≡ true = grind (arith, nat_tests) in rw hit refl
among-index (x ∷ xs) (suc n) k l e = or-right (x == k) (is_among xs k) (among-index xs n k (omega (arith, l)) e)

-- what is among a list, and not behind its first numbers, is one of these
one-of-first : (m : ℕ) (xs : List ℕ) (k : ℕ) → is_among xs k ≡ true → is_among (drop m xs) k ≡ false → (n : ℕ) × ((n < m) × (k ≡ slice_index xs n))
one-of-first zero xs k h out = absurd (true≢false (sym h ∙ out))
one-of-first (suc m) [] k h out = absurd (cc)
one-of-first (suc m) (x ∷ xs) k h out = go (x == k) refl h (λ rest. one-of-first m xs k rest out)
  where
    go : (b : Bool) → (x == k) ≡ b → (b || is_among xs k) ≡ true → (is_among xs k ≡ true → (n : ℕ) × ((n < m) × (k ≡ slice_index xs n))) → (n : ℕ) × ((n < suc m) × (k ≡ slice_index (x ∷ xs) n))
    go true e h further = (0, (omega arith, (let same : x ≡ k = grind (arith, nat_tests) in sym same)))
    go false e h further = let rest = further h in (suc rest.0, (omega (arith, rest.1.0), rest.1.1))

-- so many of them
pub many-taken : TakenSlotsAreGone → (m : ℕ) (old : FreeSlots) (out rest : List ℕ) (new : FreeSlots) → IsInOrder old → m ≤ length old.free → out ≡ take m old.free ++ rest → new ≡ record old { free = drop m old.free }
    → (image : ℕ → List ℕ) → AreSlotsTaken (record { count = m; slot = slice_index out; image = image }) old new
many-taken law m old out rest new order some is after image = record {
  enough = some;
  rest = after;
  slots = record {
    within = λ n h. subst (λ z. z < old.nodes) (sym (at n h)) (order.within n 0 (omega (arith, h, some)));
    apart = λ n k h l e. apart n k h l (sym (at n h) ∙ (e ∙ at k l));
  };
  were = λ n h. among-index old.free n (slice_index out n) (omega (arith, h, some)) (sym (at n h));
  gone = λ n h. ap (λ z. is_among z.free (slice_index out n)) after ∙ not-among (slice_index out n) (drop m old.free) (λ c. (law old m order).gone n h (subst (Contains (drop m old.free)) (at n h) c));
  only = λ k h out_of. (
      let one = one-of-first m old.free k h (sym (ap (λ z. is_among z.free k) after) ∙ out_of) in
      record { node = one.0; within = one.1.0; is = one.1.1 ∙ sym (at one.0 one.1.0) });
}
  where
    at : (n : ℕ) → n < m → slice_index out n ≡ slice_index old.free n
    at n h = ap (λ z. slice_index z n) is ∙ (get_or_append_left (take m old.free) rest 0 n (omega (arith, h, some, length-take-le m old.free some)) ∙ get_or-take m old.free n 0 h)

    apart : (n k : ℕ) → n < m → k < m → slice_index old.free n ≡ slice_index old.free k → n ≡ k
    apart n k h l e = elim (cases_lt n k) [
      | inl before ↦ absurd (omega (arith, e, (law old m order).rising n k before (omega (arith, l, some))))
      | inr not_before ↦ elim (cases_lt k n) [
        | inl behind ↦ absurd (omega (arith, e, (law old m order).rising k n behind (omega (arith, h, some))))
        | inr not_behind ↦ omega (arith, not_before, not_behind)
      ]
    ]
