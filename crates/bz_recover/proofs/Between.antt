-- One step of a walk over a tree: the slot of the topmost visit is held, and what it leads to is to come.
use Rattle.std.proofs.Common.{◌≡◌, ◌≢◌, ℕ, ◌+◌, ◌<◌, ◌==◌, ◌||◌, Bool, true, false, List, [], ◌∷◌, ◌++◌, length, filter, Contains, arith, refl, sym, ap, ◌∙◌, append_assoc, not, eqb, inl, inr, subst, ◌⊎◌}
use Rattle.std.specs.Prelude.{None}
use Rattle.std.proofs.lemmas.Bool.{or_parts}
use Rattle.std.proofs.lemmas.Bool.Decides.{nat_tests}
use Rattle.std.proofs.lemmas.List.Elements.{Contains-append_cases}
use Rattle.std.proofs.lemmas.List.Filters.{length-filter_both}
use Rattle.std.proofs.lemmas.List.Sorted.{IsPermutation-filter_both, Contains-permutation}
use Rattle.bz_layout.specs.Slots.{without, IsHeld}
use Rattle.bz_layout.proofs.Laws.{held_slot_is_gone}
use Rattle.bz_tree.specs.Stack.{pending}
use Rattle.bz_tree.specs.View.{View}
use Rattle.bz_tree.specs.Walk.{Visit, walk, comes_to, ComesOnce, fault_of}
use Rattle.bz_tree.proofs.CleanWalks.{clean}
use Rattle.bz_tree.proofs.Visits.{In, in_right}
use Rattle.bz_recover.specs.Walking.{IsBetween}

-- a walk of two parts comes to what either of them comes to
comes-join : (us ws : List Visit) (k : ℕ) → comes_to (us ++ ws) k ≡ comes_to us k || comes_to ws k
comes-join [] ws k = refl
comes-join (u ∷ us) ws k = go (u.slot == k) (comes-join us ws k)
  where
    go : (b : Bool) → comes_to (us ++ ws) k ≡ comes_to us k || comes_to ws k → b || comes_to (us ++ ws) k ≡ (b || comes_to us k) || comes_to ws k
    go true e = refl
    go false e = e

-- where no slot comes twice, one that comes was not behind
first-come : (us ws : List Visit) (u : Visit) → ComesOnce (us ++ u ∷ ws) → comes_to us u.slot ≡ false
first-come [] ws u once = refl
first-come (x ∷ us) ws u once =
    let parts : (comes_to us x.slot ≡ false) × (comes_to (u ∷ ws) x.slot ≡ false) = or_parts (comes_to us x.slot) (comes_to (u ∷ ws) x.slot) (sym (comes-join us (u ∷ ws) x.slot) ∙ once.0) in
    let other : (u.slot == x.slot) ≡ false = (or_parts (u.slot == x.slot) (comes_to ws x.slot) parts.1).0 in
    grind (arith, nat_tests, first-come us ws u once.1)

-- one slot fewer is free
pub fewer : (free : List ℕ) (k : ℕ) → Contains free k → length (without k free) < length free
fewer free k has =
    let both : length (filter (λ s. not (eqb s k)) free) + length (filter (λ s. eqb s k) free) ≡ length free = length-filter_both (λ s. not (eqb s k)) (λ s. eqb s k) (λ s. twice (eqb s k)) free in
    omega (arith, both, some (Contains-append_cases (without k free) (filter (λ s. eqb s k) free) k (Contains-permutation free _ k (IsPermutation-filter_both (λ s. not (eqb s k)) (λ s. eqb s k) (λ s. twice (eqb s k)) free) has)))
  where
    twice : (b : Bool) → b ≡ not (not b)
    twice true = refl
    twice false = refl

    some : Contains (without k free) k ⊎ Contains (filter (λ s. eqb s k) free) k → 0 < length (filter (λ s. eqb s k) free)
    some (inl stays) = absurd ((held_slot_is_gone k free).gone stays)
    some (inr same) = omega (arith, same.1)

-- what a visit leaves
pub record Taken (v : View) (u : Visit) (stack : List Visit) (free : List ℕ) : Type 0 where
  pub between : IsBetween v stack (without u.slot free)
  pub was_free : Contains free u.slot
  pub whole : v.fault u.slot u.level u.low u.high ≡ None

pub takes : (v : View) (u : Visit) (stack rest : List Visit) (free : List ℕ) → fault_of v ≡ None → ComesOnce (walk v) → u.slot < v.top → IsBetween v stack free → pending v stack ≡ u ∷ pending v rest → Taken v u rest free
takes v u stack rest free none once less b next = record {
  between = record {
    behind = b.behind ++ u ∷ [];
    whole = whole ∙ sym (append_assoc b.behind (u ∷ []) (pending v rest));
    slots = λ k l. (λ h. after k l h, λ h. before k l h);
  };
  was_free = (b.slots u.slot less).1 (first-come b.behind (pending v rest) u (subst ComesOnce whole once));
  whole = (clean v [] (walk v) none).fault u (subst (In u) (sym whole) (in_right u b.behind (u ∷ pending v rest) (inl refl)));
}
  where
    whole : walk v ≡ b.behind ++ u ∷ pending v rest
    whole = b.whole ∙ ap (λ p. b.behind ++ p) next

    held : IsHeld u.slot free
    held = held_slot_is_gone u.slot free

    after : (k : ℕ) → k < v.top → Contains (without u.slot free) k → comes_to (b.behind ++ u ∷ []) k ≡ false
    after k l h =
        let other : k ≢ u.slot = λ e. held.gone (subst (Contains (without u.slot free)) e h) in
        let not_behind : comes_to b.behind k ≡ false = (b.slots k l).0 (held.others k h) in
        comes-join b.behind (u ∷ []) k ∙ grind (arith, nat_tests, not_behind, other)

    before : (k : ℕ) → k < v.top → comes_to (b.behind ++ u ∷ []) k ≡ false → Contains (without u.slot free) k
    before k l h =
        let parts : (comes_to b.behind k ≡ false) × (comes_to (u ∷ []) k ≡ false) = or_parts (comes_to b.behind k) (comes_to (u ∷ []) k) (sym (comes-join b.behind (u ∷ []) k) ∙ h) in
        let other : k ≢ u.slot = λ e. grind (arith, nat_tests, parts.1, e) in
        held.stays k ((b.slots k l).1 parts.0) other
