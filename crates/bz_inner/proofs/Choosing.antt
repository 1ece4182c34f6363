-- A child's place among the children of the root, and its neighbour.
use Rattle.std.proofs.Common.{◌≡◌, ◌≢◌, ℕ, ◌+◌, ◌-◌, ◌<◌, ◌≤◌, true, false, List, inl, inr, arith, sym, ap, subst, ◌∙◌}
use Rattle.std.proofs.lemmas.Bool.{cases_lt}
use Rattle.bz_node.specs.Reading.{child_in, count_in}
use Rattle.bz_node.specs.declared.child.Child.{Child}
use Rattle.bz_halves.proofs.PartedChildren.{children-count, child-read}
use Rattle.bz_slotted.specs.Readers.{count_of, child_of}
use Rattle.bz_slotted.specs.ReadingLaws.{node_of}
use Rattle.bz_inner.specs.Neighbours.{IsParentOf, IsNeighbour, IsOnlyChild}

module _ (above : List ℕ) (own : ℕ) (h : IsParentOf above own) where
  pub counted : count_in above ≡ count_of (node_of above)
  counted = omega (arith, children-count above, h.has.count)

  -- a child as it is read
  slot-read : (j : ℕ) → j < count_in above → (child_in above j).slot ≡ child_of (node_of above) j
  slot-read j l = ap (λ (z : Child). z.slot) (sym (child-read above j l)) ∙ sym (h.has.child j (omega (arith, l, children-count above)))

  -- it is found
  pub found : ((j : ℕ) → j < count_in above → (child_in above j).slot ≢ own) → ⊥
  found out = let l : h.place < count_in above = omega (arith, h.within, counted) in out h.place l (slot-read h.place l ∙ h.there)

  pub right-one : (place : ℕ) (c : Child) → place < count_in above → (child_in above place).slot ≡ own → place + 1 < count_in above → c ≡ child_in above (place + 1) → IsNeighbour above own true place c.slot
  right-one place c l e more is = record {
    within = omega (arith, more, counted);
    first = sym (slot-read place l) ∙ e;
    second = sym (slot-read (place + 1) more) ∙ ap (λ (z : Child). z.slot) (sym is);
    last = λ q. absurd (cc);
  }

  pub left-one : (place : ℕ) (c : Child) → place < count_in above → (child_in above place).slot ≡ own → (place + 1 < count_in above → ⊥) → place ≢ 0 → c ≡ child_in above (place - 1) → IsNeighbour above own false (place - 1) c.slot
  left-one place c l e last some is =
      let next : place - 1 + 1 ≡ place = omega (arith, some) in
      let before : place - 1 < count_in above = omega (arith, l, some) in
      record {
        within = omega (arith, next, l, counted);
        first = sym (slot-read (place - 1) before) ∙ ap (λ (z : Child). z.slot) (sym is);
        second = subst (λ z. child_of (node_of above) z ≡ own) (sym next) (sym (slot-read place l) ∙ e);
        last = λ q. (let end : count_in above ≤ place + 1 = at-end place last in omega (arith, end, l, counted, some));
      }
    where
      at-end : (i : ℕ) → (i + 1 < count_in above → ⊥) → count_in above ≤ i + 1
      at-end i none = elim (cases_lt (i + 1) (count_in above)) [ inl l ↦ absurd (none l) | inr l ↦ l ]

  pub only-one : (place : ℕ) → place < count_in above → (child_in above place).slot ≡ own → (place + 1 < count_in above → ⊥) → place ≡ 0 → IsOnlyChild above own
  only-one place l e last first = record {
    one = elim (cases_lt (place + 1) (count_in above)) [ inl more ↦ absurd (last more) | inr end ↦ omega (arith, end, l, first, counted) ];
    there = subst (λ z. child_of (node_of above) z ≡ own) first (sym (slot-read place l) ∙ e);
  }
