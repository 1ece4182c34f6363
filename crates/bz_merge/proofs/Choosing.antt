-- A leaf's place among the children of its parent, and its neighbours.
use Rattle.std.proofs.Common.{◌≡◌, ◌≢◌, ℕ, ◌+◌, ◌-◌, ◌<◌, true, false, List, arith, sym, ap, subst, ◌∙◌}
use Rattle.bz_node.specs.Reading.{child_in, count_in}
use Rattle.bz_node.specs.declared.child.Child.{Child}
use Rattle.std.specs.Prelude.{None}
use Rattle.bz_halves.proofs.PartedChildren.{children-count, child-read}
use Rattle.bz_slotted.specs.Readers.{count_of, child_of}
use Rattle.bz_slotted.specs.ReadingLaws.{node_of}
use Rattle.bz_merge.specs.Decisions.{IsParentOfLeaf}
use Rattle.bz_merge.specs.Plans.{IsPair}
use Rattle.bz_merge.specs.Siblings.{IsChildAt}

abbrev none : Child
none = record { low = None; slot = 0 }

module _ (read : List ℕ) (slot : ℕ) (h : IsParentOfLeaf read slot) where
  pub counted : count_in read ≡ count_of (node_of read)
  counted = omega (arith, children-count read, h.reads.count)

  -- a child as it is read
  pub slot-read : (j : ℕ) → j < count_in read → (child_in read j).slot ≡ child_of (node_of read) j
  slot-read j l = ap (λ (z : Child). z.slot) (sym (child-read read j l) ∙ h.reads.children j none (omega (arith, l, counted)))

  pub there : h.place < count_in read
  there = omega (arith, h.child.within, counted)

  -- it is found
  pub found : ((j : ℕ) → j < count_in read → (child_in read j).slot ≢ slot) → ⊥
  found out = out h.place there (slot-read h.place there ∙ h.child.there)

  pub place-is : (j : ℕ) → j < count_in read → (child_in read j).slot ≡ slot → IsChildAt read slot j
  place-is j l e =
      let same : j ≡ h.place = h.child.only j (omega (arith, l, counted)) (sym (slot-read j l) ∙ e) in
      subst (IsChildAt read slot) (sym same) h.child

  pub only-place : (i j : ℕ) → IsChildAt read slot i → IsChildAt read slot j → i ≡ j
  only-place i j a b = b.only i a.within a.there

  pub right-pair : (place : ℕ) → IsChildAt read slot place → place + 1 < count_in read → IsPair read slot true place (child_in read (place + 1)).slot
  right-pair place c l = record { counted = omega (arith, l, counted); own = c; other = sym (slot-read (place + 1) l) }

  pub left-pair : (place : ℕ) → IsChildAt read slot place → place ≢ 0 → IsPair read slot false (place - 1) (child_in read (place - 1)).slot
  left-pair place c ne =
      let next : place - 1 + 1 ≡ place = omega (arith, ne) in
      record { counted = omega (arith, next, c.within); own = subst (IsChildAt read slot) (sym next) c; other = sym (slot-read (place - 1) (omega (arith, ne, c.within, counted))) }
