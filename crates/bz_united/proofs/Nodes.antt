-- The one node breaks no rule, and has the children of the two.
use Rattle.std.proofs.Common.{◌≡◌, ℕ, zero, suc, ◌+◌, ◌<◌, ◌≤◌, false, List, [], length, get_or, arith, refl, sym, ap, ◌∙◌, inl, inr, Option}
use Rattle.std.specs.Prelude.{nat_lt}
use Rattle.std.proofs.lemmas.Bool.{cases_lt}
use Rattle.std.proofs.lemmas.Bool.Decides.{nat_tests}
use Rattle.std.proofs.lemmas.List.{length-append, get_or_append_left, get_or-append-add}
use Rattle.bz_node.specs.Layout.{bound_of}
use Rattle.bz_node.specs.declared.child.Child.{Child}
use Rattle.bz_tree.specs.Slots.{Halves}
use Rattle.bz_slotted.specs.Page.{page}
use Rattle.bz_slotted.specs.Readers.{count_of, child_of, key_of}
use Rattle.bz_slotted.specs.ReadingLaws.{node_of, IsInnerOf}
use Rattle.bz_slotted.proofs.Proved.{made_inners_are_whole}
use Rattle.bz_halves.specs.Parents.{HasChildren, children_told}
use Rattle.bz_united.specs.Laws.{AreNeighbours, AreUnited, StandTogether, UnitedNodesAreInner}
use Rattle.bz_united.specs.Uniting.{bounded, united, united_words}
use Rattle.bz_united.proofs.Children.{none, all-united, are-united, later-bounded, long-bounded, slot-bounded}

-- past the last child readers read nothing
child-past : (n : ℕ → ℕ) (j : ℕ) → count_of n ≤ j → child_of n j ≡ 0
unfolding child_of count_of
child-past n j past = (let t : nat_lt j (page n).count ≡ false = grind (arith, nat_tests) in rw t refl)

key-past : (n : ℕ → ℕ) (j : ℕ) → count_of n ≤ j → key_of n j ≡ []
unfolding key_of count_of
key-past n j past = (let t : nat_lt j (page n).count ≡ false = grind (arith, nat_tests) in rw t refl)

module _ (nodes : ℕ) (l r : ℕ → ℕ) (left right : List Child) (low high : Option (List ℕ)) (sep : List ℕ) (level : ℕ) (n : AreNeighbours left right low high sep) (at : StandTogether nodes left right sep level) (tells_l : HasChildren l left) (tells_r : HasChildren r right) where
  abbrev both : List Child
  both = united left right sep

  abbrev one : ℕ → ℕ
  one = node_of (united_words left right sep low high level)

  u : AreUnited left right low high sep
  u = are-united left right low high sep n

  pub inner : IsInnerOf nodes one both level low high
  inner = made_inners_are_whole nodes both level low high u.each n.low_bound n.high_bound u.list
      (all-united left right low high sep n (λ (z : Child). z.slot < nodes) at.left_slots (at.right_slots 0 none n.right_list.some) at.right_slots) at.inner at.lowest (omega (arith, u.words, at.room))

  long : length both ≡ length left + length right
  long = omega (arith, length-append left (bounded right sep), long-bounded right sep n.right_list.some)

  -- a child of the left one, and a child of the right one, among those of both
  in-left : (j : ℕ) → j < length left → get_or both j none ≡ get_or left j none
  in-left j h = get_or_append_left left (bounded right sep) none j h

  in-right : (j : ℕ) → get_or both (j + count_of l) none ≡ get_or (bounded right sep) j none
  in-right j =
      let e : j + count_of l ≡ length left + j = omega (arith, tells_l.count) in
      ap (λ z. get_or both z none) e ∙ get_or-append-add left (bounded right sep) j none

  child-left : (j : ℕ) → j < count_of l → child_of l j ≡ child_of one j
  child-left j h =
      let inside : j < length left = omega (arith, h, tells_l.count) in
      tells_l.child j inside ∙ (ap (λ (z : Child). z.slot) (sym (in-left j inside)) ∙ sym (inner.child j none (omega (arith, inside, long))))

  key-left : (j : ℕ) → j < count_of l → key_of l j ≡ key_of one j
  key-left j h =
      let inside : j < length left = omega (arith, h, tells_l.count) in
      tells_l.key j inside ∙ (ap (λ (z : Child). bound_of z.low) (sym (in-left j inside)) ∙ sym (inner.key j none (omega (arith, inside, long))))

  child-right : (j : ℕ) → child_of r j ≡ child_of one (j + count_of l)
  child-right j = elim (cases_lt j (length right)) [
    | inl inside ↦ tells_r.child j inside ∙ (sym (slot-bounded right sep j) ∙ (ap (λ (z : Child). z.slot) (sym (in-right j)) ∙ sym (inner.child (j + count_of l) none (omega (arith, inside, long, tells_l.count)))))
    | inr past ↦ child-past r j (omega (arith, past, tells_r.count)) ∙ sym (child-past one (j + count_of l) (omega (arith, past, inner.count, long, tells_l.count)))
  ]

  key-right : (j : ℕ) → 0 < j → key_of r j ≡ key_of one (j + count_of l)
  key-right zero some = absurd (omega (arith, some))
  key-right (suc j) some = elim (cases_lt (suc j) (length right)) [
    | inl inside ↦ tells_r.key (suc j) inside ∙ (ap (λ (z : Child). bound_of z.low) (sym (in-right (suc j) ∙ later-bounded right sep j none)) ∙ sym (inner.key (suc j + count_of l) none (omega (arith, inside, long, tells_l.count))))
    | inr past ↦ key-past r (suc j) (omega (arith, past, tells_r.count)) ∙ sym (key-past one (suc j + count_of l) (omega (arith, past, inner.count, long, tells_l.count)))
  ]

  parted : key_of one (count_of l) ≡ sep
  parted =
      let e : 0 + count_of l ≡ count_of l = omega arith in
      inner.key (count_of l) none (omega (arith, long, tells_l.count, n.right_list.some)) ∙ ap (λ (z : Child). bound_of z.low) (ap (λ z. get_or both z none) (sym e) ∙ in-right 0)

  pub halves : Halves (children_told one) (children_told l) (children_told r) (count_of l) sep
  halves = record {
    some = omega (arith, tells_l.count, n.left_list.some);
    more = omega (arith, inner.count, long, tells_l.count, n.right_list.some);
    count_l = refl;
    count_r = omega (arith, inner.count, long, tells_l.count, tells_r.count);
    child_l = child-left;
    key_l = key-left;
    child_r = child-right;
    key_r = key-right;
    parted = parted;
  }

pub united-inner : UnitedNodesAreInner
united-inner nodes l r left right low high sep level n at tells_l tells_r = record {
  inner = inner nodes l r left right low high sep level n at tells_l tells_r;
  halves = halves nodes l r left right low high sep level n at tells_l tells_r;
}
