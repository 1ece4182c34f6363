-- The halves are inner nodes, and have between them the children of the old one.
use Rattle.std.proofs.Common.{◌≡◌, ℕ, ◌+◌, ◌-◌, ◌<◌, ◌≤◌, false, List, [], length, take, get_or, arith, refl, sym, ap, subst, ◌∙◌, inl, inr, Option}
use Rattle.std.specs.Prelude.{All, Some, None, nat_lt}
use Rattle.std.proofs.lemmas.Bool.{cases_lt, cases_eq}
use Rattle.std.proofs.lemmas.Bool.Decides.{nat_tests}
use Rattle.std.proofs.lemmas.List.Elements.{All-take}
use Rattle.bz_node.specs.Layout.{bound_of}
use Rattle.bz_node.specs.declared.child.Child.{Child}
use Rattle.bz_tree.specs.Slots.{Halves}
use Rattle.bz_slotted.specs.Page.{page}
use Rattle.bz_slotted.specs.Readers.{count_of, child_of, key_of}
use Rattle.bz_slotted.specs.ReadingLaws.{node_of, IsInnerOf}
use Rattle.bz_slotted.proofs.Proved.{made_inners_are_whole}
use Rattle.bz_halves.specs.Parents.{child_at, HasChildren, children_told}
use Rattle.bz_parted.specs.Parting.{IsParting, separator_of, right_half, left_words, right_words}
use Rattle.bz_parted.specs.Laws.{IsSplitInner, AreInnerHalves, StandsAtLevel, HalvesAreInner}
use Rattle.bz_parted.proofs.Parting.{part-in-halves, left-child, left-count, right-count, right-later, right-all}

-- past the last child readers read nothing
child-past : (n : ℕ → ℕ) (j : ℕ) → count_of n ≤ j → child_of n j ≡ 0
unfolding child_of count_of
child-past n j past = (let t : nat_lt j (page n).count ≡ false = grind (arith, nat_tests) in rw t refl)

key-past : (n : ℕ → ℕ) (j : ℕ) → count_of n ≤ j → key_of n j ≡ []
unfolding key_of count_of
key-past n j past = (let t : nat_lt j (page n).count ≡ false = grind (arith, nat_tests) in rw t refl)

abbrev none : Child
none = record { low = None; slot = 0 }

-- the slot of a child of the right half
right-slot : (cs : List Child) (cut j : ℕ) → (get_or (right_half cs cut) j none).slot ≡ (get_or cs (cut + j) none).slot
right-slot cs cut j = elim (cases_eq j 0) [
  | inl e ↦ (
      let at : cut + 0 ≡ cut = omega arith in
      subst (λ z. (get_or (right_half cs cut) z none).slot ≡ (get_or cs (cut + z) none).slot) (sym e) (ap (λ z. (get_or cs z none).slot) (sym at)))
  | inr ne ↦ (
      let e : j - 1 + 1 ≡ j = omega (arith, ne) in
      subst (λ z. (get_or (right_half cs cut) z none).slot ≡ (get_or cs (cut + z) none).slot) e (ap (λ (z : Child). z.slot) (right-later cs cut (j - 1) none)))
]

module _ (nodes : ℕ) (old : ℕ → ℕ) (cs : List Child) (low high : Option (List ℕ)) (level cut : ℕ) (s : IsSplitInner cs low high) (c : IsParting cs cut) (at : StandsAtLevel nodes cs level) (tells : HasChildren old cs) where
  h : AreInnerHalves cs low high cut
  h = part-in-halves cs low high cut s c

  abbrev sep : List ℕ
  sep = separator_of cs cut

  abbrev left : ℕ → ℕ
  left = node_of (left_words cs low level cut)

  abbrev right : ℕ → ℕ
  right = node_of (right_words cs high level cut)

  left-inner : IsInnerOf nodes left (take cut cs) level low (Some sep)
  left-inner = made_inners_are_whole nodes (take cut cs) level low (Some sep) h.left_each s.low_bound h.separator h.left (All-take (λ (z : Child). z.slot < nodes) cut cs at.slots) at.inner at.lowest (omega (arith, h.left_room))

  right-slots : All (λ (z : Child). z.slot < nodes) (right_half cs cut)
  right-slots = right-all cs low high cut s c (λ (z : Child). z.slot < nodes) at.slots (at.slots cut none h.more)

  right-inner : IsInnerOf nodes right (right_half cs cut) level (Some sep) high
  right-inner = made_inners_are_whole nodes (right_half cs cut) level (Some sep) high h.right_each h.separator s.high_bound h.right right-slots at.inner at.lowest (omega (arith, h.right_room))

  long-left : length (take cut cs) ≡ cut
  long-left = left-count cs cut h.more

  long-right : length (right_half cs cut) + cut ≡ length cs
  long-right = right-count cs cut h.more

  child-left : (j : ℕ) → j < cut → child_of left j ≡ child_of old j
  child-left j l = left-inner.child j none (omega (arith, l, long-left)) ∙ (ap (λ (z : Child). z.slot) (left-child cs cut j none l) ∙ sym (tells.child j (omega (arith, l, h.more))))

  key-left : (j : ℕ) → j < cut → key_of left j ≡ key_of old j
  key-left j l = left-inner.key j none (omega (arith, l, long-left)) ∙ (ap (λ (z : Child). bound_of z.low) (left-child cs cut j none l) ∙ sym (tells.key j (omega (arith, l, h.more))))

  child-right : (j : ℕ) → child_of right j ≡ child_of old (j + cut)
  child-right j = elim (cases_lt (j + cut) (length cs)) [
    | inl within ↦ (
        let e : cut + j ≡ j + cut = omega arith in
        right-inner.child j none (omega (arith, within, long-right)) ∙ (right-slot cs cut j ∙ (ap (λ z. (child_at cs z).slot) e ∙ sym (tells.child (j + cut) within))))
    | inr past ↦ child-past right j (omega (arith, past, right-inner.count, long-right)) ∙ sym (child-past old (j + cut) (omega (arith, past, tells.count)))
  ]

  key-right : (j : ℕ) → 0 < j → key_of right j ≡ key_of old (j + cut)
  key-right j some = elim (cases_lt (j + cut) (length cs)) [
    | inl within ↦ (
        let e : j - 1 + 1 ≡ j = omega (arith, some) in
        let on : cut + (j - 1 + 1) ≡ j + cut = omega (arith, some) in
        let is : get_or (right_half cs cut) j none ≡ get_or cs (j + cut) none =
        ap (λ z. get_or (right_half cs cut) z none) (sym e) ∙ (right-later cs cut (j - 1) none ∙ ap (λ z. get_or cs z none) on) in
        right-inner.key j none (omega (arith, within, long-right)) ∙ (ap (λ (z : Child). bound_of z.low) is ∙ sym (tells.key (j + cut) within)))
    | inr past ↦ key-past right j (omega (arith, past, right-inner.count, long-right)) ∙ sym (key-past old (j + cut) (omega (arith, past, tells.count)))
  ]

  parted : Halves (children_told old) (children_told left) (children_told right) cut sep
  parted = record {
    some = h.some;
    more = omega (arith, h.more, tells.count);
    count_l = left-inner.count ∙ long-left;
    count_r = omega (arith, right-inner.count, long-right, tells.count);
    child_l = child-left;
    key_l = key-left;
    child_r = child-right;
    key_r = key-right;
    parted = tells.key cut h.more;
  }

pub are-inner : HalvesAreInner
are-inner nodes old cs low high level cut s c at tells = record {
  left = left-inner nodes old cs low high level cut s c at tells;
  right = right-inner nodes old cs low high level cut s c at tells;
  halves = parted nodes old cs low high level cut s c at tells;
}
