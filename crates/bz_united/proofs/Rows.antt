-- The children of both, as they are read from the words of the two.
use Rattle.std.proofs.Common.{◌≡◌, ℕ, suc, ◌+◌, ◌-◌, ◌<◌, ◌≤◌, List, length, take, get_or, arith, sym, ap, ◌∙◌}
use Rattle.std.specs.Prelude.{Some}
use Rattle.std.proofs.lemmas.List.{ext_get_or, get_or-take, length-take-le, length-append, get_or_append_left, get_or-append-add}
use Rattle.bz_node.specs.Reading.{children_in, child_in, count_in}
use Rattle.bz_node.specs.declared.child.Child.{Child}
use Rattle.bz_halves.specs.Parents.{child_at}
use Rattle.bz_halves.proofs.PartedChildren.{children-count, child-read}
use Rattle.bz_united.specs.Uniting.{bounded, united}
use Rattle.bz_united.proofs.Children.{none, later-bounded, long-bounded}

module _ (left right sep : List ℕ) (some : 0 < count_in right) where
  abbrev ls : List Child
  ls = children_in left

  abbrev rs : List Child
  rs = children_in right

  abbrev both : List Child
  both = united ls rs sep

  pub count-united : length both ≡ count_in left + count_in right
  count-united = omega (arith, length-append ls (bounded rs sep), long-bounded rs sep (omega (arith, some, children-count right)), children-count left, children-count right)

  pub child-left : (j : ℕ) → j < count_in left → child_in left j ≡ child_at both j
  child-left j l = sym (get_or_append_left ls (bounded rs sep) none j (omega (arith, l, children-count left)) ∙ child-read left j l)

  in-right : (j : ℕ) → child_at both (count_in left + j) ≡ get_or (bounded rs sep) j none
  in-right j = ap (λ z. get_or both (z + j) none) (sym (children-count left)) ∙ get_or-append-add ls (bounded rs sep) j none

  pub child-middle : (j : ℕ) → j ≡ count_in left → record { low = Some sep; slot = (child_in right 0).slot } ≡ child_at both j
  child-middle j e =
      let at : count_in left + 0 ≡ j = omega (arith, e) in
      ap (λ (c : Child). record { low = Some sep; slot = c.slot }) (sym (child-read right 0 some)) ∙ (sym (in-right 0) ∙ ap (λ z. child_at both z) at)

  pub child-right : (j : ℕ) → count_in left < j → j < count_in left + count_in right → child_in right (j - count_in left) ≡ child_at both j
  child-right j past l =
      let e : j - count_in left ≡ suc (j - count_in left - 1) = omega (arith, past) in
      let at : count_in left + suc (j - count_in left - 1) ≡ j = omega (arith, past) in
      let inside : suc (j - count_in left - 1) < count_in right = omega (arith, past, l) in
      ap (child_in right) e ∙ (sym (child-read right (suc (j - count_in left - 1)) inside) ∙ (sym (later-bounded rs sep (j - count_in left - 1) none) ∙ (sym (in-right (suc (j - count_in left - 1))) ∙ ap (λ z. child_at both z) at)))

  -- a row of children that begins with these
  pub row-is : (row : List Child) (count : ℕ) → count ≡ count_in left + count_in right → count ≤ length row → ((k : ℕ) → k < count → child_at row k ≡ child_at both k) → take count row ≡ both
  row-is row count is long each = ext_get_or none (take count row) both (omega (arith, length-take-le count row long, count-united, is))
      (λ k l. (let inside : k < count = omega (arith, l, length-take-le count row long) in get_or-take count row k none inside ∙ each k inside))
