-- The children of a parent of which two are made one, as they are read from the words of the old one.
use Rattle.std.proofs.Common.{◌≡◌, ℕ, ◌+◌, ◌-◌, ◌<◌, ◌≤◌, List, length, take, arith, sym, ap, subst, ◌∙◌}
use Rattle.std.proofs.lemmas.List.{ext_get_or, get_or-take, length-take-le}
use Rattle.bz_node.specs.Reading.{children_in, child_in, count_in}
use Rattle.bz_node.specs.declared.child.Child.{Child}
use Rattle.bz_halves.specs.Parents.{child_at}
use Rattle.bz_halves.proofs.PartedChildren.{children-count, child-read}
use Rattle.bz_join.specs.Parents.{joined}
use Rattle.bz_join.proofs.Children.{none, count, at-before, at-one, at-after}

module _ (words : List ℕ) (i slot : ℕ) (within : i + 1 < count_in words) where
  abbrev cs : List Child
  cs = children_in words

  two : i + 1 < length cs
  two = omega (arith, within, children-count words)

  pub count-joined : length (joined cs i slot) + 1 ≡ count_in words
  count-joined = omega (arith, count cs i slot two, children-count words)

  pub child-before : (j : ℕ) → j < i → child_in words j ≡ child_at (joined cs i slot) j
  child-before j l = sym (at-before cs i slot two j none l ∙ child-read words j (omega (arith, l, within)))

  pub child-one : (j : ℕ) → j ≡ i → record { low = (child_in words j).low; slot = slot } ≡ child_at (joined cs i slot) j
  child-one j e = subst (λ z. record { low = (child_in words z).low; slot = slot } ≡ child_at (joined cs i slot) z) (sym e)
      (sym (at-one cs i slot two none ∙ ap (λ (z : Child). record { low = z.low; slot = slot }) (child-read words i (omega (arith, within)))))

  pub child-after : (j : ℕ) → i < j → j + 1 < count_in words → child_in words (j + 1) ≡ child_at (joined cs i slot) j
  child-after j l m = sym (at-after cs i slot two j none l ∙ child-read words (j + 1) m)

  -- a row of children that begins with these
  pub row-is : (row : List Child) → count_in words - 1 ≤ length row → ((k : ℕ) → k < count_in words - 1 → child_at row k ≡ child_at (joined cs i slot) k) → take (count_in words - 1) row ≡ joined cs i slot
  row-is row long each = ext_get_or none (take (count_in words - 1) row) (joined cs i slot) (omega (arith, length-take-le (count_in words - 1) row long, count-joined))
      (λ k l. (let inside : k < count_in words - 1 = omega (arith, l, length-take-le (count_in words - 1) row long) in get_or-take (count_in words - 1) row k none inside ∙ each k inside))
