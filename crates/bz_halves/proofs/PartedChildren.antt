-- The children of a parent that has two halves in the place of a child, as they are read from the words of the old one.
use Rattle.std.proofs.Common.{◌≡◌, ℕ, ◌+◌, ◌-◌, ◌<◌, ◌≤◌, List, length, take, get_or, arith, sym, ap, subst, ◌∙◌}
use Rattle.std.specs.Prelude.{Some, None}
use Rattle.std.proofs.lemmas.List.{ext_get_or, get_or-take, length-take-le}
use Rattle.std.proofs.lemmas.List.FromFn.{length-map-range_with_len, get_or-map-range_with_len}
use Rattle.bz_node.specs.Reading.{children_in, child_in, count_in}
use Rattle.bz_node.specs.declared.child.Child.{Child}
use Rattle.bz_halves.specs.Parents.{child_at, parted}
use Rattle.bz_halves.proofs.Parents.{count, at-sep, at-high, at-half, at-before}

abbrev none : Child
none = record { low = None; slot = 0 }

pub children-count : (words : List ℕ) → length (children_in words) ≡ count_in words
children-count words = length-map-range_with_len (child_in words) 0 (count_in words)

pub child-read : (words : List ℕ) (j : ℕ) → j < count_in words → child_at (children_in words) j ≡ child_in words j
child-read words j l = get_or-map-range_with_len (child_in words) 0 (count_in words) j j none l (omega arith)

module _ (words : List ℕ) (i left right : ℕ) (sep : List ℕ) (within : i < count_in words) where
  abbrev cs : List Child
  cs = children_in words

  counted : i < length cs
  counted = omega (arith, within, children-count words)

  pub count-parted : length (parted cs i left right sep) ≡ count_in words + 1
  count-parted = omega (arith, count cs i left right sep counted, children-count words)

  pub child-before : (j : ℕ) → j < i → child_in words j ≡ child_at (parted cs i left right sep) j
  child-before j l = sym (at-before cs i left right sep counted j none l ∙ child-read words j (omega (arith, l, within)))

  pub child-left : (j : ℕ) → j ≡ i → record { low = (child_in words j).low; slot = left } ≡ child_at (parted cs i left right sep) j
  child-left j e = subst (λ z. record { low = (child_in words z).low; slot = left } ≡ child_at (parted cs i left right sep) z) (sym e)
      (sym (at-half cs i left right sep counted none ∙ ap (λ (z : Child). record { low = z.low; slot = left }) (child-read words i within)))

  pub child-right : (j : ℕ) → j ≡ i + 1 → record { low = Some sep; slot = right } ≡ child_at (parted cs i left right sep) j
  child-right j e = subst (λ z. record { low = Some sep; slot = right } ≡ child_at (parted cs i left right sep) z) (sym e) (sym (at-sep cs i left right sep counted none))

  pub child-after : (j : ℕ) → i + 1 < j → j ≤ count_in words → child_in words (j - 1) ≡ child_at (parted cs i left right sep) j
  child-after j l past =
      let e : j - 1 + 1 ≡ j = omega (arith, l) in
      subst (λ z. child_in words (j - 1) ≡ child_at (parted cs i left right sep) z) e
      (sym (at-high cs i left right sep counted (j - 1) none (omega (arith, l)) ∙ child-read words (j - 1) (omega (arith, l, past))))

  -- a row of children that begins with these
  pub row-is : (row : List Child) → count_in words + 1 ≤ length row → ((k : ℕ) → k < count_in words + 1 → child_at row k ≡ child_at (parted cs i left right sep) k) → take (count_in words + 1) row ≡ parted cs i left right sep
  row-is row long each = ext_get_or none (take (count_in words + 1) row) (parted cs i left right sep) (omega (arith, length-take-le (count_in words + 1) row long, count-parted))
      (λ k l. (let inside : k < count_in words + 1 = omega (arith, l, length-take-le (count_in words + 1) row long) in get_or-take (count_in words + 1) row k none inside ∙ each k inside))
