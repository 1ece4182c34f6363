-- The halves as they are made of rows of children, read from the words of the old node.
use Rattle.std.proofs.Common.{◌≡◌, ℕ, ◌+◌, ◌-◌, ◌<◌, ◌≤◌, List, length, take, arith, sym, ap, subst, ◌∙◌}
use Rattle.std.specs.Prelude.{Some, None}
use Rattle.std.proofs.lemmas.List.{ext_get_or, get_or-take, length-take-le, length-take}
use Rattle.bz_node.specs.Reading.{children_in, child_in, count_in}
use Rattle.bz_node.specs.declared.child.Child.{Child}
use Rattle.bz_halves.specs.Parents.{child_at}
use Rattle.bz_halves.proofs.PartedChildren.{children-count, child-read}
use Rattle.bz_node.specs.Layout.{bound_of}
use Rattle.bz_parted.specs.Parting.{separator_of, right_half}
use Rattle.bz_parted.proofs.Parting.{right-count, right-later}

abbrev none : Child
none = record { low = None; slot = 0 }

-- a row whose first children are those of a list, up to its end
pub row-is : (row cs : List Child) (count : ℕ) → count ≤ length row → length cs ≡ count → ((k : ℕ) → k < count → child_at row k ≡ child_at cs k) → take count row ≡ cs
row-is row cs count long size each =
    ext_get_or none (take count row) cs (omega (arith, length-take-le count row long, size))
    (λ k l. (let inside : k < count = omega (arith, l, length-take-le count row long) in get_or-take count row k none inside ∙ each k inside))

-- the first children of a node
pub left-row : (words : List ℕ) (row : List Child) (cut : ℕ) → cut ≤ count_in words → cut ≤ length row → ((k : ℕ) → k < cut → child_at row k ≡ child_in words k) → take cut row ≡ take cut (children_in words)
left-row words row cut within long each =
    row-is row (take cut (children_in words)) cut long (omega (arith, length-take cut (children_in words), children-count words, within))
    (λ k l. each k l ∙ sym (get_or-take cut (children_in words) k none l ∙ child-read words k (omega (arith, l, within))))

-- the others, the first of them without a lower bound
pub first-right : (words : List ℕ) (cut j : ℕ) → cut + j < count_in words → j ≡ 0 → record { low = None; slot = (child_in words (cut + j)).slot } ≡ child_at (right_half (children_in words) cut) j
first-right words cut j l e =
    let at : cut + 0 ≡ cut = omega arith in
    subst (λ z. record { low = None; slot = (child_in words (cut + z)).slot } ≡ child_at (right_half (children_in words) cut) z) (sym e)
    (ap (λ z. record { low = None; slot = (child_in words z).slot }) at ∙ ap (λ (c : Child). record { low = None; slot = c.slot }) (sym (child-read words cut (omega (arith, l)))))

pub later-right : (words : List ℕ) (cut j : ℕ) → cut + j < count_in words → 0 < j → child_in words (cut + j) ≡ child_at (right_half (children_in words) cut) j
later-right words cut j l some =
    let e : j - 1 + 1 ≡ j = omega (arith, some) in
    subst (λ z. child_in words (cut + z) ≡ child_at (right_half (children_in words) cut) z) e
    (sym (right-later (children_in words) cut (j - 1) none ∙ child-read words (cut + (j - 1 + 1)) (omega (arith, l, e))))

pub right-row : (words : List ℕ) (row : List Child) (cut count : ℕ) → count + cut ≡ count_in words → 0 < count → count ≤ length row → ((k : ℕ) → k < count → child_at row k ≡ child_at (right_half (children_in words) cut) k) → take count row ≡ right_half (children_in words) cut
right-row words row cut count all some long each =
    row-is row (right_half (children_in words) cut) count long (omega (arith, right-count (children_in words) cut (omega (arith, all, some, children-count words)), children-count words, all)) each

-- the key at the cut
pub separator-read : (words : List ℕ) (cut : ℕ) (child : Child) (sep : List ℕ) → cut < count_in words → child ≡ child_in words cut → child.low ≡ Some sep → sep ≡ separator_of (children_in words) cut
separator-read words cut child sep l is low =
    ap bound_of (sym low) ∙ (ap (λ (z : Child). bound_of z.low) is ∙ ap (λ (z : Child). bound_of z.low) (sym (child-read words cut l)))
