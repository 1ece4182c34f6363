-- An inner node has one cut, and so its halves have one separator.
use Rattle.std.proofs.Common.{◌≡◌, ℕ, List, arith, sym, ap, ◌∙◌, inl, inr, Option}
use Rattle.std.proofs.lemmas.Bool.{cases_lt}
use Rattle.bz_node.specs.Reading.{children_in}
use Rattle.bz_node.specs.declared.child.Child.{Child}
use Rattle.bz_parted.specs.Parting.{IsParting, separator_of}
use Rattle.bz_branch.specs.Parts.{AreHalvesOfNode}

one-cut : (cs : List Child) (m n : ℕ) → IsParting cs m → IsParting cs n → m ≡ n
one-cut cs m n a b = elim (cases_lt m n) [
  | inl less ↦ absurd (omega (arith, a.enough, b.fewest m less))
  | inr past ↦ elim (cases_lt n m) [
    | inl more ↦ absurd (omega (arith, b.enough, a.fewest n more))
    | inr last ↦ omega (arith, past, last)
  ]
]

pub one-separator : (nodes : ℕ) (read left right sep other_left other_right other : List ℕ) (level : ℕ) (low high : Option (List ℕ)) → AreHalvesOfNode nodes read left right sep level low high → AreHalvesOfNode nodes read other_left other_right other level low high → sep ≡ other
one-separator nodes read left right sep other_left other_right other level low high a b =
    a.separator_is ∙ (ap (separator_of (children_in read)) (one-cut (children_in read) a.cut b.cut a.is_cut b.is_cut) ∙ sym b.separator_is)
