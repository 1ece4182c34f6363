-- The two inner nodes into which one is split, as images.
use Rattle.std.specs.Prelude.{◌≡◌, ℕ, List, Option}
use Rattle.bz_node.specs.declared.child.Child.{Child}
use Rattle.bz_parted.specs.Parting.{IsParting, separator_of, left_words, right_words}
use Rattle.bz_parted.specs.declared.halves.InnerHalves.{InnerHalves}

-- the children are parted, and the halves' words are those of the two nodes
pub record AreHalvesOf (children : List Child) (low high : Option (List ℕ)) (level : ℕ) (halves : InnerHalves) : Type 0 where
  pub cut : ℕ
  pub is_cut : IsParting children cut
  pub separator : halves.separator ≡ separator_of children cut
  pub left : halves.left.0 ≡ left_words children low level cut
  pub right : halves.right.0 ≡ right_words children high level cut
