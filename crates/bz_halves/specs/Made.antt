-- The two leaves into which one is split, as images.
use Rattle.std.specs.Prelude.{◌≡◌, ℕ, List, Option}
use Rattle.bz_halves.specs.Halves.{IsCut, separator_of, left_words, right_words}
use Rattle.bz_halves.specs.declared.halves.Halves.{Halves}

-- the records are cut, and the halves' words are those of the two leaves
pub record AreHalvesOf (records : List (List ℕ × List ℕ)) (low high : Option (List ℕ)) (halves : Halves) : Type 0 where
  pub cut : ℕ
  pub is_cut : IsCut records cut
  pub separator : halves.separator ≡ separator_of records cut
  pub left : halves.left.0 ≡ left_words records low cut
  pub right : halves.right.0 ≡ right_words records high cut
