-- The halves of an inner node above its limit, whoever reads its words.
use Rattle.std.specs.Prelude.{ℕ, ◌<◌, List, Option}
use Rattle.bz_layout.specs.declared.thresholds.TheConstants.{INNER_LIMIT}
use Rattle.bz_node.specs.Reading.{children_in}
use Rattle.bz_parted.specs.Parting.{child_words}
use Rattle.bz_branch.specs.Nodes.{IsInnerNode}
use Rattle.bz_branch.specs.Parts.{AreHalvesOfNode}

-- these words, at this level between these bounds, have halves
pub record HasHalves (nodes : ℕ) (read : List ℕ) (level : ℕ) (low high : Option (List ℕ)) : Type 0 where
  pub left : List ℕ
  pub right : List ℕ
  pub sep : List ℕ
  pub halves : AreHalvesOfNode nodes read left right sep level low high

abbrev pub FullNodesHaveHalves : Type 0
FullNodesHaveHalves = (nodes : ℕ) (read : List ℕ) (level : ℕ) (low high : Option (List ℕ)) → IsInnerNode nodes read level low high → INNER_LIMIT < child_words (children_in read) → HasHalves nodes read level low high
