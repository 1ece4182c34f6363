-- The two inner nodes into which one is split, told of the words that were read of it.
use Rattle.std.specs.Prelude.{◌≡◌, ℕ, ◌^◌, ◌<◌, List, All, length, Option, Some, None}
use Rattle.bz_key.specs.Bytes.{IsKey}
use Rattle.bz_layout.specs.declared.sizes.TheConstants.{NODE_WORDS}
use Rattle.bz_layout.specs.declared.thresholds.TheConstants.{INNER_LIMIT}
use Rattle.bz_node.specs.Reading.{children_in}
use Rattle.bz_node.specs.Records.{IsAbove, IsBelow}
use Rattle.bz_tree.specs.Slots.{Halves}
use Rattle.bz_slotted.specs.ReadingLaws.{node_of}
use Rattle.bz_slotted.specs.Rules.{node_fault}
use Rattle.bz_halves.specs.Parents.{children_told}
use Rattle.bz_parted.specs.Parting.{child_words, IsParting, separator_of, left_words, right_words}
use Rattle.bz_branch.specs.Nodes.{IsInnerNode}

-- the words are those of an inner node that is above its limit
pub record IsFullNode (read : List ℕ) : Type 0 where
  pub nodes : ℕ
  pub level : ℕ
  pub low : Option (List ℕ)
  pub high : Option (List ℕ)
  pub node : IsInnerNode nodes read level low high
  pub many : INNER_LIMIT < child_words (children_in read)

-- where the words are those of a node at this level between these bounds, the separator is a key between them, and not the lower
-- one; the halves break no rule at the level, the one up to the separator and the other from it on, and have the node's children
-- between them
pub record AreHalvesOfNode (nodes : ℕ) (read left right sep : List ℕ) (level : ℕ) (low high : Option (List ℕ)) : Type 0 where
  pub cut : ℕ
  pub is_cut : IsParting (children_in read) cut
  pub separator_is : sep ≡ separator_of (children_in read) cut
  pub left_is : left ≡ left_words (children_in read) low level cut
  pub right_is : right ≡ right_words (children_in read) high level cut
  pub separator : IsKey sep
  pub above : IsAbove low sep
  pub below : IsBelow high sep
  pub left_whole : node_fault nodes (node_of left) (node_of left) level low (Some sep) ≡ None
  pub right_whole : node_fault nodes (node_of right) (node_of right) level (Some sep) high ≡ None
  pub halves : Halves (children_told (node_of read)) (children_told (node_of left)) (children_told (node_of right)) cut sep
  pub left_size : length left ≡ NODE_WORDS
  pub right_size : length right ≡ NODE_WORDS
  pub left_plain : All (λ v. v < 2 ^ 61) left
  pub right_plain : All (λ v. v < 2 ^ 61) right

-- that is so at whatever level and between whatever bounds the words are a node's
abbrev pub ArePartsOfNode : (read left right sep : List ℕ) → Type 0
ArePartsOfNode read left right sep = (nodes level : ℕ) (low high : Option (List ℕ)) → IsInnerNode nodes read level low high → AreHalvesOfNode nodes read left right sep level low high
