-- The two leaves into which a leaf is split, told of words alone.
use Rattle.std.specs.Prelude.{◌≡◌, ℕ, ◌^◌, ◌<◌, true, false, List, All, length, Option, Some, None}
use Rattle.bz_key.specs.Bytes.{IsKey}
use Rattle.bz_layout.specs.declared.sizes.TheConstants.{NODE_WORDS}
use Rattle.bz_node.specs.Records.{IsAbove, IsBelow}
use Rattle.bz_tree.specs.Order.{is_before}
use Rattle.bz_slotted.specs.Readers.{found_of}
use Rattle.bz_slotted.specs.ReadingLaws.{node_of}
use Rattle.bz_slotted.specs.Rules.{node_fault}
use Rattle.bz_halves.specs.Halves.{IsCut, separator_of, left_words, right_words}
use Rattle.bz_renew.specs.Sorted.{IsSortedLeaf}

-- they are the halves of the leaf's records, in the order of their keys, between its fences
pub record AreHalvesFrom (words left right sep : List ℕ) : Type 0 where
  pub pairs : List (List ℕ × List ℕ)
  pub low : Option (List ℕ)
  pub high : Option (List ℕ)
  pub cut : ℕ
  pub leaf : IsSortedLeaf words pairs low high
  pub is_cut : IsCut pairs cut
  pub separator : sep ≡ separator_of pairs cut
  pub left_is : left ≡ left_words pairs low cut
  pub right_is : right ≡ right_words pairs high cut

-- between whatever bounds the words are a leaf, the separator lies between them, and is not the lower one, and the parts are two,
-- the one up to the separator and the other from it on; of each key one of them says what the leaf says
pub record ArePartsOf (words left right sep : List ℕ) : Type 0 where
  pub halves : AreHalvesFrom words left right sep
  pub separator : IsKey sep
  pub above : (nodes : ℕ) (low high : Option (List ℕ)) → node_fault nodes (node_of words) (node_of words) 0 low high ≡ None → IsAbove low sep
  pub below : (nodes : ℕ) (low high : Option (List ℕ)) → node_fault nodes (node_of words) (node_of words) 0 low high ≡ None → IsBelow high sep
  pub left_whole : (nodes : ℕ) (low high : Option (List ℕ)) → node_fault nodes (node_of words) (node_of words) 0 low high ≡ None → node_fault nodes (node_of left) (node_of left) 0 low (Some sep) ≡ None
  pub right_whole : (nodes : ℕ) (low high : Option (List ℕ)) → node_fault nodes (node_of words) (node_of words) 0 low high ≡ None → node_fault nodes (node_of right) (node_of right) 0 (Some sep) high ≡ None
  pub before : (key : List ℕ) → is_before key sep ≡ true → found_of (node_of left) key ≡ found_of (node_of words) key
  pub from : (key : List ℕ) → is_before key sep ≡ false → found_of (node_of right) key ≡ found_of (node_of words) key
  pub left_size : length left ≡ NODE_WORDS
  pub right_size : length right ≡ NODE_WORDS
  pub left_plain : All (λ v. v < 2 ^ 61) left
  pub right_plain : All (λ v. v < 2 ^ 61) right
