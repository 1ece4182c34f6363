-- A leaf that is split: its records, in the order of their keys, are parted into a left and a right half.
use Rattle.std.specs.Prelude.{ℕ, ◌*◌, ◌<◌, ◌≤◌, List, [], map, take, drop, slice_index_or, Option, Some}
use Rattle.bz_node.specs.Layout.{needed}
use Rattle.bz_node.specs.Records.{pair_entry, leaf_words, keys_of}

-- the words that records take in a leaf: a metadata word each, and those of keys and payloads
abbrev pub record_words : List (List ℕ × List ℕ) → ℕ
record_words records = needed (map pair_entry records)

-- so many records go to the left: the fewest whose words, doubled, are at least the words of all
pub record IsCut (records : List (List ℕ × List ℕ)) (cut : ℕ) : Type 0 where
  pub enough : record_words records ≤ 2 * record_words (take cut records)
  pub fewest : (k : ℕ) → k < cut → 2 * record_words (take k records) < record_words records

-- the first key of the right half, which parts the two
abbrev pub separator_of : List (List ℕ × List ℕ) → ℕ → List ℕ
separator_of records cut = slice_index_or (keys_of records) cut []

-- the words of the two halves, as leaves between the fences of the one that is split
abbrev pub left_words : List (List ℕ × List ℕ) → Option (List ℕ) → ℕ → List ℕ
left_words records low cut = leaf_words (take cut records) low (Some (separator_of records cut))

abbrev pub right_words : List (List ℕ × List ℕ) → Option (List ℕ) → ℕ → List ℕ
right_words records high cut = leaf_words (drop cut records) (Some (separator_of records cut)) high
