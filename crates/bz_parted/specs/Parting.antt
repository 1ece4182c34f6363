-- An inner node that is split: its children are parted into a left and a right half, and the key between them goes up.
use Rattle.std.specs.Prelude.{ℕ, ◌+◌, ◌*◌, ◌<◌, ◌≤◌, List, ◌∷◌, map, take, drop, Option, Some, None}
use Rattle.bz_node.specs.Layout.{bound_of, needed}
use Rattle.bz_node.specs.Records.{child_entry, inner_words}
use Rattle.bz_node.specs.declared.child.Child.{Child}
use Rattle.bz_halves.specs.Parents.{child_at}

-- the words that children take in an inner node: a metadata word each, their lower bounds and their pointers
abbrev pub child_words : List Child → ℕ
child_words children = needed (map child_entry children)

-- so many children go to the left: the fewest whose words, doubled, are at least the words of all
pub record IsParting (children : List Child) (cut : ℕ) : Type 0 where
  pub enough : child_words children ≤ 2 * child_words (take cut children)
  pub fewest : (k : ℕ) → k < cut → 2 * child_words (take k children) < child_words children

-- the key of the right half's first child, which parts the two
abbrev pub separator_of : List Child → ℕ → List ℕ
separator_of children cut = bound_of (child_at children cut).low

-- the right half: its first child keeps no key
abbrev pub right_half : List Child → ℕ → List Child
right_half children cut = record { low = None; slot = (child_at children cut).slot } ∷ drop (cut + 1) children

-- the words of the two halves, as inner nodes at a level between the fences of the one that is split
abbrev pub left_words : List Child → Option (List ℕ) → ℕ → ℕ → List ℕ
left_words children low level cut = inner_words (take cut children) low (Some (separator_of children cut)) level

abbrev pub right_words : List Child → Option (List ℕ) → ℕ → ℕ → List ℕ
right_words children high level cut = inner_words (right_half children cut) (Some (separator_of children cut)) high level
