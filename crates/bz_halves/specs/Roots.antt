-- A new root over two leaves.
use Rattle.std.specs.Prelude.{ℕ, List, [], ◌∷◌, Some, None}
use Rattle.bz_node.specs.Records.{inner_words}
use Rattle.bz_node.specs.declared.child.Child.{Child}

-- its children: the first has no lower bound, and the second that of the right half
abbrev pub root_children : ℕ → ℕ → List ℕ → List Child
root_children left right separator = record { low = None; slot = left } ∷ record { low = Some separator; slot = right } ∷ []

-- its words: it stands above leaves, and holds every key
abbrev pub root_words : ℕ → ℕ → List ℕ → List ℕ
root_words left right separator = inner_words (root_children left right separator) None None 1
