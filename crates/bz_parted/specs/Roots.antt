-- A new root over two inner nodes.
use Rattle.std.specs.Prelude.{ℕ, List, None}
use Rattle.bz_node.specs.Records.{inner_words}
use Rattle.bz_halves.specs.Roots.{root_children}

-- its words at a level: it holds every key
abbrev pub tall_root_words : ℕ → ℕ → List ℕ → ℕ → List ℕ
tall_root_words left right separator level = inner_words (root_children left right separator) None None level
