-- What is read from a whole tree: the end of a leaf, and the content as a map.
use Rattle.std.specs.Prelude.{ℕ, ◌==◌, if◌then◌else◌, List, [], ◌∷◌, ◌++◌, Option}
use Rattle.std.specs.Cmp.Lexicographic.{slice_cmp}
use Rattle.std.specs.Ordering.{nat_cmp}
use Rattle.std.specs.FinMap.{FinMap, from_entries}
use Rattle.bz_tree.specs.View.{View}
use Rattle.bz_tree.specs.Descent.{leaf_of}
use Rattle.bz_tree.specs.Walk.{Visit, walk, form}

-- the high bound of the leaf of a key: no key of the leaf is as high, and the next leaf begins there
abbrev pub leaf_end : View → List ℕ → Option (List ℕ)
leaf_end v key = (form v).high (leaf_of v key)

-- records: keys with their payloads
abbrev pub Pairs : Type 0
Pairs = List (List ℕ × List ℕ)

-- the records of the leaves that a walk comes to, in its order, of a function from a leaf to its records
unfoldable pub pairs_of : (ℕ → Pairs) → List Visit → Pairs
pairs_of pairs [] = []
pairs_of pairs (u ∷ us) = (if u.level == 0 then pairs u.slot else []) ++ pairs_of pairs us

-- the content as a map: the union of the records of the reached leaves
abbrev pub map_of : View → (ℕ → Pairs) → FinMap (slice_cmp nat_cmp) (List ℕ)
map_of v pairs = from_entries (pairs_of pairs (walk v))
