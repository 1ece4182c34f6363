-- The stack of a walk as the program keeps it, the topmost visit last.
use Rattle.std.specs.Prelude.{◌≡◌, ℕ, ◌<◌, List, [], ◌∷◌, map, reverse}
use Rattle.bz_judge.specs.declared.visit.Visit.{Visit as Coming}
use Rattle.bz_tree.specs.View.{View}
use Rattle.bz_tree.specs.Walk.{Visit}
use Rattle.bz_slotted.specs.ReadingLaws.{node_of}
use Rattle.bz_slotted.specs.Readers.{count_of, child_of, key_of}

-- a visit as the walk knows it
abbrev pub visit_of : Coming → Visit
visit_of u = record { slot = u.slot; level = u.place.level; low = u.place.low; high = u.place.high; up = u.up; index = u.index }

-- the stack, the topmost visit first
unfoldable pub stack_of : List Coming → List Visit
stack_of coming = map visit_of (reverse coming)

-- a view says of a slot what these words say
pub record Shows (v : View) (k : ℕ) (words : List ℕ) : Type 0 where
  pub count : v.count k ≡ count_of (node_of words)
  pub child : (i : ℕ) → v.child k i ≡ child_of (node_of words) i
  pub key : (i : ℕ) → v.key k i ≡ key_of (node_of words) i

-- the visits are to node slots
abbrev pub AreBelow : ℕ → List Visit → Type 0
AreBelow nodes [] = Unit {0}
AreBelow nodes (u ∷ us) = (u.slot < nodes) × AreBelow nodes us
