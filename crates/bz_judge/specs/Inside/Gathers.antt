-- The content of a well-formed image on its way: the leaves behind gave their records, each leaf in the order of its keys.
use Rattle.std.specs.Prelude.{◌≡◌, ℕ, List, ◌++◌, length, slice_index}
use Rattle.std.specs.Cmp.Lexicographic.{slice_cmp}
use Rattle.std.specs.FinMap.{from_entries, entries}
use Rattle.std.specs.Ordering.{nat_cmp}
use Rattle.bz_content.specs.Content.{image_of, view_in}
use Rattle.bz_content.specs.Map.{records_in}
use Rattle.bz_layout.specs.declared.config.Config.{Config}
use Rattle.bz_tree.specs.Content.{Pairs, pairs_of}
use Rattle.bz_tree.specs.Stack.{pending}
use Rattle.bz_tree.specs.View.{View}
use Rattle.bz_tree.specs.Walk.{Visit, walk}
use Rattle.bz_judge.specs.Inside.Stacks.{AreBelow}

-- records in the order of their keys
unfoldable pub in_order : Pairs → Pairs
in_order records = entries {R = slice_cmp nat_cmp} (from_entries records)

-- the walk over a view has this stack before it, and these are the pairs of what is behind
pub record Gathers (v : View) (records : ℕ → Pairs) (stack : List Visit) (pairs : Pairs) : Type 0 where
  pub behind : List Visit
  pub whole : walk v ≡ behind ++ pending v stack
  pub gathered : pairs ≡ pairs_of (λ k. in_order (records k)) behind
  pub below : AreBelow v.top stack

-- the same over an image
abbrev pub IsGathering : Config → List ℕ → List Visit → Pairs → Type 0
IsGathering c image stack pairs = Gathers (view_in c (slice_index image)) (records_in c (image_of (slice_index image))) stack pairs

-- how many visits a walk with this stack before it still makes
abbrev pub to_come : Config → List ℕ → List Visit → ℕ
to_come c image stack = length (pending (view_in c (slice_index image)) stack)
