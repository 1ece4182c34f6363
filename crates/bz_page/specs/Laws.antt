-- What a view says of its leaf, and what is found among pairs in the order of their keys.
use Rattle.std.specs.Prelude.{◌≡◌, ℕ, List}
use Rattle.std.specs.Cmp.Lexicographic.{slice_cmp}
use Rattle.std.specs.FinMap.{find}
use Rattle.std.specs.List.Sorted.{IsPermutation}
use Rattle.std.specs.Ordering.{nat_cmp}
use Rattle.bz_slotted.specs.FromNode.Records.{AreRising, keys_of}
use Rattle.bz_tree.specs.Form.{Holds}
use Rattle.bz_slotted.specs.ReadingLaws.{node_of}
use Rattle.bz_slotted.specs.Readers.{found_of, live_of}
use Rattle.bz_task.specs.Good.{IsGood}
use Rattle.bz_task.specs.Instant.{durable, form_at}
use Rattle.bz_task.specs.Outcomes.{IsView}
use Rattle.bz_task.specs.Scene.{Past}
use Rattle.bz_task.specs.declared.view.LeafView.{LeafView}

-- the viewed slot holds the key, and the view says of each key what that leaf of the image says, and has as many live words
pub record IsSaidBy (from : List ℕ) (view : LeafView) (p : Past) : Type 0 where
  pub holds : Holds (form_at p.config (p.at view.at)) from view.slot
  pub says : (key : List ℕ) → found_of (node_of view.image.0) key ≡ found_of (durable p.config (p.at view.at) view.slot) key
  pub live : live_of (node_of view.image.0) ≡ live_of (durable p.config (p.at view.at) view.slot)

abbrev pub ViewsSayWhatImagesSay : Type 0
ViewsSayWhatImagesSay = (from : List ℕ) (view : LeafView) (p : Past) → IsView from view p → IsGood p.config (p.at view.at) → IsSaidBy from view p

abbrev pub OrderedPairsAreFound : Type 0
OrderedPairsAreFound = (key : List ℕ) (xs ys : List (List ℕ × List ℕ)) → IsPermutation xs ys → AreRising (keys_of ys) → find (slice_cmp nat_cmp) key ys ≡ find (slice_cmp nat_cmp) key xs
