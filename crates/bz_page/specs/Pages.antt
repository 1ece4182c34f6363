-- What a page shows: of the leaf's words by themselves, and of the image that they were read from.
use Rattle.std.specs.Prelude.{◌≡◌, ℕ, ◌&&◌, if◌then◌else◌, true, List, filter, Option, None}
use Rattle.std.specs.Cmp.Lexicographic.{slice_cmp}
use Rattle.std.specs.FinMap.{find, is_sorted}
use Rattle.std.specs.Ordering.{nat_cmp}
use Rattle.bz_task.specs.FromCall.Pages.{is_from}
use Rattle.bz_task.specs.FromContent.Content.{content_in, leaf_end_in}
use Rattle.bz_slotted.specs.FromLayout.Config.{Config}
use Rattle.bz_slotted.specs.FromNode.Reading.{AreInKeyOrder}
use Rattle.bz_tree.specs.Order.{is_below}
use Rattle.bz_slotted.specs.ReadingLaws.{node_of}
use Rattle.bz_slotted.specs.Rules.{node_fault}

-- between some bounds these words are a leaf that breaks no rule, so that they can be read
pub record IsLeafByItself (words : List ℕ) : Type 0 where
  pub nodes : ℕ
  pub low : Option (List ℕ)
  pub high : Option (List ℕ)
  pub whole : node_fault nodes (node_of words) (node_of words) 0 low high ≡ None

-- the pairs are these records, in the order of their keys, but for those with a key before this one
pub record AreRecordsFrom (from : List ℕ) (shown pairs : List (List ℕ × List ℕ)) : Type 0 where
  pub all : List (List ℕ × List ℕ)
  pub order : AreInKeyOrder shown all
  pub rest : pairs ≡ filter (λ pair. is_from from pair.0) all

-- the page of an image from a key on: what it ends at is the end of the key's leaf, its keys rise, and looking one up answers as
-- the image does from the key on and before the end, and nothing elsewhere
pub record IsPageOf (c : Config) (image : ℕ → ℕ) (from : List ℕ) (pairs : List (List ℕ × List ℕ)) (end : Option (List ℕ)) : Type 0 where
  pub next : end ≡ leaf_end_in c image from
  pub rises : is_sorted (slice_cmp nat_cmp) pairs ≡ true
  pub finds : (key : List ℕ) → find (slice_cmp nat_cmp) key pairs ≡ (if is_from from key && is_below key end then content_in c image key else None)
