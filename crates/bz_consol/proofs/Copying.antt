-- The records of a leaf in the order of their keys make a leaf that breaks no rule, and says what it says.
use Rattle.std.proofs.Common.{◌≡◌, ℕ, List, sym, ◌∙◌, Option}
use Rattle.std.specs.Prelude.{None}
use Rattle.bz_node.specs.Records.{leaf_words}
use Rattle.bz_slotted.specs.ReadingLaws.{node_of, IsLeafOf, MadeLeavesAreWhole}
use Rattle.bz_slotted.specs.Rules.{node_fault}
use Rattle.bz_task.specs.Laws.{SaysAlike}
use Rattle.bz_renew.specs.Sorted.{IsSortedLeaf}

pub says-alike : MadeLeavesAreWhole → (words : List ℕ) (sorted : List (List ℕ × List ℕ)) (low high : Option (List ℕ)) → IsSortedLeaf words sorted low high
    → (nodes : ℕ) (lo hi : Option (List ℕ)) → node_fault nodes (node_of words) (node_of words) 0 lo hi ≡ None → SaysAlike nodes (node_of words) (node_of (leaf_words sorted low high)) lo hi
says-alike made words sorted low high r nodes lo hi none =
    let m : IsLeafOf nodes (node_of (leaf_words sorted low high)) sorted low high = made nodes sorted low high r.pairs r.low_bound r.high_bound r.leaf r.room in
    let f = r.fences nodes lo hi none in
    record {
      whole = (λ t. node_fault nodes (node_of (leaf_words sorted low high)) (node_of (leaf_words sorted low high)) 0 (sym f.0 t) (sym f.1 t)) ∙ m.none;
      found = λ key. m.says key ∙ r.says key;
    }
