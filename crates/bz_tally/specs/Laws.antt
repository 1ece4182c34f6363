-- What the swap of each task makes of the number of leaves.
use Rattle.std.specs.Prelude.{◌≡◌, ◌⊎◌, ℕ, ◌+◌, ◌<◌, ◌≤◌, List}
use Rattle.bz_branch.specs.FromBelow.Duties.{asks_below, facts_below}
use Rattle.bz_branch.specs.FromBelow.SplitBelow.{SplitBelow}
use Rattle.bz_any_task.specs.FromConsol.Duties as consol
use Rattle.bz_any_task.specs.FromConsol.Consolidate.{Consolidate}
use Rattle.bz_any_task.specs.FromCrown.Duties.{asks_crown, facts_crown}
use Rattle.bz_any_task.specs.FromCrown.SplitInnerRoot.{SplitInnerRoot}
use Rattle.bz_any_task.specs.FromFork.Duties.{asks_fork, facts_fork}
use Rattle.bz_any_task.specs.FromFork.SplitInner.{SplitInner}
use Rattle.bz_any_task.specs.FromInner.JoinDuties.{asks_joining, joining_of}
use Rattle.bz_any_task.specs.FromInner.JoinFacts.{joining_facts}
use Rattle.bz_any_task.specs.FromInner.Lower.{Lower}
use Rattle.bz_any_task.specs.FromInner.LowerDuties.{asks_lower, lowering_of}
use Rattle.bz_any_task.specs.FromInner.LowerFacts.{lower_facts}
use Rattle.bz_any_task.specs.FromInner.MergeInner.{MergeInner}
use Rattle.bz_freeze.specs.Facts.{freeze_asks, freeze_facts}
use Rattle.bz_freeze.specs.declared.freeze.Freeze.{Freeze}
use Rattle.bz_insert.specs.Duties as insert
use Rattle.bz_insert.specs.declared.insert.Insert.{Insert}
use Rattle.bz_any_task.specs.FromMerge.Duties as merge
use Rattle.bz_any_task.specs.FromMerge.Merge.{Merge}
use Rattle.bz_any_task.specs.FromMerge.MergePhase.{MergePhase}
use Rattle.bz_any_task.specs.FromMerge.MergePhase.TheVariants.{Swap}
use Rattle.bz_mutate.specs.DeleteDuties as delete
use Rattle.bz_mutate.specs.UpdateDuties as update
use Rattle.bz_mutate.specs.declared.delete.Delete.{Delete}
use Rattle.bz_mutate.specs.declared.update.Update.{Update}
use Rattle.bz_any_task.specs.Duties.{config_of, asks_of, facts_of, swaps_of}
use Rattle.bz_any_task.specs.Kinds.{kind_of}
use Rattle.bz_any_task.specs.Kinds as kinds
use Rattle.bz_any_task.specs.declared.running.AnyTask.{AnyTask}
use Rattle.bz_any_task.specs.declared.running.AnyTask.TheVariants.{Consolidating, Splitting, SplittingBelow, Merging}
use Rattle.bz_split.specs.Duties as split
use Rattle.bz_split.specs.declared.split_root.SplitRoot.{SplitRoot}
use Rattle.bz_word.specs.declared.entry.Entry.{Entry}
use Rattle.bz_task.specs.Instant.{Instant}
use Rattle.bz_task.specs.Scene.{Scene}
use Rattle.bz_tally.specs.Counts.{KeepsTheLeaves, RenewsLeaf, SplitsLeaf, MergesLeaves, leaves_now, leaves_then}
use Rattle.bz_tally.specs.Swaps.{IsOwnSwap}

-- both swaps of an insert and of an update, that of a delete and that of a freeze leave the number
pub record ChangesKeepTheLeaves : Type 0 where
  pub insert : (t : Insert) (entries : List Entry) (s : Scene) (y : Instant) → IsOwnSwap t.config (insert.asks_of t) (insert.facts_of t) entries s y → KeepsTheLeaves s y
  pub update : (t : Update) (entries : List Entry) (s : Scene) (y : Instant) → IsOwnSwap t.config (update.asks_of t) (update.facts_of t) entries s y → KeepsTheLeaves s y
  pub delete : (t : Delete) (entries : List Entry) (s : Scene) (y : Instant) → IsOwnSwap t.config (delete.asks_of t) (delete.facts_of t) entries s y → KeepsTheLeaves s y
  pub freeze : (t : Freeze) (entries : List Entry) (s : Scene) (y : Instant) →
      IsOwnSwap t.config (freeze_asks t.config t.slot t.status t.phase) (freeze_facts t.slot t.status t.phase) entries s y → KeepsTheLeaves s y

-- so does that of a consolidation, and the tree leaves no other leaf than the one that was copied
abbrev pub CopiesKeepTheLeaves : Type 0
CopiesKeepTheLeaves = (t : Consolidate) (entries : List Entry) (s : Scene) (y : Instant) → IsOwnSwap t.config (consol.asks_of t) (consol.facts_of t) entries s y → RenewsLeaf t.link.slot s y

-- that of the split of a leaf, at the root and below a parent, adds one
abbrev pub RootLeafSplitsCount : Type 0
RootLeafSplitsCount = (t : SplitRoot) (entries : List Entry) (s : Scene) (y : Instant) → IsOwnSwap t.config (split.asks_of t) (split.facts_of t) entries s y → SplitsLeaf t.link.slot s y

abbrev pub LeafSplitsCount : Type 0
LeafSplitsCount = (t : SplitBelow) (entries : List Entry) (s : Scene) (y : Instant) → IsOwnSwap t.config (asks_below t) (facts_below t) entries s y → SplitsLeaf t.lower.slot s y

-- that of the split of an inner node none
abbrev pub InnerRootSplitsKeepTheLeaves : Type 0
InnerRootSplitsKeepTheLeaves = (t : SplitInnerRoot) (entries : List Entry) (s : Scene) (y : Instant) → IsOwnSwap t.config (asks_crown t) (facts_crown t) entries s y → KeepsTheLeaves s y

abbrev pub InnerSplitsKeepTheLeaves : Type 0
InnerSplitsKeepTheLeaves = (t : SplitInner) (entries : List Entry) (s : Scene) (y : Instant) → IsOwnSwap t.config (asks_fork t) (facts_fork t) entries s y → KeepsTheLeaves s y

-- nor do those of the two tasks by which a level goes: the merge of two inner nodes, and the lowering of the root
abbrev pub InnerMergesKeepTheLeaves : Type 0
InnerMergesKeepTheLeaves = (t : MergeInner) (entries : List Entry) (s : Scene) (y : Instant) → IsOwnSwap t.config (asks_joining t) (joining_facts (joining_of t) t.phase) entries s y → KeepsTheLeaves s y

abbrev pub LoweringsKeepTheLeaves : Type 0
LoweringsKeepTheLeaves = (t : Lower) (entries : List Entry) (s : Scene) (y : Instant) → IsOwnSwap t.config (asks_lower t) (lower_facts (lowering_of t) t.phase) entries s y → KeepsTheLeaves s y

-- of a merge the two freezes leave the number, and the swap of the link takes one away
abbrev pub MergeCounts : Merge → MergePhase → Scene → Instant → Type 0
MergeCounts t Swap s y = MergesLeaves t.lower.slot t.side.slot t.leaf.0 t.beside.0 s y
MergeCounts t phase s y = KeepsTheLeaves s y

abbrev pub MergesCount : Type 0
MergesCount = (t : Merge) (entries : List Entry) (s : Scene) (y : Instant) → IsOwnSwap t.config (merge.asks_of t) (merge.facts_of t) entries s y → MergeCounts t t.phase s y

-- what the swap of any task makes of it
abbrev pub LeavesFollow : AnyTask → Scene → Instant → Type 0
LeavesFollow (Consolidating t) s y = RenewsLeaf t.link.slot s y
LeavesFollow (Splitting t) s y = SplitsLeaf t.link.slot s y
LeavesFollow (SplittingBelow t a) s y = SplitsLeaf t.lower.slot s y
LeavesFollow (Merging t) s y = MergeCounts t t.phase s y
LeavesFollow t s y = KeepsTheLeaves s y

abbrev pub SwapsCount : Type 0
SwapsCount = (t : AnyTask) (entries : List Entry) (s : Scene) (y : Instant) → IsOwnSwap (config_of t) (asks_of t) (facts_of t) entries s y → LeavesFollow t s y

-- the copy of the leaf in this slot
abbrev pub IsCopyOf : AnyTask → ℕ → Type 0
IsCopyOf (Consolidating t) k = t.link.slot ≡ k
IsCopyOf t k = ⊥

-- the split of a leaf, in this slot
abbrev pub IsSplitOf : AnyTask → ℕ → Type 0
IsSplitOf (Splitting t) k = t.link.slot ≡ k
IsSplitOf (SplittingBelow t a) k = t.lower.slot ≡ k
IsSplitOf t k = ⊥

-- the merge of the leaves in these slots, as they were read
abbrev pub IsMergeOf : AnyTask → ℕ → ℕ → List ℕ → List ℕ → Type 0
IsMergeOf (Merging t) k j own other = (t.lower.slot ≡ k) × ((t.side.slot ≡ j) × ((t.leaf.0 ≡ own) × (t.beside.0 ≡ other)))
IsMergeOf t k j own other = ⊥

-- there are as many, and another in the place of one, only by the copy of that one
pub record Renews (t : AnyTask) (s : Scene) (y : Instant) : Type 0 where
  pub slot : ℕ
  pub is : IsCopyOf t slot
  pub renews : RenewsLeaf slot s y

-- there is one more only by the split of a leaf
pub record Grows (t : AnyTask) (s : Scene) (y : Instant) : Type 0 where
  pub slot : ℕ
  pub is : IsSplitOf t slot
  pub splits : SplitsLeaf slot s y

-- and one less only by the merge of two
pub record Shrinks (t : AnyTask) (s : Scene) (y : Instant) : Type 0 where
  pub slot : ℕ
  pub beside : ℕ
  pub own : List ℕ
  pub other : List ℕ
  pub is : IsMergeOf t slot beside own other
  pub merges : MergesLeaves slot beside own other s y

-- so no swap of a task changes the number in another way
abbrev pub LeavesComeAndGo : Type 0
LeavesComeAndGo =
    (t : AnyTask) (entries : List Entry) (s : Scene) (y : Instant) → IsOwnSwap (config_of t) (asks_of t) (facts_of t) entries s y →
    KeepsTheLeaves s y ⊎ (Renews t s y ⊎ (Grows t s y ⊎ Shrinks t s y))

-- with the last swap that a merge can still ask for there is one leaf less, and with those before it there are as many
pub record CountsAtLast (t : AnyTask) (s : Scene) (y : Instant) : Type 0 where
  pub last : swaps_of t ≤ 1 → leaves_then s y + 1 ≡ leaves_now s
  pub before : 1 < swaps_of t → leaves_then s y ≡ leaves_now s

abbrev pub MergesCountAtLast : Type 0
MergesCountAtLast =
    (t : AnyTask) (entries : List Entry) (s : Scene) (y : Instant) → IsOwnSwap (config_of t) (asks_of t) (facts_of t) entries s y → kind_of t ≡ kinds.Merge → CountsAtLast t s y
