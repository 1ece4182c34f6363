-- What a merge decides: which neighbour is tried, and whether the two have room in one.
use Rattle.std.specs.Prelude.{◌≡◌, ◌≢◌, ℕ, ◌+◌, ◌^◌, ◌<◌, ◌≤◌, ◌⊎◌, true, false, List, Option, length, slice_index}
use Rattle.bz_layout.specs.Slots.{FreeSlots}
use Rattle.bz_layout.specs.declared.sizes.TheConstants.{NODE_WORDS, STATUS_AT}
use Rattle.bz_layout.specs.declared.thresholds.TheConstants.{SPLIT_ABOVE, MERGE_SLOTS}
use Rattle.bz_slotted.specs.Readers.{count_of, live_of}
use Rattle.bz_slotted.specs.ReadingLaws.{node_of, ReadsAsChildren}
use Rattle.bz_word.specs.Statuses.{status}
use Rattle.bz_page.specs.Pages.{IsLeafByItself}
use Rattle.bz_join.specs.Leaves.{MayJoin, IsOneOf}
use Rattle.bz_join.specs.Parents.{HasTwo, IsJoinedOf}
use Rattle.bz_renew.specs.Nodes.{AreSlotsTaken}
use Rattle.bz_task.specs.declared.todo.Seen.{Seen}
use Rattle.bz_task.specs.declared.todo.Seen.TheVariants.{Read as Was, Swapped, NoSwap as NoneLeft}
use Rattle.bz_merge.specs.Plans.{Merging, merge_nodes, viewed_leaf, beside_leaf, first_of, second_of, IsPair}
use Rattle.bz_merge.specs.Siblings.{IsChildAt}
use Rattle.bz_merge.specs.declared.phase.MergePhase.{MergePhase}
use Rattle.bz_merge.specs.declared.phase.MergePhase.TheVariants.{Beside, Freeze, FreezeBeside, Guard, Store, Swap, Done, Restart, NoNeighbour, NoSlot, NoSwap}
use Rattle.bz_merge.specs.declared.sibling.Sibling.{Sibling}

-- the words can be read as children, and one of them is in the slot
pub record IsParentOfLeaf (read : List ℕ) (slot : ℕ) : Type 0 where
  pub size : length read ≡ NODE_WORDS
  pub reads : ReadsAsChildren read
  pub place : ℕ
  pub child : IsChildAt read slot place

-- it is the last one, or the first one
abbrev pub HasNoRight : List ℕ → ℕ → Type 0
HasNoRight read slot = (i : ℕ) → IsChildAt read slot i → count_of (node_of read) ≤ i + 1

abbrev pub HasNoLeft : List ℕ → ℕ → Type 0
HasNoLeft read slot = (i : ℕ) → IsChildAt read slot i → i ≡ 0

-- the two leaves have room in one, or not
abbrev pub HaveRoom : Merging → Type 0
HaveRoom r = live_of (node_of r.leaf) + live_of (node_of r.beside) ≤ SPLIT_ABOVE

abbrev pub LackRoom : Merging → Type 0
LackRoom r = SPLIT_ABOVE < live_of (node_of r.leaf) + live_of (node_of r.beside)

-- where the parent's status is as it was, its words tell the neighbour: the right one, or the left one where there is no right one
abbrev pub HasTold : Merging → Seen → Sibling → MergePhase → Type 0
HasTold r seen side (Beside i) = (i ≡ 0) × ((seen ≡ Was r.lower.status) × (IsPair r.read r.lower.slot side.right side.place side.slot × (side.right ≡ false → HasNoRight r.read r.lower.slot)))
HasTold r seen side NoNeighbour = (seen ≡ Was r.lower.status) × (HasNoRight r.read r.lower.slot × HasNoLeft r.read r.lower.slot)
HasTold r seen side Restart = seen ≢ Was r.lower.status
HasTold r seen side phase = ⊥

-- what is needed to see whether the two have room in one
pub record IsWeighable (r : Merging) : Type 0 where
  pub own : IsLeafByItself r.leaf
  pub other : IsLeafByItself r.beside
  pub parent : IsParentOfLeaf r.read r.lower.slot
  pub own_plain : r.status < 2 ^ 61
  pub other_plain : slice_index r.beside STATUS_AT < 2 ^ 61

-- where the neighbour's status is as it was, its words tell whether the two have room: then what is not frozen yet is frozen, the
-- viewed leaf first; else the left neighbour is tried after the right one
abbrev pub HasSettled : Merging → Seen → Sibling → MergePhase → Type 0
HasSettled r seen side (Beside i) = (i ≡ 0) × ((seen ≡ Was (slice_index r.beside STATUS_AT)) × (LackRoom r × ((r.right ≡ true) × ((side.right ≡ false) × IsPair r.read r.lower.slot false side.place side.slot))))
HasSettled r seen side NoNeighbour = (seen ≡ Was (slice_index r.beside STATUS_AT)) × (LackRoom r × (r.right ≡ true → HasNoLeft r.read r.lower.slot))
HasSettled r seen side Freeze = (seen ≡ Was (slice_index r.beside STATUS_AT)) × (HaveRoom r × ((status r.status).frozen ≡ false))
HasSettled r seen side FreezeBeside = (seen ≡ Was (slice_index r.beside STATUS_AT)) × (HaveRoom r × (((status r.status).frozen ≡ true) × ((status (slice_index r.beside STATUS_AT)).frozen ≡ false)))
HasSettled r seen side Guard = (seen ≡ Was (slice_index r.beside STATUS_AT)) × (HaveRoom r × (((status r.status).frozen ≡ true) × ((status (slice_index r.beside STATUS_AT)).frozen ≡ true)))
HasSettled r seen side Restart = seen ≢ Was (slice_index r.beside STATUS_AT)
HasSettled r seen side phase = ⊥

-- after a freeze comes that of the neighbour, unless it is frozen, and then the guard
abbrev pub HasFrozen : Merging → MergePhase → Type 0
HasFrozen r FreezeBeside = (status (slice_index r.beside STATUS_AT)).frozen ≡ false
HasFrozen r Guard = (status (slice_index r.beside STATUS_AT)).frozen ≡ true
HasFrozen r phase = ⊥

-- after a swap that took effect
abbrev pub HasWon : Merging → MergePhase → MergePhase → Type 0
HasWon r phase FreezeBeside = (phase ≡ Freeze) × ((status (slice_index r.beside STATUS_AT)).frozen ≡ false)
HasWon r phase Guard = ((phase ≡ Freeze) × ((status (slice_index r.beside STATUS_AT)).frozen ≡ true)) ⊎ (phase ≡ FreezeBeside)
HasWon r phase Done = phase ≡ Swap
HasWon r phase next = ⊥

-- and after one of which this came
abbrev pub HasSwapped : Merging → MergePhase → Seen → MergePhase → Type 0
HasSwapped r phase seen NoSwap = seen ≡ NoneLeft
HasSwapped r phase seen Restart = seen ≡ Swapped false
HasSwapped r phase seen FreezeBeside = (seen ≡ Swapped true) × HasWon r phase FreezeBeside
HasSwapped r phase seen Guard = (seen ≡ Swapped true) × HasWon r phase Guard
HasSwapped r phase seen Done = (seen ≡ Swapped true) × HasWon r phase Done
HasSwapped r phase seen next = ⊥

-- before any freeze it is the viewed leaf that is frozen, unless it is
abbrev pub HasFirst : Merging → MergePhase → Type 0
HasFirst r Freeze = (status r.status).frozen ≡ false
HasFirst r FreezeBeside = ((status r.status).frozen ≡ true) × ((status (slice_index r.beside STATUS_AT)).frozen ≡ false)
HasFirst r Guard = ((status r.status).frozen ≡ true) × ((status (slice_index r.beside STATUS_AT)).frozen ≡ true)
HasFirst r phase = ⊥

-- the new nodes may be made
pub record MayMerge (nodes : ℕ) (r : Merging) : Type 0 where
  pub raw : ℕ → ℕ
  pub level : ℕ
  pub low : Option (List ℕ)
  pub high : Option (List ℕ)
  pub two : HasTwo nodes raw r.read level low high r.place
  pub leaves : MayJoin (first_of r.right (viewed_leaf r) (beside_leaf r)).image (second_of r.right (viewed_leaf r) (beside_leaf r)).image

-- two slots were taken, and the new nodes are made; or there were not so many
abbrev pub HasBegun : Merging → MergePhase → FreeSlots → FreeSlots → Type 0
HasBegun r (Store j) old new =
    (j ≡ 0) × (AreSlotsTaken (merge_nodes r) old new × (IsJoinedOf r.read r.place (r.slot 1) (r.image 0) × ((length (r.image 0) ≡ NODE_WORDS) × IsOneOf (first_of r.right (viewed_leaf r) (beside_leaf r)).image (second_of r.right (viewed_leaf r) (beside_leaf r)).image (r.image 1))))
HasBegun r NoSlot old new = (length old.free < MERGE_SLOTS) × (new ≡ old)
HasBegun r phase old new = ⊥

-- that is where the upper guard was as the path names it; elsewhere none was taken
abbrev pub HasLooked : Merging → Seen → MergePhase → FreeSlots → FreeSlots → Type 0
HasLooked r seen phase old new = ((seen ≡ Was r.upper.status) × HasBegun r phase old new) ⊎ ((seen ≢ Was r.upper.status) × ((phase ≡ Restart) × (new ≡ old)))
