-- What a merge knows, and what it asks for.
use Rattle.std.specs.Prelude.{◌≡◌, ◌≢◌, ◌⊎◌, ℕ, ◌+◌, ◌-◌, ◌*◌, ◌^◌, ◌<◌, ◌≤◌, nat_lt, if◌then◌else◌, Bool, false, List, [], ◌∷◌, Option, Some, None, slice_index}
use Rattle.bz_call.specs.declared.replies.Spent.TheVariants.{Nodes as NoNodes, Swaps as NoSwaps}
use Rattle.bz_layout.specs.Addresses.{node_address}
use Rattle.bz_layout.specs.declared.config.Config.{Config}
use Rattle.bz_layout.specs.declared.sizes.TheConstants.{NODE_WORDS, STATUS_AT, NODE_LINES}
use Rattle.bz_layout.specs.declared.thresholds.TheConstants.{SPLIT_ABOVE, MERGE_BELOW, MERGE_SLOTS}
use Rattle.bz_node.specs.Reading.{children_in}
use Rattle.bz_slotted.specs.Readers.{count_of, live_of}
use Rattle.bz_slotted.specs.ReadingLaws.{node_of}
use Rattle.bz_swap.specs.SwapMemory.{is_target}
use Rattle.bz_word.specs.Statuses.{status}
use Rattle.bz_task.specs.Instant.{durable}
use Rattle.bz_task.specs.Scene.{Past, Scene, Stage, Waiting, Took, HasFilled}
use Rattle.bz_task.specs.Swaps.{Change}
use Rattle.bz_task.specs.declared.path.Link.{Link}
use Rattle.bz_task.specs.declared.todo.Outcome.{Outcome}
use Rattle.bz_task.specs.declared.todo.Outcome.TheVariants.{Done as IsDone, Restart as Restarts, Full as IsFull, NeedsRoom as NoneFits}
use Rattle.bz_task.specs.declared.todo.Seen.{Seen}
use Rattle.bz_task.specs.declared.todo.Seen.TheVariants.{Read as Was}
use Rattle.bz_task.specs.declared.todo.Todo.{Todo}
use Rattle.bz_task.specs.declared.todo.Todo.TheVariants.{Read as Reads, Store as Stores_at, Flush as Flushes_line, Swap as Swaps_for, Finish}
use Rattle.bz_freeze.specs.Facts.{entry_of, freeze_change}
use Rattle.bz_join.specs.Leaves.{IsOneOf}
use Rattle.bz_join.specs.Parents.{joined_parent, IsJoinedOf}
use Rattle.bz_renew.specs.Guards.{WasAsRead}
use Rattle.bz_renew.specs.Nodes.{word_address, word_value, line_number, AreWriting, ArePlain, HaveSlots, HasFilledBegun}
use Rattle.bz_renew.specs.Renewals.{renewal}
use Rattle.bz_split.specs.BelowSplits.{below_swap}
use Rattle.bz_split.specs.Facts.{StoodFresh}
use Rattle.bz_merge.specs.Merges.{StoodFrozen}
use Rattle.bz_merge.specs.OwnFreezes.{FrozeViewed, ViewedWasFrozen, BothWereFrozen}
use Rattle.bz_merge.specs.Plans.{Merging, merge_nodes, viewed_leaf, beside_leaf, first_of, second_of, IsPair, LackedAt, IsTried, IsReadingParent, IsPaired, IsReadingBeside, IsChecked, IsPlanned}
use Rattle.bz_merge.specs.Siblings.{WasParentNode, IsChildAt, SeenLeaf, WasSeen, HungBeside}
use Rattle.bz_merge.specs.declared.phase.MergePhase.{MergePhase}
use Rattle.bz_merge.specs.declared.phase.MergePhase.TheVariants.{Fresh, Word, Again, Beside, Parent, Still, Freeze, FreezeBeside, Guard, Store, Flush, Swap, Done, Restart, NoNeighbour, NoSlot, NoSwap}

-- the words and the lines of two nodes
abbrev pub MERGE_WORDS : ℕ
MERGE_WORDS = NODE_WORDS * MERGE_SLOTS

abbrev pub MERGE_LINES : ℕ
MERGE_LINES = NODE_LINES * MERGE_SLOTS

abbrev pub merge_asks : Config → Merging → MergePhase → Option Todo
merge_asks c r Fresh = None
merge_asks c r (Word i) = Some (Reads (node_address c r.upper.slot + i))
merge_asks c r Again = Some (Reads r.lower.guard)
merge_asks c r (Beside i) = Some (Reads (node_address c r.beside_slot + i))
merge_asks c r Parent = Some (Reads r.lower.guard)
merge_asks c r Still = Some (Reads (node_address c r.beside_slot + STATUS_AT))
merge_asks c r Freeze = Some (Swaps_for (entry_of c r.lower.slot r.status ∷ []))
merge_asks c r FreezeBeside = Some (Swaps_for (entry_of c r.beside_slot (slice_index r.beside STATUS_AT) ∷ []))
merge_asks c r Guard = Some (Reads r.upper.guard)
merge_asks c r (Store j) = Some (Stores_at (word_address c (merge_nodes r) j) (word_value (merge_nodes r) j))
merge_asks c r (Flush j) = Some (Flushes_line (line_number c (merge_nodes r) j))
merge_asks c r Swap = Some (Swaps_for (below_swap c r.upper r.lower (r.slot 0)))
merge_asks c r phase = Some Finish

abbrev pub merge_end : MergePhase → Option Outcome
merge_end Done = Some IsDone
merge_end Restart = Some Restarts
merge_end NoNeighbour = Some NoneFits
merge_end NoSlot = Some (IsFull NoNodes)
merge_end NoSwap = Some (IsFull NoSwaps)
merge_end phase = None

-- the steps of a neighbour that is read: its words, the parent's status and its own once more
abbrev pub round_acts : ℕ
round_acts = NODE_WORDS + 2

-- those that may come again for the left one
abbrev pub rest_acts : Bool → ℕ
rest_acts right = if right then round_acts else 0

-- from the freezes on: two swaps, the load of the guard, a store for each word, a flush for each line, which counts two, the swap, and the end
abbrev pub join_acts : ℕ
join_acts = MERGE_WORDS + 2 * MERGE_LINES + 4

-- the most steps
abbrev pub merge_acts : ℕ
merge_acts = NODE_WORDS + round_acts + round_acts + join_acts + 1

abbrev pub merge_left : Bool → MergePhase → ℕ
merge_left right Fresh = merge_acts
merge_left right (Word i) = NODE_WORDS - i + round_acts + round_acts + join_acts + 1
merge_left right Again = round_acts + round_acts + join_acts + 1
merge_left right (Beside i) = round_acts - i + rest_acts right + join_acts
merge_left right Parent = 2 + rest_acts right + join_acts
merge_left right Still = 1 + rest_acts right + join_acts
merge_left right Freeze = join_acts
merge_left right FreezeBeside = join_acts - 1
merge_left right Guard = join_acts - 2
merge_left right (Store j) = MERGE_WORDS + 2 * MERGE_LINES + 1 - j
merge_left right (Flush j) = 2 * (MERGE_LINES - j)
merge_left right Swap = 1
merge_left right phase = 0

-- the steps of what is asked for
abbrev pub merge_steps : MergePhase → ℕ
merge_steps (Flush j) = 2
merge_steps phase = 1

-- the slots are taken when the guard has been looked at again
abbrev pub merge_needs : MergePhase → ℕ
merge_needs Fresh = MERGE_SLOTS
merge_needs (Word i) = MERGE_SLOTS
merge_needs Again = MERGE_SLOTS
merge_needs (Beside i) = MERGE_SLOTS
merge_needs Parent = MERGE_SLOTS
merge_needs Still = MERGE_SLOTS
merge_needs Freeze = MERGE_SLOTS
merge_needs FreezeBeside = MERGE_SLOTS
merge_needs Guard = MERGE_SLOTS
merge_needs phase = 0

-- after a word of the parent comes the next one that is read, or its status once more; after one of the neighbour the next one, or
-- the parent's status
abbrev pub word_after : ℕ → MergePhase
word_after next = if nat_lt next NODE_WORDS then Word next else Again

abbrev pub beside_after : ℕ → MergePhase
beside_after next = if nat_lt next NODE_WORDS then Beside next else Parent

-- after a store comes the next one, or the first flush; after a flush the next one, or the swap
abbrev pub store_after : ℕ → MergePhase
store_after j = if nat_lt (j + 1) MERGE_WORDS then Store (j + 1) else Flush 0

abbrev pub flush_after : ℕ → MergePhase
flush_after j = if nat_lt (j + 1) MERGE_LINES then Flush (j + 1) else Swap

-- the viewed leaf is frozen, and says what was viewed; so the neighbour
abbrev pub OwnIsFrozen : Merging → Past → Type 0
OwnIsFrozen r p = StoodFrozen r.lower.slot r.leaf p

abbrev pub OtherIsFrozen : Merging → Past → Type 0
OtherIsFrozen r p = StoodFrozen r.beside_slot r.beside p

-- both are frozen, each since it was read, or by the merge itself
pub record AreFrozen (r : Merging) (p : Past) : Type 0 where
  pub planned : IsPlanned r p
  pub own : OwnIsFrozen r p
  pub other : OtherIsFrozen r p
  pub froze : BothWereFrozen r p

-- since both were frozen the upper guard was looked at again, and was as the path names it; the two nodes are being written, the
-- first of them the new parent: so many of their words are stored, and so many of their lines durable. The upper link is no word of
-- the parent itself
pub record IsMerging (r : Merging) (stored lines : ℕ) (s : Scene) : Type 0 where
  pub frozen : AreFrozen r s.past
  pub since : ℕ
  pub own_first : frozen.own.moment ≤ since
  pub other_first : frozen.other.moment ≤ since
  pub looked : WasAsRead r.upper since s.past
  pub link_apart : r.upper.link ≢ node_address s.past.config r.upper.slot + STATUS_AT
  pub guard_apart : r.upper.guard ≢ node_address s.past.config r.upper.slot + STATUS_AT
  pub over : IsJoinedOf r.read r.place (r.slot 1) (r.image 0)
  pub one : IsOneOf (first_of r.right (viewed_leaf r) (beside_leaf r)).image (second_of r.right (viewed_leaf r) (beside_leaf r)).image (r.image 1)
  pub plain : ArePlain (merge_nodes r)
  pub writing : AreWriting (merge_nodes r) stored lines s

-- at a moment since the look-up began the upper link led to a new parent: what the old one was at an earlier one, with one leaf in the
-- place of the viewed one and of a neighbour, with which it had room, the right one where that had not been found to lack it. To
-- neither of the two a link had led one moment before, and the leaf was made of the words of both
pub record WasMerged (upper lower : Link) (leaf : List ℕ) (p : Past) : Type 0 where
  pub parent_slot : ℕ
  pub leaf_slot : ℕ
  pub read : List ℕ
  pub right : Bool
  pub place : ℕ
  pub other : SeenLeaf
  pub other_at : ℕ
  pub low : Option (List ℕ)
  pub high : Option (List ℕ)
  pub merged : List ℕ
  pub moment : ℕ
  pub before : ℕ
  pub since : p.since ≤ moment
  pub order : moment ≤ before
  pub now : before + 1 ≤ p.now
  pub old : WasParentNode upper.slot moment read p
  pub pair : IsPair read lower.slot right place other.slot
  pub tried : IsTried read leaf right place p
  pub seen : WasSeen other other_at low high p
  pub room : live_of (node_of leaf) + live_of (node_of other.image) ≤ SPLIT_ABOVE
  pub one : IsOneOf (if right then leaf else other.image) (if right then other.image else leaf) merged
  pub led : (p.at (before + 1)).value upper.link ≡ parent_slot + 1
  pub parent : StoodFresh parent_slot (joined_parent (children_in read) place leaf_slot old.low old.high old.level) before p
  pub leaf_fresh : StoodFresh leaf_slot merged before p

-- each neighbour below the parent, as it was read, had too many live words
pub record NoneFitted (upper lower : Link) (leaf : List ℕ) (p : Past) : Type 0 where
  pub moment : ℕ
  pub read : List ℕ
  pub place : ℕ
  pub since : p.since ≤ moment
  pub now : moment ≤ p.now
  pub old : WasParentNode upper.slot moment read p
  pub own : IsChildAt read lower.slot place
  pub right : place + 1 < count_of (node_of read) → LackedAt read leaf (place + 1) p
  pub left : (j : ℕ) → j + 1 ≡ place → LackedAt read leaf j p

-- at a moment not before its view the leaf, which had too few live words to stand alone, hung beside one with which it had room, as
-- both were read
pub record SomeFitted (lower : Link) (status : ℕ) (leaf : List ℕ) (p : Past) : Type 0 where
  pub at : ℕ
  pub low : Option (List ℕ)
  pub high : Option (List ℕ)
  pub viewed : WasSeen (record { slot = lower.slot; status = status; image = leaf }) at low high p
  pub few : live_of (durable p.config (p.at at) lower.slot) < MERGE_BELOW
  pub other : SeenLeaf
  pub own_place : ℕ
  pub place : ℕ
  pub next : (place ≡ own_place + 1) ⊎ (place + 1 ≡ own_place)
  pub beside : HungBeside lower.slot own_place other place p
  pub later : at ≤ beside.moment
  pub room : live_of (node_of leaf) + live_of (node_of other.image) ≤ SPLIT_ABOVE

abbrev pub merge_facts : Merging → MergePhase → Stage → Scene → Type 0
merge_facts r Fresh Waiting s = IsReadingParent r 1 s.past
merge_facts r (Word i) Waiting s = HasFilled s × ((0 < i) × ((i < NODE_WORDS) × IsReadingParent r i s.past))
merge_facts r Again Waiting s = HasFilled s × IsReadingParent r NODE_WORDS s.past
merge_facts r (Beside i) Waiting s = HasFilled s × ((i < NODE_WORDS) × (IsPaired r s.past × (0 < i → IsReadingBeside r.beside_slot r.beside i s.past)))
merge_facts r Parent Waiting s = HasFilled s × (IsPaired r s.past × IsReadingBeside r.beside_slot r.beside NODE_WORDS s.past)
merge_facts r Still Waiting s = HasFilled s × IsChecked r s.past
merge_facts r Freeze Waiting s = HasFilled s × (IsPlanned r s.past × ((status r.status).frozen ≡ false))
merge_facts r Freeze Took s = HasFilled s × (IsPlanned r s.past × (OwnIsFrozen r s.past × FrozeViewed r s.past))
merge_facts r FreezeBeside Waiting s = HasFilled s × (IsPlanned r s.past × (OwnIsFrozen r s.past × (((status (slice_index r.beside STATUS_AT)).frozen ≡ false) × ViewedWasFrozen r s.past)))
merge_facts r FreezeBeside Took s = HasFilled s × (AreFrozen r s.past × ((status (slice_index r.beside STATUS_AT)).frozen ≡ false))
merge_facts r Guard Waiting s = HasFilled s × AreFrozen r s.past
merge_facts r (Store j) Waiting s = HasFilledBegun (merge_nodes r) j s × ((j < MERGE_WORDS) × IsMerging r j 0 s)
merge_facts r (Store j) Took s = HasFilledBegun (merge_nodes r) (j + 1) s × ((j < MERGE_WORDS) × IsMerging r (j + 1) 0 s)
merge_facts r (Flush j) Waiting s = HasFilled s × ((j < MERGE_LINES) × IsMerging r MERGE_WORDS j s)
merge_facts r (Flush j) Took s = HasFilled s × ((j < MERGE_LINES) × IsMerging r MERGE_WORDS (j + 1) s)
merge_facts r Swap Waiting s = HasFilled s × IsMerging r MERGE_WORDS MERGE_LINES s
merge_facts r Swap Took s = HasFilled s × WasMerged r.upper r.lower r.leaf s.past
merge_facts r Done Waiting s = HasFilled s × WasMerged r.upper r.lower r.leaf s.past
merge_facts r NoNeighbour Waiting s = HasFilled s × NoneFitted r.upper r.lower r.leaf s.past
merge_facts r Restart Waiting s = HasFilled s
merge_facts r NoSlot Waiting s = HasFilled s × SomeFitted r.lower r.status r.leaf s.past
merge_facts r NoSwap Waiting s = HasFilled s
merge_facts r phase stage s = ⊥

-- what its end means: the upper link led to a fresh parent with the merged leaf; or no neighbour had room; or one had, where the slots
-- are not left; else nothing is known beyond why it ended
abbrev pub merge_means : Link → Link → ℕ → List ℕ → Outcome → Scene → Type 0
merge_means upper lower st leaf IsDone s = WasMerged upper lower leaf s.past
merge_means upper lower st leaf NoneFits s = NoneFitted upper lower leaf s.past
merge_means upper lower st leaf Restarts s = Unit {0}
merge_means upper lower st leaf (IsFull NoNodes) s = SomeFitted lower st leaf s.past
merge_means upper lower st leaf (IsFull NoSwaps) s = Unit {0}
merge_means upper lower st leaf outcome s = ⊥

-- a merge ends so and in no other way
abbrev pub IsEndOfMerge : Outcome → Type 0
IsEndOfMerge IsDone = Unit {0}
IsEndOfMerge NoneFits = Unit {0}
IsEndOfMerge Restarts = Unit {0}
IsEndOfMerge (IsFull NoNodes) = Unit {0}
IsEndOfMerge (IsFull NoSwaps) = Unit {0}
IsEndOfMerge outcome = ⊥

-- a guard, or the neighbour's status, is another one than was read
abbrev pub merge_differs : Merging → MergePhase → Seen → Type 0
merge_differs r Again (Was v) = v ≢ r.lower.status
merge_differs r Parent (Was v) = v ≢ r.lower.status
merge_differs r Still (Was v) = v ≢ slice_index r.beside STATUS_AT
merge_differs r Guard (Was v) = v ≢ r.upper.status
merge_differs r phase seen = ⊥

-- a merge makes no change
abbrev pub merge_change : Change
merge_change = freeze_change

-- the swap may be made: its targets are different words
pub record IsSwapReady (c : Config) (r : Merging) : Type 0 where
  pub upper_plain : r.upper.status < 2 ^ 61
  pub lower_plain : r.lower.status < 2 ^ 61
  pub apart : r.upper.link ≢ r.upper.guard
  pub slot : r.upper.slot < c.nodes
  pub target : is_target (renewal r.upper (r.slot 0)) (node_address c r.upper.slot + STATUS_AT) ≡ false

-- what is named is there
abbrev pub IsReady : Config → Merging → MergePhase → Type 0
IsReady c r (Word i) = (r.upper.slot < c.nodes) × (i < NODE_WORDS)
IsReady c r (Beside i) = (r.beside_slot < c.nodes) × (i < NODE_WORDS)
IsReady c r Still = r.beside_slot < c.nodes
IsReady c r Freeze = (r.lower.slot < c.nodes) × (r.status < 2 ^ 61)
IsReady c r FreezeBeside = (r.beside_slot < c.nodes) × (slice_index r.beside STATUS_AT < 2 ^ 61)
IsReady c r (Store j) = HaveSlots c.nodes (merge_nodes r) × (j < MERGE_WORDS)
IsReady c r (Flush j) = HaveSlots c.nodes (merge_nodes r) × (j < MERGE_LINES)
IsReady c r Swap = HaveSlots c.nodes (merge_nodes r) × IsSwapReady c r
IsReady c r phase = Unit {0}

-- the phase is one of a store, a flush or a swap
abbrev pub WritesOrSwaps : MergePhase → Type 0
WritesOrSwaps Freeze = Unit {0}
WritesOrSwaps FreezeBeside = Unit {0}
WritesOrSwaps (Store j) = Unit {0}
WritesOrSwaps (Flush j) = Unit {0}
WritesOrSwaps Swap = Unit {0}
WritesOrSwaps phase = ⊥

-- it is one of a swap
abbrev pub IsSwapping : MergePhase → Type 0
IsSwapping Freeze = Unit {0}
IsSwapping FreezeBeside = Unit {0}
IsSwapping Swap = Unit {0}
IsSwapping phase = ⊥
