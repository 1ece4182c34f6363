-- What the split of a leaf below a parent knows, and what it asks for.
use Rattle.std.specs.Prelude.{◌≡◌, ◌≢◌, ℕ, ◌+◌, ◌-◌, ◌*◌, ◌^◌, ◌<◌, ◌≤◌, ◌⊎◌, nat_lt, if◌then◌else◌, true, false, List, map, All, Option, Some, None, slice_get, length, slice_index}
use Rattle.bz_call.specs.declared.replies.Spent.TheVariants.{Nodes as NoNodes, Swaps as NoSwaps}
use Rattle.bz_key.specs.Bytes.{IsKey}
use Rattle.bz_key.specs.Packing.{packed}
use Rattle.bz_layout.specs.Addresses.{node_address}
use Rattle.bz_layout.specs.Slots.{FreeSlots}
use Rattle.bz_layout.specs.declared.config.Config.{Config}
use Rattle.bz_layout.specs.declared.sizes.TheConstants.{NODE_WORDS, STATUS_AT, SHARED_WORDS}
use Rattle.bz_layout.specs.declared.thresholds.TheConstants.{SPLIT_ABOVE, SPLIT_SLOTS}
use Rattle.bz_node.specs.Layout.{needed}
use Rattle.bz_node.specs.Reading.{children_in}
use Rattle.bz_node.specs.Records.{child_entry, IsAbove, IsBelow}
use Rattle.bz_tree.specs.Order.{is_before}
use Rattle.bz_slotted.specs.Readers.{found_of, live_of}
use Rattle.bz_slotted.specs.ReadingLaws.{node_of}
use Rattle.bz_slotted.specs.Rules.{node_fault}
use Rattle.bz_task.specs.Instant.{words, durable, form_at}
use Rattle.bz_task.specs.Scene.{Past, Scene, Stage, Waiting, Took, HasFilled}
use Rattle.bz_task.specs.declared.path.Link.{Link}
use Rattle.bz_task.specs.declared.path.Path.{Path}
use Rattle.bz_task.specs.declared.view.LeafView.{LeafView}
use Rattle.bz_task.specs.declared.todo.Outcome.{Outcome}
use Rattle.bz_task.specs.declared.todo.Outcome.TheVariants.{Done as IsDone, Restart as Restarts, Full as IsFull, NeedsRoom as NoneFits}
use Rattle.bz_task.specs.declared.todo.Seen.{Seen}
use Rattle.bz_task.specs.declared.todo.Seen.TheVariants.{Read as Was}
use Rattle.bz_task.specs.declared.todo.Todo.{Todo}
use Rattle.bz_task.specs.declared.todo.Todo.TheVariants.{Read as Reads, Store as Stores_at, Flush as Flushes_line, Swap as Swaps_for, Finish}
use Rattle.bz_halves.specs.Parents.{parted_words}
use Rattle.bz_word.specs.Statuses.{status}
use Rattle.bz_renew.specs.Due.{IsStatusOf}
use Rattle.bz_renew.specs.FrozenLeaves.{WasFrozenLeaf}
use Rattle.bz_renew.specs.Renewals.{renewal}
use Rattle.bz_task.specs.FromSwap.SwapMemory.{is_target}
use Rattle.bz_renew.specs.Nodes.{Nodes, word_address, word_value, line_number, AreWriting, ArePlain, HaveSlots, HasFilledBegun, AreSlotsTaken}
use Rattle.bz_split.specs.BelowSplits.{AreLinksDown, below_swap}
use Rattle.bz_split.specs.Facts.{SPLIT_WORDS, SPLIT_LINES, StoodFresh}
use Rattle.bz_below.specs.Guards.{with_guard, WasThawed, WasNamed}
use Rattle.bz_below.specs.Parents.{WereRead, IsParentOf, WasParent}
use Rattle.bz_split.specs.Parts.{ArePartsOf}
use Rattle.bz_below.specs.declared.phase.BelowPhase.{BelowPhase}
use Rattle.bz_below.specs.declared.phase.TheConstants.{MOST_WAITS}
use Rattle.bz_below.specs.declared.phase.BelowPhase.TheVariants.{Fresh, Room, Word, Again, Guard, Store, Flush, Named, Swap, Done, Restart, NoRoom, NoSlot, NoSwap}

-- the link to the parent and the link to the leaf; the slots and the words of the new parent, of the left half and of the right
-- half; the words that were read of the parent so far; the separator; and the upper guard that the swap names
pub record Below : Type 0 where
  pub upper : Link
  pub lower : Link
  pub slot : ℕ → ℕ
  pub image : ℕ → List ℕ
  pub read : List ℕ
  pub sep : List ℕ
  pub guard : ℕ

abbrev pub below_nodes : Below → Nodes
below_nodes r = record { count = SPLIT_SLOTS; slot = r.slot; image = r.image }

abbrev pub below_asks : Config → Below → BelowPhase → Option Todo
below_asks c r Fresh = None
below_asks c r Room = Some (Reads r.lower.guard)
below_asks c r (Word i) = Some (Reads (node_address c r.upper.slot + i))
below_asks c r Again = Some (Reads r.lower.guard)
below_asks c r Guard = Some (Reads r.upper.guard)
below_asks c r (Store j) = Some (Stores_at (word_address c (below_nodes r) j) (word_value (below_nodes r) j))
below_asks c r (Flush j) = Some (Flushes_line (line_number c (below_nodes r) j))
below_asks c r Named = Some (Reads r.upper.guard)
below_asks c r Swap = Some (Swaps_for (below_swap c (with_guard r.upper r.guard) r.lower (r.slot 0)))
below_asks c r phase = Some Finish

abbrev pub below_end : BelowPhase → Option Outcome
below_end Done = Some IsDone
below_end Restart = Some Restarts
below_end NoRoom = Some NoneFits
below_end NoSlot = Some (IsFull NoNodes)
below_end NoSwap = Some (IsFull NoSwaps)
below_end phase = None

-- the most steps where the parent is read once: the loads of its status, of its words, of its status again and of the upper guard, a
-- store for each word, a flush for each line, which counts two, the load of the upper guard, the swap, and the end
abbrev pub below_once : ℕ
below_once = NODE_WORDS + SPLIT_WORDS + 2 * SPLIT_LINES + 5

-- the parent may be read anew, in as many loads as so many readings of all its words take, with a look at both guards each time
abbrev pub below_waits : ℕ
below_waits = (NODE_WORDS + 1) * MOST_WAITS

abbrev pub below_acts : ℕ
below_acts = below_waits + below_once

-- of these steps so many are done at most where the parent lacks the room: the load of its status, and the end
abbrev pub below_fails : ℕ
below_fails = 2

-- the most swaps that are still asked for: that of the link to the parent, until it has ended. Where it ended for want of room it has not
-- asked for it
abbrev pub below_swaps : BelowPhase → ℕ
below_swaps Done = 0
below_swaps Restart = 0
below_swaps NoSlot = 0
below_swaps NoSwap = 0
below_swaps phase = 1

-- the most steps that are left, beside the loads that may be spent on waiting: these are counted from the first word on
abbrev pub below_left : BelowPhase → ℕ
below_left Fresh = below_acts
below_left Room = below_acts - 1
below_left NoRoom = below_acts - below_fails
below_left (Word i) = below_once - 1 - i
below_left Again = SPLIT_WORDS + 2 * SPLIT_LINES + 4
below_left Guard = SPLIT_WORDS + 2 * SPLIT_LINES + 3
below_left (Store j) = SPLIT_WORDS + 2 * SPLIT_LINES + 2 - j
below_left (Flush j) = 2 * (SPLIT_LINES - j) + 1
below_left Named = 2
below_left Swap = 1
below_left phase = 0

-- the steps of what is asked for
abbrev pub below_steps : BelowPhase → ℕ
below_steps (Flush j) = 2
below_steps phase = 1

-- the slots are taken when both guards have been looked at again: none where it ended for want of room
abbrev pub below_needs : BelowPhase → ℕ
below_needs Fresh = SPLIT_SLOTS
below_needs Room = SPLIT_SLOTS
below_needs (Word i) = SPLIT_SLOTS
below_needs Again = SPLIT_SLOTS
below_needs Guard = SPLIT_SLOTS
below_needs NoRoom = SPLIT_SLOTS
below_needs phase = 0

-- after a word comes the next one that is read, or the parent's status once more
abbrev pub word_after : ℕ → BelowPhase
word_after next = if nat_lt next NODE_WORDS then Word next else Again

-- after a store comes the next one, or the first flush; after a flush the next one, or the last look at the upper guard
abbrev pub store_after : ℕ → BelowPhase
store_after j = if nat_lt (j + 1) SPLIT_WORDS then Store (j + 1) else Flush 0

abbrev pub flush_after : ℕ → BelowPhase
flush_after j = if nat_lt (j + 1) SPLIT_LINES then Flush (j + 1) else Named

-- both links were read; the leaf was frozen, with more live words than a leaf may keep, and the two parts say what it says. The lower guard
-- was read at moment `guarded`, and the lower link was that to child `child`
pub record HasPartedBelow (upper lower : Link) (left right sep : List ℕ) (p : Past) : Type 0 where
  pub links : AreLinksDown upper lower p
  pub guarded : ℕ
  pub is_guarded : links.guard.guarded ≡ guarded
  pub child : ℕ
  pub is_child : links.under.child.child ≡ child
  pub moment : ℕ
  pub leaf : WasFrozenLeaf lower.slot moment p
  pub many : SPLIT_ABOVE < live_of (durable p.config (p.at moment) lower.slot)
  pub separator : IsKey sep
  pub above : IsAbove ((form_at p.config (p.at moment)).low lower.slot) sep
  pub below : IsBelow ((form_at p.config (p.at moment)).high lower.slot) sep
  pub left_whole : node_fault p.config.nodes (node_of left) (node_of left) 0 ((form_at p.config (p.at moment)).low lower.slot) (Some sep) ≡ None
  pub right_whole : node_fault p.config.nodes (node_of right) (node_of right) 0 (Some sep) ((form_at p.config (p.at moment)).high lower.slot) ≡ None
  pub before : (key : List ℕ) → is_before key sep ≡ true → found_of (node_of left) key ≡ found_of (words p.config (p.at moment) lower.slot) key
  pub from : (key : List ℕ) → is_before key sep ≡ false → found_of (node_of right) key ≡ found_of (words p.config (p.at moment) lower.slot) key
  pub left_size : length left ≡ NODE_WORDS
  pub right_size : length right ≡ NODE_WORDS
  pub left_plain : All (λ v. v < 2 ^ 61) left
  pub right_plain : All (λ v. v < 2 ^ 61) right

-- of the words of a node the status alone was read
pub record IsUnread (status : ℕ) (read : List ℕ) : Type 0 where
  pub size : length read ≡ NODE_WORDS
  pub first : slice_index read STATUS_AT ≡ status
  pub blank : (i : ℕ) → 0 < i → slice_index read i ≡ 0

-- of the parent the status alone was read
pub record HasStarted (r : Below) (p : Past) : Type 0 where
  pub parted : HasPartedBelow r.upper r.lower (r.image 1) (r.image 2) r.sep p
  pub unread : IsUnread r.lower.status r.read

-- the words that an inner node with this status takes once it has one child more, below the separator
abbrev pub words_with : ℕ → List ℕ → ℕ
words_with st sep = (status st).count + (status st).block + 2 + length (packed sep)

-- it has room for that
abbrev pub LeavesRoom : ℕ → List ℕ → Type 0
LeavesRoom st sep = words_with st sep ≤ SHARED_WORDS

-- the parent's status leaves the room; its words before a place were read
pub record IsReading (r : Below) (place : ℕ) (p : Past) : Type 0 where
  pub parted : HasPartedBelow r.upper r.lower (r.image 1) (r.image 2) r.sep p
  pub room : LeavesRoom r.lower.status r.sep
  pub were : WereRead r.upper.slot parted.guarded r.lower.status place r.read p

-- the parent as it was read has room for the separator
abbrev pub HasRoom : List ℕ → List ℕ → Type 0
HasRoom read sep = needed (map child_entry (children_in read)) + 2 + length (packed sep) ≤ SHARED_WORDS

-- the parent's words were those that were read; and it has room for the separator
pub record IsPlan (upper lower : Link) (left right sep read : List ℕ) (p : Past) : Type 0 where
  pub parted : HasPartedBelow upper lower left right sep p
  pub parent : WasParent upper lower parted.guarded parted.child sep read p
  pub room : HasRoom read sep

abbrev pub IsPlanned : Below → Past → Type 0
IsPlanned r p = IsPlan r.upper r.lower (r.image 1) (r.image 2) r.sep r.read p

-- the parent as it was read lacked that room: then the split of the leaf is not the one to be made
pub record LackedRoom (upper lower : Link) (sep : List ℕ) (p : Past) : Type 0 where
  pub moment : ℕ
  pub child : ℕ
  pub read : List ℕ
  pub since : p.since ≤ moment
  pub now : moment ≤ p.now
  pub parent : WasParent upper lower moment child sep read p
  pub room : SHARED_WORDS < needed (map child_entry (children_in read)) + 2 + length (packed sep)

-- the words of the new parent
abbrev pub parent_words : (r : Below) (child level : ℕ) → Option (List ℕ) → Option (List ℕ) → List ℕ
parent_words r child level low high = parted_words (children_in r.read) child (r.slot 1) (r.slot 2) r.sep low high level

-- since the leaf was frozen the upper guard was looked at again, and was no frozen node's; the three nodes are being written,
-- the first of them the new parent: so many of their words are stored, and so many of their lines durable. The upper link is no word
-- of the parent itself
pub record IsSplittingBelow (r : Below) (stored lines : ℕ) (s : Scene) : Type 0 where
  pub planned : IsPlanned r s.past
  pub looked : WasThawed r.upper planned.parted.moment s.past
  pub link_apart : r.upper.link ≢ node_address s.past.config r.upper.slot + STATUS_AT
  pub guard_apart : r.upper.guard ≢ node_address s.past.config r.upper.slot + STATUS_AT
  pub over : r.image 0 ≡ parent_words r planned.parted.child planned.parent.level planned.parent.low planned.parent.high
  pub plain : ArePlain (below_nodes r)
  pub writing : AreWriting (below_nodes r) stored lines s

-- at a moment since the look-up began the upper link led to a new parent: what the old one was at an earlier one, with the two leaves in
-- the place of the child to which the lower link led. To none of the three a link had led one moment before, and the leaves were these
pub record WasSplitBelow (upper lower : Link) (left right sep : List ℕ) (p : Past) : Type 0 where
  pub parent_slot : ℕ
  pub left_slot : ℕ
  pub right_slot : ℕ
  pub read : List ℕ
  pub child : ℕ
  pub moment : ℕ
  pub before : ℕ
  pub since : p.since ≤ moment
  pub order : moment ≤ before
  pub now : before + 1 ≤ p.now
  pub old : WasParent upper lower moment child sep read p
  pub led : (p.at (before + 1)).value upper.link ≡ parent_slot + 1
  pub parent : StoodFresh parent_slot (parted_words (children_in read) child left_slot right_slot sep old.low old.high old.level) before p
  pub left_half : StoodFresh left_slot left before p
  pub right_half : StoodFresh right_slot right before p

-- these are the parts of the viewed leaf
pub record WasPartedBelow (upper lower : Link) (view : LeafView) (p : Past) : Type 0 where
  pub left : List ℕ
  pub right : List ℕ
  pub sep : List ℕ
  pub parts : ArePartsOf view.image.0 left right sep
  pub split : WasSplitBelow upper lower left right sep p

-- the parent of the leaf, as it was read, lacked the room for the separator of these parts of the viewed leaf
pub record LackedPart (upper lower : Link) (view : LeafView) (p : Past) : Type 0 where
  pub left : List ℕ
  pub right : List ℕ
  pub sep : List ℕ
  pub parts : ArePartsOf view.image.0 left right sep
  pub lacked : LackedRoom upper lower sep p

abbrev pub below_facts : Below → BelowPhase → Stage → Scene → Type 0
below_facts r Fresh Waiting s = HasStarted r s.past
below_facts r Room Waiting s = HasFilled s × HasStarted r s.past
below_facts r (Word i) Waiting s = HasFilled s × ((0 < i) × ((i < NODE_WORDS) × IsReading r i s.past))
below_facts r Again Waiting s = HasFilled s × IsReading r NODE_WORDS s.past
below_facts r Guard Waiting s = HasFilled s × IsPlanned r s.past
below_facts r (Store j) Waiting s = HasFilledBegun (below_nodes r) j s × ((j < SPLIT_WORDS) × IsSplittingBelow r j 0 s)
below_facts r (Store j) Took s = HasFilledBegun (below_nodes r) (j + 1) s × ((j < SPLIT_WORDS) × IsSplittingBelow r (j + 1) 0 s)
below_facts r (Flush j) Waiting s = HasFilled s × ((j < SPLIT_LINES) × IsSplittingBelow r SPLIT_WORDS j s)
below_facts r (Flush j) Took s = HasFilled s × ((j < SPLIT_LINES) × IsSplittingBelow r SPLIT_WORDS (j + 1) s)
below_facts r Named Waiting s = HasFilled s × IsSplittingBelow r SPLIT_WORDS SPLIT_LINES s
below_facts r Swap Waiting s = HasFilled s × (IsSplittingBelow r SPLIT_WORDS SPLIT_LINES s × WasNamed r.upper r.guard (below_nodes r) s.past)
below_facts r Swap Took s = HasFilled s × WasSplitBelow r.upper r.lower (r.image 1) (r.image 2) r.sep s.past
below_facts r Done Waiting s = HasFilled s × WasSplitBelow r.upper r.lower (r.image 1) (r.image 2) r.sep s.past
below_facts r NoRoom Waiting s = HasFilled s × LackedRoom r.upper r.lower r.sep s.past
below_facts r Fresh Took s = ⊥
below_facts r Room Took s = ⊥
below_facts r (Word i) Took s = ⊥
below_facts r Again Took s = ⊥
below_facts r Guard Took s = ⊥
below_facts r Named Took s = ⊥
below_facts r phase Waiting s = HasFilled s
below_facts r phase Took s = ⊥

-- what its end means: the upper link led to a fresh parent with the two parts; or the parent lacked the room; else nothing is known
-- beyond why it ended
abbrev pub below_means : Link → Link → List ℕ → List ℕ → List ℕ → Outcome → Scene → Type 0
below_means upper lower left right sep IsDone s = WasSplitBelow upper lower left right sep s.past
below_means upper lower left right sep NoneFits s = LackedRoom upper lower sep s.past
below_means upper lower left right sep Restarts s = Unit {0}
below_means upper lower left right sep (IsFull NoNodes) s = Unit {0}
below_means upper lower left right sep (IsFull NoSwaps) s = Unit {0}
below_means upper lower left right sep outcome s = ⊥

-- a split below a parent ends so and in no other way
abbrev pub IsEndOfSplitBelow : Outcome → Type 0
IsEndOfSplitBelow IsDone = Unit {0}
IsEndOfSplitBelow NoneFits = Unit {0}
IsEndOfSplitBelow Restarts = Unit {0}
IsEndOfSplitBelow (IsFull NoNodes) = Unit {0}
IsEndOfSplitBelow (IsFull NoSwaps) = Unit {0}
IsEndOfSplitBelow outcome = ⊥

-- the parent's status is another one than the path names, or the upper guard is a frozen node's
abbrev pub below_differs : Link → BelowPhase → Seen → Type 0
below_differs lower Room (Was v) = v ≢ lower.status
below_differs lower Again (Was v) = v ≢ lower.status
below_differs lower Guard (Was v) = (status v).frozen ≡ true
below_differs lower Named (Was v) = (status v).frozen ≡ true
below_differs lower phase seen = ⊥

-- the swap may be made: its targets are different words
pub record IsSwapReady (c : Config) (r : Below) : Type 0 where
  pub guard_plain : r.guard < 2 ^ 61
  pub lower_plain : r.lower.status < 2 ^ 61
  pub apart : r.upper.link ≢ r.upper.guard
  pub slot : r.upper.slot < c.nodes
  pub target : is_target (renewal (with_guard r.upper r.guard) (r.slot 0)) (node_address c r.upper.slot + STATUS_AT) ≡ false

-- what is named is there; and before the slots are taken, the parent is one that may be parted, and has the room
abbrev pub IsReadyBelow : Config → Below → BelowPhase → Type 0
IsReadyBelow c r (Word i) = (r.upper.slot < c.nodes) × (i < NODE_WORDS)
IsReadyBelow c r (Store j) = HaveSlots c.nodes (below_nodes r) × (j < SPLIT_WORDS)
IsReadyBelow c r (Flush j) = HaveSlots c.nodes (below_nodes r) × (j < SPLIT_LINES)
IsReadyBelow c r Swap = HaveSlots c.nodes (below_nodes r) × IsSwapReady c r
IsReadyBelow c r phase = Unit {0}

-- the words are those of a parent whose child in the slot may be parted there
pub record HasParent (nodes slot : ℕ) (sep read : List ℕ) : Type 0 where
  pub level : ℕ
  pub child : ℕ
  pub low : Option (List ℕ)
  pub high : Option (List ℕ)
  pub is : IsParentOf nodes slot sep read level child low high

-- these are the words of the new parent, of whatever parent these were the words
abbrev pub IsNewParent : (nodes slot left right : ℕ) → List ℕ → List ℕ → List ℕ → Type 0
IsNewParent nodes slot left right sep read image =
    (level child : ℕ) (low high : Option (List ℕ)) → IsParentOf nodes slot sep read level child low high → image ≡ parted_words (children_in read) child left right sep low high level

-- three slots were taken, and the new parent is made; or there were not so many
abbrev pub HasBegunBelow : ℕ → Below → BelowPhase → FreeSlots → FreeSlots → Type 0
HasBegunBelow nodes r (Store j) old new =
    (j ≡ 0) × (AreSlotsTaken (below_nodes r) old new × (IsNewParent nodes r.lower.slot (r.slot 1) (r.slot 2) r.sep r.read (r.image 0) × (length (r.image 0) ≡ NODE_WORDS)))
HasBegunBelow nodes r NoSlot old new = (length old.free < SPLIT_SLOTS) × (new ≡ old)
HasBegunBelow nodes r phase old new = ⊥

-- as many slots are left as when the parent was first read, or too few loads are left to read it anew once more
abbrev pub IsNotOvertaken : (left waits : ℕ) → FreeSlots → Type 0
IsNotOvertaken left waits old = (waits < NODE_WORDS + 1) ⊎ (length old.free ≡ left)

-- slots are taken where nobody else has taken any since then; else the parent is read anew, for which so many loads are left, and none
-- was taken
abbrev pub HasBegunOrWaits : (nodes left before after : ℕ) → List ℕ → Below → BelowPhase → FreeSlots → FreeSlots → Type 0
HasBegunOrWaits nodes left before after read r phase old new =
    (HasBegunBelow nodes r phase old new × ((after ≡ before) × (IsNotOvertaken left before old × (r.read ≡ read)))) ⊎ ((phase ≡ Word 1) × ((after + (NODE_WORDS + 1) ≡ before) × ((new ≡ old) × IsUnread r.lower.status r.read)))

-- that is where the upper guard was no frozen node's; elsewhere none was taken
abbrev pub HasLookedBelow : (nodes left before after : ℕ) → List ℕ → Below → (word : ℕ) → BelowPhase → FreeSlots → FreeSlots → Type 0
HasLookedBelow nodes left before after read r word phase old new =
    (((status word).frozen ≡ false) × HasBegunOrWaits nodes left before after read r phase old new) ⊎ (((status word).frozen ≡ true) × ((phase ≡ Restart) × ((after ≡ before) × (new ≡ old))))

-- where the parent's status is as it was, it tells whether there is room: only then the words are read, and so many loads may be spent
-- on waiting
abbrev pub HasOpened : (before after : ℕ) → Below → Seen → BelowPhase → Type 0
HasOpened before after r seen (Word i) = (i ≡ 1) × ((seen ≡ Was r.lower.status) × (LeavesRoom r.lower.status r.sep × (after ≡ below_waits)))
HasOpened before after r seen NoRoom = (seen ≡ Was r.lower.status) × ((SHARED_WORDS < words_with r.lower.status r.sep) × (after ≡ before))
HasOpened before after r seen Restart = (seen ≢ Was r.lower.status) × (after ≡ before)
HasOpened before after r seen phase = ⊥

-- where the parent's status is once more as it was, the upper guard is looked at
abbrev pub HasTold : Below → Seen → BelowPhase → Type 0
HasTold r seen Guard = seen ≡ Was r.lower.status
HasTold r seen Restart = seen ≢ Was r.lower.status
HasTold r seen phase = ⊥

-- the guard of the link before the last, as it was read, was no frozen node's
abbrev pub IsThawedAbove : Path → Type 0
IsThawedAbove path = (link : Link) → slice_get path.links (path.depth - 2) ≡ Some link → IsStatusOf false link.status
