-- What the split of an inner node below a parent knows, and what it asks for.
use Rattle.std.specs.Prelude.{◌≡◌, ◌≢◌, ℕ, ◌+◌, ◌-◌, ◌*◌, ◌^◌, ◌<◌, ◌≤◌, nat_lt, if◌then◌else◌, false, List, [], ◌∷◌, Option, Some, None, length}
use Rattle.bz_call.specs.declared.replies.Spent.TheVariants.{Nodes as NoNodes, Swaps as NoSwaps}
use Rattle.bz_layout.specs.Addresses.{node_address}
use Rattle.bz_layout.specs.declared.config.Config.{Config}
use Rattle.bz_layout.specs.declared.sizes.TheConstants.{NODE_WORDS, STATUS_AT, SHARED_WORDS}
use Rattle.bz_layout.specs.declared.thresholds.TheConstants.{INNER_LIMIT, SPLIT_SLOTS}
use Rattle.bz_node.specs.Reading.{children_in}
use Rattle.bz_task.specs.FromSwap.SwapMemory.{is_target}
use Rattle.bz_word.specs.Statuses.{status}
use Rattle.bz_task.specs.Scene.{Past, Scene, Stage, Waiting, HasFilled}
use Rattle.bz_task.specs.declared.path.Link.{Link}
use Rattle.bz_task.specs.declared.todo.Outcome.{Outcome}
use Rattle.bz_task.specs.declared.todo.Outcome.TheVariants.{Done as IsDone, Restart as Restarts, Full as IsFull, NeedsRoom as NoneFits}
use Rattle.bz_task.specs.declared.todo.Seen.{Seen}
use Rattle.bz_task.specs.declared.todo.Seen.TheVariants.{Read as Was}
use Rattle.bz_task.specs.declared.todo.Todo.{Todo}
use Rattle.bz_task.specs.declared.todo.Todo.TheVariants.{Read as Reads, Finish}
use Rattle.bz_halves.specs.Parents.{parted_words}
use Rattle.bz_parted.specs.Parting.{child_words}
use Rattle.bz_renew.specs.Freezings.{renewal_with}
use Rattle.bz_renew.specs.Guards.{WasAsRead}
use Rattle.bz_renew.specs.Nodes.{Nodes}
use Rattle.bz_renew.specs.Renewals.{renewal}
use Rattle.bz_branch.specs.FromSplit.BelowSplits.{AreLinksDown, parent_freezing}
use Rattle.bz_branch.specs.FromSplit.Facts.{SPLIT_WORDS, SPLIT_LINES, StoodFresh}
use Rattle.bz_branch.specs.FromBelow.Facts.{HasRoom, HasParent, IsNewParent, LackedRoom, LeavesRoom, words_with}
use Rattle.bz_branch.specs.FromBelow.Parents.{WereRead, WasParent}
use Rattle.bz_branch.specs.InnerSplits.{inner_swap}
use Rattle.bz_branch.specs.Nodes.{IsOpenLink, WasInner}
use Rattle.bz_branch.specs.Parts.{IsFullNode, AreHalvesOfNode, ArePartsOfNode}
use Rattle.bz_writer.specs.Facts.{write_asks, write_facts, write_differs, write_ready}
use Rattle.bz_writer.specs.Phases.{write_end, write_left, write_swaps, write_needs}
use Rattle.bz_writer.specs.Plans.{Plan}
use Rattle.bz_writer.specs.declared.phase.WritePhase.TheVariants.{Fresh as Unbegun, Guard, Flush, Restart}
use Rattle.bz_fork.specs.declared.phase.ForkPhase.{ForkPhase}
use Rattle.bz_fork.specs.declared.phase.ForkPhase.TheVariants.{Fresh, Unread, Tight, Word, Again, Room, Above, Check, NoRoom, Writing}
use Rattle.bz_fork.specs.declared.room.TheConstants.{LEAST_CHILD_WORDS}

-- the links to the parent and to the node, and one in the node; the slots and the words of the new parent, of the left half and of
-- the right half; and the words that were read of the node and of the parent so far
pub record Fork : Type 0 where
  pub upper : Link
  pub middle : Link
  pub lower : Link
  pub slot : ℕ → ℕ
  pub image : ℕ → List ℕ
  pub read : List ℕ
  pub above : List ℕ

abbrev pub fork_nodes : Fork → Nodes
fork_nodes r = record { count = SPLIT_SLOTS; slot = r.slot; image = r.image }

-- the three links were read, each in the node to which the one before leads. The status of the parent was read at moment `guarded`,
-- that of the node at moment `counted`, and counts more words than an inner node may keep; the middle link was that to child `child`
pub record HasLinks (upper middle lower : Link) (p : Past) : Type 0 where
  pub down : AreLinksDown upper middle p
  pub node : IsOpenLink middle.slot lower p
  pub guarded : ℕ
  pub is_guarded : down.guard.guarded ≡ guarded
  pub child : ℕ
  pub is_child : down.under.child.child ≡ child
  pub counted : ℕ
  pub is_counted : node.guard.guarded ≡ counted
  pub many : INNER_LIMIT < (status lower.status).count + (status lower.status).block

-- an inner node with this status has room for no child more, below any separator
abbrev pub TakesNoChild : ℕ → Type 0
TakesNoChild st = SHARED_WORDS < (status st).count + (status st).block + LEAST_CHILD_WORDS

-- the node's words before a place were read, and of the parent the status alone
pub record IsReading (r : Fork) (place : ℕ) (p : Past) : Type 0 where
  pub links : HasLinks r.upper r.middle r.lower p
  pub were : WereRead r.middle.slot links.counted r.lower.status place r.read p
  pub above : WereRead r.upper.slot links.guarded r.middle.status 1 r.above p

-- the node's words were those that were read, and it is above its limit; and of the parent the status alone was read
pub record HasReadNode (r : Fork) (p : Past) : Type 0 where
  pub links : HasLinks r.upper r.middle r.lower p
  pub node : WasInner r.middle.slot links.counted r.read p
  pub many : INNER_LIMIT < child_words (children_in r.read)
  pub above : WereRead r.upper.slot links.guarded r.middle.status 1 r.above p

-- the node's words were these, which were not read, and it is above its limit; and the parent's status leaves room for no child more
pub record HasPassedNode (r : Fork) (p : Past) : Type 0 where
  pub links : HasLinks r.upper r.middle r.lower p
  pub unread : List ℕ
  pub node : WasInner r.middle.slot links.counted unread p
  pub many : INNER_LIMIT < child_words (children_in unread)
  pub tight : TakesNoChild r.middle.status

-- the halves of the node, and their separator
pub record HasParts (read : List ℕ) : Type 0 where
  pub left : List ℕ
  pub right : List ℕ
  pub sep : List ℕ
  pub parts : ArePartsOfNode read left right sep

-- a parent with this status has room for their separator
pub record FitsParts (read : List ℕ) (st : ℕ) : Type 0 where
  pub has : HasParts read
  pub room : LeavesRoom st has.sep

-- or it lacks the room
pub record LacksParts (read : List ℕ) (st : ℕ) : Type 0 where
  pub has : HasParts read
  pub room : SHARED_WORDS < words_with st has.sep

-- the node's words were those that were read, and it is above its limit; the parent's status leaves room for the separator of its halves,
-- and the parent's words before a place were read
pub record IsReadingAbove (r : Fork) (place : ℕ) (p : Past) : Type 0 where
  pub links : HasLinks r.upper r.middle r.lower p
  pub node : WasInner r.middle.slot links.counted r.read p
  pub many : INNER_LIMIT < child_words (children_in r.read)
  pub fits : FitsParts r.read r.middle.status
  pub above : WereRead r.upper.slot links.guarded r.middle.status place r.above p

-- the parent's words were those that were read too, one level above the node; and it has room for the separator of the node's halves
pub record IsPlan (upper middle lower : Link) (read above : List ℕ) (p : Past) : Type 0 where
  pub links : HasLinks upper middle lower p
  pub node : WasInner middle.slot links.counted read p
  pub many : INNER_LIMIT < child_words (children_in read)
  pub left : List ℕ
  pub right : List ℕ
  pub sep : List ℕ
  pub parts : AreHalvesOfNode p.config.nodes read left right sep node.level node.low node.high
  pub parent : WasParent upper middle links.guarded links.child sep above p
  pub levels : parent.level ≡ node.level + 1
  pub two : upper.slot ≢ middle.slot
  pub room : HasRoom above sep

abbrev pub IsPlanned : Fork → Past → Type 0
IsPlanned r p = IsPlan r.upper r.middle r.lower r.read r.above p

-- the node had these words, and was above its limit; and the parent lacked the room for the separator of its halves: then the split of
-- the node is not the one to be made
pub record LackedPart (upper middle : Link) (p : Past) : Type 0 where
  pub moment : ℕ
  pub read : List ℕ
  pub left : List ℕ
  pub right : List ℕ
  pub sep : List ℕ
  pub since : p.since ≤ moment
  pub now : moment ≤ p.now
  pub node : WasInner middle.slot moment read p
  pub parts : AreHalvesOfNode p.config.nodes read left right sep node.level node.low node.high
  pub lacked : LackedRoom upper middle sep p

-- the words of the new parent
abbrev pub parent_words : (r : Fork) (sep : List ℕ) (child level : ℕ) → Option (List ℕ) → Option (List ℕ) → List ℕ
parent_words r sep child level low high = parted_words (children_in r.above) child (r.slot 1) (r.slot 2) sep low high level

-- the upper link and its guard are no statuses of the parent and of the node, which are two
pub record AreClear (c : Config) (upper middle : Link) : Type 0 where
  pub link_parent : upper.link ≢ node_address c upper.slot + STATUS_AT
  pub guard_parent : upper.guard ≢ node_address c upper.slot + STATUS_AT
  pub link_node : upper.link ≢ node_address c middle.slot + STATUS_AT
  pub guard_node : upper.guard ≢ node_address c middle.slot + STATUS_AT
  pub two : upper.slot ≢ middle.slot

-- and since the node's status was read the upper guard was looked at again, and was as the path names it; the first node is the new parent,
-- the others are the node's halves
pub record IsSplitting (r : Fork) (p : Past) : Type 0 where
  pub planned : IsPlanned r p
  pub looked : WasAsRead r.upper planned.links.counted p
  pub clear : AreClear p.config r.upper r.middle
  pub halves : AreHalvesOfNode p.config.nodes r.read (r.image 1) (r.image 2) planned.sep planned.node.level planned.node.low planned.node.high
  pub over : r.image 0 ≡ parent_words r planned.sep planned.links.child planned.parent.level planned.parent.low planned.parent.high

-- at a moment since the look-up began the upper link led to a new parent: what the old one was at an earlier one, with the two halves of
-- what the node was in the place of the child to which the middle link led. To none of the three a link had led one moment before
pub record WasSplitInner (upper middle : Link) (p : Past) : Type 0 where
  pub parent_slot : ℕ
  pub left_slot : ℕ
  pub right_slot : ℕ
  pub read : List ℕ
  pub above : List ℕ
  pub left : List ℕ
  pub right : List ℕ
  pub sep : List ℕ
  pub child : ℕ
  pub moment : ℕ
  pub counted : ℕ
  pub before : ℕ
  pub since : p.since ≤ moment
  pub order : moment ≤ before
  pub counted_since : p.since ≤ counted
  pub counted_order : counted ≤ before
  pub now : before + 1 ≤ p.now
  pub old : WasParent upper middle moment child sep above p
  pub node : WasInner middle.slot counted read p
  pub parts : AreHalvesOfNode p.config.nodes read left right sep node.level node.low node.high
  pub led : (p.at (before + 1)).value upper.link ≡ parent_slot + 1
  pub parent : StoodFresh parent_slot (parted_words (children_in above) child left_slot right_slot sep old.low old.high old.level) before p
  pub left_half : StoodFresh left_slot left before p
  pub right_half : StoodFresh right_slot right before p

-- the swap may be made: its targets are different words
pub record IsSwapReady (c : Config) (r : Fork) : Type 0 where
  pub upper_plain : r.upper.status < 2 ^ 61
  pub middle_plain : r.middle.status < 2 ^ 61
  pub lower_plain : r.lower.status < 2 ^ 61
  pub apart : r.upper.link ≢ r.upper.guard
  pub upper_slot : r.upper.slot < c.nodes
  pub slot : r.middle.slot < c.nodes
  pub target : is_target (renewal r.upper (r.slot 0)) (node_address c r.upper.slot + STATUS_AT) ≡ false
  pub node_target : is_target (renewal_with c r.upper (r.slot 0) (parent_freezing r.upper r.middle ∷ [])) (node_address c r.middle.slot + STATUS_AT) ≡ false

-- the new parent and the halves are written, and the upper link goes to the parent; the old one and the node are frozen
abbrev pub fork_plan : Fork → Plan
fork_plan r = record {
  nodes = fork_nodes r;
  guard = r.upper.guard;
  status = r.upper.status;
  entries = λ c. inner_swap c r.upper r.middle r.lower (r.slot 0);
  nameable = λ c. IsSwapReady c r;
  -- the node
  basis = record { slot = r.middle.slot; nodes = [] };
  planned = IsPlanned r;
  ready = IsSplitting r;
  done = WasSplitInner r.upper r.middle;
  none = λ p. Unit {0};
}

abbrev pub fork_asks : Config → Fork → ForkPhase → Option Todo
fork_asks c r Fresh = None
fork_asks c r Unread = Some (Reads r.lower.guard)
fork_asks c r Tight = Some (Reads r.middle.guard)
fork_asks c r (Word i) = Some (Reads (node_address c r.middle.slot + i))
fork_asks c r Again = Some (Reads r.lower.guard)
fork_asks c r Room = Some (Reads r.middle.guard)
fork_asks c r (Above i) = Some (Reads (node_address c r.upper.slot + i))
fork_asks c r Check = Some (Reads r.middle.guard)
fork_asks c r (Writing w) = write_asks c (fork_plan r) w
fork_asks c r NoRoom = Some Finish

abbrev pub fork_end : ForkPhase → Option Outcome
fork_end NoRoom = Some NoneFits
fork_end (Writing w) = write_end w
fork_end phase = None

-- the most steps: the loads of the words of node and parent and of the three guards, that of the parent twice, a store for each word, a
-- flush for each line, which counts two, the swap, and the end
abbrev pub fork_acts : ℕ
fork_acts = NODE_WORDS + (NODE_WORDS + SPLIT_WORDS + 2 * SPLIT_LINES + 4)

-- of these steps so many are done at most where the parent lacks the room: the loads of the node's words and of its status, that of the
-- parent's status, and the end
abbrev pub fork_fails : ℕ
fork_fails = NODE_WORDS + 2

-- the most swaps that are still asked for: that of the link to the parent, until it has ended. Where it ended for want of room it has not
-- asked for it
abbrev pub fork_swaps : ForkPhase → ℕ
fork_swaps (Writing w) = write_swaps w
fork_swaps phase = 1

abbrev pub fork_left : ForkPhase → ℕ
fork_left Fresh = fork_acts
fork_left Unread = fork_acts - 1
fork_left Tight = fork_acts - 2
fork_left (Word i) = fork_acts - i
fork_left Again = NODE_WORDS + SPLIT_WORDS + 2 * SPLIT_LINES + 4
fork_left Room = NODE_WORDS + SPLIT_WORDS + 2 * SPLIT_LINES + 3
fork_left NoRoom = fork_acts - fork_fails
fork_left (Above i) = NODE_WORDS + SPLIT_WORDS + 2 * SPLIT_LINES + 3 - i
fork_left Check = SPLIT_WORDS + 2 * SPLIT_LINES + 3
fork_left (Writing w) = write_left SPLIT_SLOTS w

-- the steps of what is asked for
abbrev pub fork_steps : ForkPhase → ℕ
fork_steps (Writing (Flush j)) = 2
fork_steps phase = 1

-- the slots are taken when all guards have been looked at again: none where it ended for want of room
abbrev pub fork_needs : ForkPhase → ℕ
fork_needs (Writing w) = write_needs SPLIT_SLOTS w
fork_needs phase = SPLIT_SLOTS

-- after a word comes the next one that is read, or the status once more
abbrev pub word_after : ℕ → ForkPhase
word_after next = if nat_lt next NODE_WORDS then Word next else Again

abbrev pub above_after : ℕ → ForkPhase
above_after next = if nat_lt next NODE_WORDS then Above next else Check

abbrev pub fork_facts : Fork → ForkPhase → Stage → Scene → Type 0
fork_facts r Fresh Waiting s = IsReading r 1 s.past
fork_facts r Unread Waiting s = HasFilled s × (IsReading r 1 s.past × TakesNoChild r.middle.status)
fork_facts r Tight Waiting s = HasFilled s × HasPassedNode r s.past
fork_facts r (Word i) Waiting s = HasFilled s × ((0 < i) × ((i < NODE_WORDS) × IsReading r i s.past))
fork_facts r Again Waiting s = HasFilled s × IsReading r NODE_WORDS s.past
fork_facts r Room Waiting s = HasFilled s × HasReadNode r s.past
fork_facts r (Above i) Waiting s = HasFilled s × ((0 < i) × ((i < NODE_WORDS) × IsReadingAbove r i s.past))
fork_facts r Check Waiting s = HasFilled s × IsReadingAbove r NODE_WORDS s.past
fork_facts r NoRoom Waiting s = HasFilled s × LackedPart r.upper r.middle s.past
fork_facts r (Writing w) stage s = write_facts (fork_plan r) w stage s
fork_facts r phase stage s = ⊥

-- what its end means: the upper link led to a fresh parent with the two halves; or the parent lacked the room; else nothing is known
-- beyond why it ended
abbrev pub fork_means : Link → Link → Outcome → Scene → Type 0
fork_means upper middle IsDone s = WasSplitInner upper middle s.past
fork_means upper middle NoneFits s = LackedPart upper middle s.past
fork_means upper middle Restarts s = Unit {0}
fork_means upper middle (IsFull NoNodes) s = Unit {0}
fork_means upper middle (IsFull NoSwaps) s = Unit {0}
fork_means upper middle outcome s = ⊥

-- a split of an inner node below a parent ends so and in no other way
abbrev pub IsEndOfFork : Outcome → Type 0
IsEndOfFork IsDone = Unit {0}
IsEndOfFork NoneFits = Unit {0}
IsEndOfFork Restarts = Unit {0}
IsEndOfFork (IsFull NoNodes) = Unit {0}
IsEndOfFork (IsFull NoSwaps) = Unit {0}
IsEndOfFork outcome = ⊥

-- a guard is another one than the path names
abbrev pub fork_differs : Link → Link → Link → ForkPhase → Seen → Type 0
fork_differs upper middle lower Unread (Was v) = v ≢ lower.status
fork_differs upper middle lower Tight (Was v) = v ≢ middle.status
fork_differs upper middle lower Again (Was v) = v ≢ lower.status
fork_differs upper middle lower Room (Was v) = v ≢ middle.status
fork_differs upper middle lower Check (Was v) = v ≢ middle.status
fork_differs upper middle lower (Writing w) seen = write_differs upper.status w seen
fork_differs upper middle lower phase seen = ⊥

-- what is named is there
abbrev pub IsReadyFork : Config → Fork → ForkPhase → Type 0
IsReadyFork c r (Word i) = (r.middle.slot < c.nodes) × (i < NODE_WORDS)
IsReadyFork c r (Above i) = (r.upper.slot < c.nodes) × (i < NODE_WORDS)
IsReadyFork c r (Writing w) = (w ≢ Unbegun) × write_ready c (fork_plan r) w
IsReadyFork c r phase = Unit {0}

-- the node's words are those of one above its limit; the parent's words are those of one that may be parted at the node's place by the
-- separator of its halves
pub record HasNode (nodes slot : ℕ) (read above : List ℕ) : Type 0 where
  pub full : IsFullNode read
  pub parent : (left right sep : List ℕ) → ArePartsOfNode read left right sep → HasParent nodes slot sep above

-- and it has the room
pub record HasPlace (nodes slot : ℕ) (read above : List ℕ) : Type 0 where
  pub node : HasNode nodes slot read above
  pub room : (left right sep : List ℕ) → ArePartsOfNode read left right sep → HasRoom above sep

-- the three nodes are a parent with the halves of the node with these words, in these slots, and these halves
pub record AreMadeOf (nodes slot : ℕ) (read above parent left right : List ℕ) (left_slot right_slot : ℕ) : Type 0 where
  pub sep : List ℕ
  pub parts : ArePartsOfNode read left right sep
  pub over : IsNewParent nodes slot left_slot right_slot sep above parent
  pub size : length parent ≡ NODE_WORDS

-- the node's words are read, unless the parent's status leaves room for no child
abbrev pub IsFirst : Fork → ForkPhase → Type 0
IsFirst r Unread = TakesNoChild r.middle.status
IsFirst r (Word i) = (i ≡ 1) × ¬ TakesNoChild r.middle.status
IsFirst r phase = ⊥

-- where they are not read, and the node's status is as it was, the parent's is looked at once more
abbrev pub HasPassed : Fork → Seen → ForkPhase → Type 0
HasPassed r seen Tight = seen ≡ Was r.lower.status
HasPassed r seen (Writing Restart) = seen ≢ Was r.lower.status
HasPassed r seen phase = ⊥

-- and where that is as it was too, the task ends
abbrev pub HasRefused : Fork → Seen → ForkPhase → Type 0
HasRefused r seen NoRoom = seen ≡ Was r.middle.status
HasRefused r seen (Writing Restart) = seen ≢ Was r.middle.status
HasRefused r seen phase = ⊥

-- where the node's status is as it was, the parent's is looked at
abbrev pub HasRead : Fork → Seen → ForkPhase → Type 0
HasRead r seen Room = seen ≡ Was r.lower.status
HasRead r seen (Writing Restart) = seen ≢ Was r.lower.status
HasRead r seen phase = ⊥

-- where that is as it was, it tells whether there is room: only then the parent's words are read
abbrev pub HasOpened : Fork → Seen → ForkPhase → Type 0
HasOpened r seen (Above i) = (i ≡ 1) × ((seen ≡ Was r.middle.status) × FitsParts r.read r.middle.status)
HasOpened r seen NoRoom = (seen ≡ Was r.middle.status) × LacksParts r.read r.middle.status
HasOpened r seen (Writing Restart) = seen ≢ Was r.middle.status
HasOpened r seen phase = ⊥

-- where it is once more as it was, the upper guard is looked at
abbrev pub HasTold : Fork → Seen → ForkPhase → Type 0
HasTold r seen (Writing Guard) = seen ≡ Was r.middle.status
HasTold r seen (Writing Restart) = seen ≢ Was r.middle.status
HasTold r seen phase = ⊥
