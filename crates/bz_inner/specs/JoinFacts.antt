-- What a merge of two inner nodes under the root asks for, what it knows in each phase, and what its end means.
use Rattle.std.specs.Prelude.{◌≡◌, ◌≢◌, ℕ, ◌+◌, ◌-◌, ◌*◌, ◌^◌, ◌<◌, ◌≤◌, ◌⊎◌, nat_lt, if◌then◌else◌, Bool, true, false, List, [], Option, Some, None, length, slice_index}
use Rattle.bz_call.specs.declared.replies.Spent.TheVariants.{Nodes as NoNodes, Swaps as NoSwaps}
use Rattle.bz_layout.specs.Addresses.{node_address}
use Rattle.bz_layout.specs.declared.config.Config.{Config}
use Rattle.bz_layout.specs.declared.sizes.TheConstants.{NODE_WORDS, STATUS_AT, ROOT_AT}
use Rattle.bz_layout.specs.declared.thresholds.TheConstants.{SPLIT_ABOVE, MERGE_SLOTS}
use Rattle.bz_node.specs.Reading.{IsReadableInner, children_in}
use Rattle.bz_slotted.specs.ReadingLaws.{node_of}
use Rattle.bz_halves.specs.Parents.{child_at, HasChildren}
use Rattle.bz_parted.specs.Parting.{child_words}
use Rattle.bz_join.specs.Parents.{HasTwo, IsJoinedOf}
use Rattle.bz_united.specs.Uniting.{words_of_both, MayUnite, IsUnitedOf}
use Rattle.bz_word.specs.Statuses.{status}
use Rattle.bz_task.specs.Scene.{Past, Scene, Stage, Waiting, HasFilled}
use Rattle.bz_task.specs.declared.path.Link.{Link}
use Rattle.bz_task.specs.declared.todo.Outcome.{Outcome}
use Rattle.bz_task.specs.declared.todo.Outcome.TheVariants.{Done as IsDone, Restart as Restarts, NeedsRoom, Full as IsFull}
use Rattle.bz_task.specs.declared.todo.Seen.{Seen}
use Rattle.bz_task.specs.declared.todo.Seen.TheVariants.{Read as Was}
use Rattle.bz_task.specs.declared.todo.Todo.{Todo}
use Rattle.bz_task.specs.declared.todo.Todo.TheVariants.{Read as Reads, Finish}
use Rattle.bz_renew.specs.Due.{IsStatusOf}
use Rattle.bz_renew.specs.Nodes.{Nodes}
use Rattle.bz_writer.specs.Facts.{write_asks, write_facts, write_differs, write_ready}
use Rattle.bz_writer.specs.Phases.{write_acts, write_end, write_left, write_swaps, write_needs}
use Rattle.bz_writer.specs.Plans.{Plan}
use Rattle.bz_writer.specs.declared.phase.WritePhase.TheVariants.{Fresh as Unbegun, Guard, Restart}
use Rattle.bz_inner.specs.InnerMerges.{merge_swap}
use Rattle.bz_inner.specs.Joinings.{Joining, left_slot, right_slot, left_words, right_words, sep_of, IsReadingAbove, IsReadingOwn, HasOwn, IsReadingBeside, ArePlanned, AreJoining, WasJoined, WasNotSmall, HadNoRoom}
use Rattle.bz_inner.specs.Neighbours.{AreApart, IsNeighbour, IsOnlyChild}
use Rattle.bz_inner.specs.declared.join_phase.JoinPhase.{JoinPhase}
use Rattle.bz_inner.specs.declared.join_phase.JoinPhase.TheVariants.{Fresh, Pointer, Above, AboveAgain, Own, OwnAgain, Status, Beside, BesideAgain, NoRoom, Writing}
use Rattle.bz_inner.specs.declared.neighbour.Neighbour.{Neighbour}

abbrev pub joining_nodes : Joining → Nodes
joining_nodes r = record { count = MERGE_SLOTS; slot = r.slot; image = r.image }

-- the swap may be made: its targets are different words
pub record IsSwapReady (c : Config) (r : Joining) : Type 0 where
  pub above_plain : slice_index r.above STATUS_AT < 2 ^ 61
  pub left_plain : slice_index (left_words r) STATUS_AT < 2 ^ 61
  pub right_plain : slice_index (right_words r) STATUS_AT < 2 ^ 61
  pub root_within : r.upper.slot < c.nodes
  pub left_within : left_slot r < c.nodes
  pub right_within : right_slot r < c.nodes
  pub apart : AreApart (left_slot r) (right_slot r) r.upper.slot

-- a new root and the joined node are written, and the root pointer goes to that root; the old one and the two are frozen. The guard is the
-- root pointer itself
abbrev pub joining_plan : Joining → Plan
joining_plan r = record {
  nodes = joining_nodes r;
  guard = ROOT_AT;
  status = r.upper.slot + 1;
  entries = λ c. merge_swap c (left_slot r) (right_slot r) r.upper.slot (left_words r) (right_words r) r.above (r.slot 0);
  nameable = λ c. IsSwapReady c r;
  -- the root
  basis = record { slot = r.upper.slot; nodes = [] };
  planned = ArePlanned r;
  ready = AreJoining r;
  done = WasJoined r.upper r.middle;
  none = λ p. Unit {0};
}

abbrev pub joining_asks : Config → Joining → JoinPhase → Option Todo
joining_asks c r Fresh = None
joining_asks c r Pointer = Some (Reads ROOT_AT)
joining_asks c r (Above i) = Some (Reads (node_address c r.upper.slot + i))
joining_asks c r AboveAgain = Some (Reads r.middle.guard)
joining_asks c r (Own i) = Some (Reads (node_address c r.middle.slot + i))
joining_asks c r OwnAgain = Some (Reads r.lower.guard)
joining_asks c r Status = Some (Reads (node_address c r.beside_slot + STATUS_AT))
joining_asks c r (Beside i) = Some (Reads (node_address c r.beside_slot + i))
joining_asks c r BesideAgain = Some (Reads (node_address c r.beside_slot + STATUS_AT))
joining_asks c r (Writing w) = write_asks c (joining_plan r) w
joining_asks c r NoRoom = Some Finish

abbrev pub joining_end : JoinPhase → Option Outcome
joining_end NoRoom = Some NeedsRoom
joining_end (Writing w) = write_end w
joining_end phase = None

-- the most steps: the loads of the words of the three nodes, their statuses twice, and what the writing takes
abbrev pub joining_acts : ℕ
joining_acts = write_acts MERGE_SLOTS + 3 * NODE_WORDS + 1

abbrev pub joining_left : JoinPhase → ℕ
joining_left Fresh = joining_acts
joining_left Pointer = 1
joining_left (Above i) = write_acts MERGE_SLOTS + 3 * NODE_WORDS + 1 - i
joining_left AboveAgain = write_acts MERGE_SLOTS + 2 * NODE_WORDS + 1
joining_left (Own i) = write_acts MERGE_SLOTS + 2 * NODE_WORDS + 1 - i
joining_left OwnAgain = write_acts MERGE_SLOTS + NODE_WORDS + 1
joining_left Status = write_acts MERGE_SLOTS + NODE_WORDS
joining_left (Beside i) = write_acts MERGE_SLOTS + NODE_WORDS - i
joining_left BesideAgain = write_acts MERGE_SLOTS
joining_left (Writing w) = write_left MERGE_SLOTS w
joining_left NoRoom = 0

-- the most swaps that are still asked for: that of the root pointer, until it has ended
abbrev pub joining_swaps : JoinPhase → ℕ
joining_swaps NoRoom = 0
joining_swaps (Writing w) = write_swaps w
joining_swaps phase = 1

-- the slots are taken when the root pointer has been looked at again
abbrev pub joining_needs : JoinPhase → ℕ
joining_needs NoRoom = 0
joining_needs (Writing w) = write_needs MERGE_SLOTS w
joining_needs phase = MERGE_SLOTS

-- after a word comes the next one that is read, or the status once more
abbrev pub above_after : ℕ → JoinPhase
above_after next = if nat_lt next NODE_WORDS then Above next else AboveAgain

abbrev pub own_after : ℕ → JoinPhase
own_after next = if nat_lt next NODE_WORDS then Own next else OwnAgain

abbrev pub beside_after : ℕ → JoinPhase
beside_after next = if nat_lt next NODE_WORDS then Beside next else BesideAgain

-- what the path tells at the begin
abbrev pub joining_begins : Bool → Joining → Past → Type 0
joining_begins true r p = IsReadingAbove r 1 p
joining_begins false r p = WasNotSmall r.upper r.middle r.lower p

abbrev pub joining_facts : Joining → JoinPhase → Stage → Scene → Type 0
joining_facts r Fresh Waiting s = joining_begins r.small r s.past
joining_facts r Pointer Waiting s = HasFilled s × WasNotSmall r.upper r.middle r.lower s.past
joining_facts r (Above i) Waiting s = HasFilled s × ((0 < i) × ((i < NODE_WORDS) × IsReadingAbove r i s.past))
joining_facts r AboveAgain Waiting s = HasFilled s × IsReadingAbove r NODE_WORDS s.past
joining_facts r (Own i) Waiting s = HasFilled s × ((0 < i) × ((i < NODE_WORDS) × IsReadingOwn r i s.past))
joining_facts r OwnAgain Waiting s = HasFilled s × IsReadingOwn r NODE_WORDS s.past
joining_facts r Status Waiting s = HasFilled s × HasOwn r s.past
joining_facts r (Beside i) Waiting s = HasFilled s × ((0 < i) × ((i < NODE_WORDS) × IsReadingBeside r i s.past))
joining_facts r BesideAgain Waiting s = HasFilled s × IsReadingBeside r NODE_WORDS s.past
joining_facts r NoRoom Waiting s = HasFilled s × HadNoRoom r.upper r.middle r.lower s.past
joining_facts r (Writing w) stage s = write_facts (joining_plan r) w stage s
joining_facts r phase stage s = ⊥

-- what its end means: the root pointer led to a fresh root with the two made one; or they were not to be merged; else nothing is known
-- beyond why it ended
abbrev pub joining_means : Link → Link → Link → Outcome → Scene → Type 0
joining_means upper middle lower IsDone s = WasJoined upper middle s.past
joining_means upper middle lower NeedsRoom s = HadNoRoom upper middle lower s.past
joining_means upper middle lower Restarts s = Unit {0}
joining_means upper middle lower (IsFull NoNodes) s = Unit {0}
joining_means upper middle lower (IsFull NoSwaps) s = Unit {0}
joining_means upper middle lower outcome s = ⊥

-- a merge of two inner nodes ends so and in no other way
abbrev pub IsEndOfJoining : Outcome → Type 0
IsEndOfJoining IsDone = Unit {0}
IsEndOfJoining NeedsRoom = Unit {0}
IsEndOfJoining Restarts = Unit {0}
IsEndOfJoining (IsFull NoNodes) = Unit {0}
IsEndOfJoining (IsFull NoSwaps) = Unit {0}
IsEndOfJoining outcome = ⊥

-- a status is another one than was read, or a frozen node's; or the root pointer is another one
abbrev pub joining_differs : Joining → JoinPhase → Seen → Type 0
joining_differs r AboveAgain (Was v) = (v ≢ r.middle.status) ⊎ ((status v).frozen ≡ true)
joining_differs r OwnAgain (Was v) = (v ≢ r.lower.status) ⊎ ((status v).frozen ≡ true)
joining_differs r Status (Was v) = (status v).frozen ≡ true
joining_differs r BesideAgain (Was v) = v ≢ slice_index r.beside STATUS_AT
joining_differs r (Writing w) seen = write_differs (r.upper.slot + 1) w seen
joining_differs r phase seen = ⊥

-- what is named is there
abbrev pub joining_ready : Config → Joining → JoinPhase → Type 0
joining_ready c r (Above i) = (r.upper.slot < c.nodes) × (i < NODE_WORDS)
joining_ready c r (Own i) = (r.middle.slot < c.nodes) × (i < NODE_WORDS)
joining_ready c r Status = r.beside_slot < c.nodes
joining_ready c r (Beside i) = (r.beside_slot < c.nodes) × (i < NODE_WORDS)
joining_ready c r BesideAgain = r.beside_slot < c.nodes
joining_ready c r (Writing w) = (w ≢ Unbegun) × write_ready c (joining_plan r) w
joining_ready c r phase = Unit {0}

-- told to begin it reads the root's words, where the path shows a small node under it; else it looks at the root pointer
abbrev pub HasBegun : Joining → JoinPhase → Type 0
HasBegun r (Above i) = (i ≡ 1) × (r.small ≡ true)
HasBegun r Pointer = r.small ≡ false
HasBegun r phase = ⊥

-- where the root's own status is as it was, and no frozen node's, its words tell the neighbour
abbrev pub HasTold : Joining → Seen → Neighbour → JoinPhase → Type 0
HasTold r seen side (Own i) = (i ≡ 1) × ((seen ≡ Was r.middle.status) × (IsStatusOf false r.middle.status × IsNeighbour r.above r.middle.slot side.right side.place side.slot))
HasTold r seen side NoRoom = (seen ≡ Was r.middle.status) × (IsStatusOf false r.middle.status × IsOnlyChild r.above r.middle.slot)
HasTold r seen side (Writing Restart) = seen ≡ Was r.middle.status → ¬ IsStatusOf false r.middle.status
HasTold r seen side phase = ⊥

-- where the node's status is so too, that of the neighbour is read
abbrev pub HasRead : Joining → Seen → JoinPhase → Type 0
HasRead r seen Status = (seen ≡ Was r.lower.status) × IsStatusOf false r.lower.status
HasRead r seen (Writing Restart) = seen ≡ Was r.lower.status → ¬ IsStatusOf false r.lower.status
HasRead r seen phase = ⊥

-- the words begin with the status that was found, which is no frozen node's, and no other is read yet
pub record IsFirstOf (seen : Seen) (read : List ℕ) : Type 0 where
  pub was : seen ≡ Was (slice_index read STATUS_AT)
  pub thawed : IsStatusOf false (slice_index read STATUS_AT)
  pub size : length read ≡ NODE_WORDS
  pub blank : (i : ℕ) → 0 < i → slice_index read i ≡ 0

-- with it the neighbour's words begin, unless it is frozen
abbrev pub HasOpened : Seen → List ℕ → JoinPhase → Type 0
HasOpened seen read (Beside i) = (i ≡ 1) × IsFirstOf seen read
HasOpened seen read (Writing Restart) = (v : ℕ) → seen ≡ Was v → ¬ IsStatusOf false v
HasOpened seen read phase = ⊥

-- the words of an inner node, read as its children, which take so many words as its status tells
pub record IsCounted (read : List ℕ) : Type 0 where
  pub plain : slice_index read STATUS_AT < 2 ^ 61
  pub taken : child_words (children_in read) ≡ (status (slice_index read STATUS_AT)).count + (status (slice_index read STATUS_AT)).block

-- the root's words tell the key between the two
pub record HasSeparator (above : List ℕ) (place : ℕ) : Type 0 where
  pub readable : IsReadableInner above
  pub has : HasChildren (node_of above) (children_in above)
  pub within : place + 1 < length (children_in above)
  pub key : (child_at (children_in above) (place + 1)).low ≡ Some (sep_of above place)

-- what is needed to see whether the two have room in one
pub record IsWeighable (r : Joining) : Type 0 where
  pub own : IsCounted r.own
  pub other : IsCounted r.beside
  pub separator : HasSeparator r.above r.place

-- the words that the two and the key take
abbrev pub both_words : Joining → ℕ
both_words r = words_of_both (children_in (left_words r)) (children_in (right_words r)) (sep_of r.above r.place)

-- where the neighbour's status is as it was, its words tell whether there is room in one
abbrev pub HasWeighed : Joining → Seen → JoinPhase → Type 0
HasWeighed r seen (Writing Guard) = (seen ≡ Was (slice_index r.beside STATUS_AT)) × (both_words r ≤ SPLIT_ABOVE)
HasWeighed r seen NoRoom = (seen ≡ Was (slice_index r.beside STATUS_AT)) × (SPLIT_ABOVE < both_words r)
HasWeighed r seen (Writing Restart) = seen ≢ Was (slice_index r.beside STATUS_AT)
HasWeighed r seen phase = ⊥

-- the new nodes may be made
pub record MayJoin (nodes : ℕ) (r : Joining) : Type 0 where
  pub raw : ℕ → ℕ
  pub level : ℕ
  pub low : Option (List ℕ)
  pub high : Option (List ℕ)
  pub two : HasTwo nodes raw r.above level low high r.place
  pub unite : MayUnite (left_words r) (right_words r) (sep_of r.above r.place)
  pub separator : HasSeparator r.above r.place

-- they are: the root with one in the place of the two, and that one
pub record AreMadeOf (r : Joining) (slot : ℕ) (root joined : List ℕ) : Type 0 where
  pub over : IsJoinedOf r.above r.place slot root
  pub size : length root ≡ NODE_WORDS
  pub one : IsUnitedOf (left_words r) (right_words r) (sep_of r.above r.place) joined
  pub one_size : length joined ≡ NODE_WORDS
