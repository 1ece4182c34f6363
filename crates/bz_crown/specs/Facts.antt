-- What the split of an inner root knows, and what it asks for.
use Rattle.std.specs.Prelude.{◌≡◌, ◌≢◌, ℕ, ◌+◌, ◌-◌, ◌*◌, ◌^◌, ◌<◌, ◌≤◌, nat_lt, if◌then◌else◌, false, List, [], Option, Some, None, length}
use Rattle.bz_call.specs.declared.replies.Spent.TheVariants.{Nodes as NoNodes, Swaps as NoSwaps, Height as NoLevels}
use Rattle.bz_layout.specs.Addresses.{node_address}
use Rattle.bz_layout.specs.declared.config.Config.{Config}
use Rattle.bz_layout.specs.declared.sizes.TheConstants.{NODE_WORDS, STATUS_AT}
use Rattle.bz_layout.specs.declared.thresholds.TheConstants.{INNER_LIMIT, MAX_LEVELS, SPLIT_SLOTS}
use Rattle.bz_node.specs.Reading.{children_in}
use Rattle.bz_slotted.specs.ReadingLaws.{node_of}
use Rattle.bz_slotted.specs.Rules.{node_fault}
use Rattle.bz_task.specs.FromSwap.SwapMemory.{is_target}
use Rattle.bz_word.specs.Statuses.{status}
use Rattle.bz_task.specs.Outcomes.{IsUnderRoot, IsGuarded}
use Rattle.bz_task.specs.Scene.{Past, Scene, Stage, Waiting, HasFilled}
use Rattle.bz_task.specs.declared.path.Link.{Link}
use Rattle.bz_task.specs.declared.todo.Outcome.{Outcome}
use Rattle.bz_task.specs.declared.todo.Outcome.TheVariants.{Done as IsDone, Restart as Restarts, Full as IsFull}
use Rattle.bz_task.specs.declared.todo.Seen.{Seen}
use Rattle.bz_task.specs.declared.todo.Seen.TheVariants.{Read as Was}
use Rattle.bz_task.specs.declared.todo.Todo.{Todo}
use Rattle.bz_task.specs.declared.todo.Todo.TheVariants.{Read as Reads, Finish}
use Rattle.bz_parted.specs.Parting.{child_words}
use Rattle.bz_parted.specs.Roots.{tall_root_words}
use Rattle.bz_renew.specs.Guards.{WasAsRead}
use Rattle.bz_renew.specs.Nodes.{Nodes}
use Rattle.bz_renew.specs.Renewals.{renewal}
use Rattle.bz_branch.specs.FromSplit.BelowSplits.{below_swap}
use Rattle.bz_branch.specs.FromSplit.Facts.{SPLIT_WORDS, SPLIT_LINES, StoodFresh}
use Rattle.bz_branch.specs.FromBelow.Parents.{WereRead}
use Rattle.bz_branch.specs.Nodes.{IsOpenLink, WasInner}
use Rattle.bz_branch.specs.Parts.{IsFullNode, AreHalvesOfNode, ArePartsOfNode}
use Rattle.bz_writer.specs.Facts.{write_asks, write_facts, write_differs, write_ready}
use Rattle.bz_writer.specs.Phases.{write_end, write_left, write_swaps, write_needs}
use Rattle.bz_writer.specs.Plans.{Plan}
use Rattle.bz_writer.specs.declared.phase.WritePhase.TheVariants.{Fresh as Unbegun, Guard, Flush, Restart}
use Rattle.bz_crown.specs.declared.phase.CrownPhase.{CrownPhase}
use Rattle.bz_crown.specs.declared.phase.CrownPhase.TheVariants.{Fresh, Word, Again, TooHigh, Writing}

-- the root link, and a link in the root; the slots and the words of the new root, of the left half and of the right half; and the
-- words that were read of the root so far
pub record Crown : Type 0 where
  pub upper : Link
  pub lower : Link
  pub slot : ℕ → ℕ
  pub image : ℕ → List ℕ
  pub read : List ℕ

abbrev pub crown_nodes : Crown → Nodes
crown_nodes r = record { count = SPLIT_SLOTS; slot = r.slot; image = r.image }

-- both links were read; the lower one stands in the node to which the root link leads, whose status, read at moment `guarded`, counts
-- more words than an inner node may keep
pub record HasLinks (upper lower : Link) (p : Past) : Type 0 where
  pub under : IsUnderRoot upper
  pub guard : IsGuarded p upper
  pub thawed : (status upper.status).frozen ≡ false
  pub node : IsOpenLink upper.slot lower p
  pub guarded : ℕ
  pub is_guarded : node.guard.guarded ≡ guarded
  pub many : INNER_LIMIT < (status lower.status).count + (status lower.status).block

-- the root's words before a place were read
pub record IsReading (r : Crown) (place : ℕ) (p : Past) : Type 0 where
  pub links : HasLinks r.upper r.lower p
  pub were : WereRead r.upper.slot links.guarded r.lower.status place r.read p

-- the root's words were those that were read; it is above its limit, and there may be a level above it
pub record IsPlan (upper lower : Link) (read : List ℕ) (p : Past) : Type 0 where
  pub links : HasLinks upper lower p
  pub node : WasInner upper.slot links.guarded read p
  pub many : INNER_LIMIT < child_words (children_in read)
  pub low_enough : node.level + 1 < MAX_LEVELS

abbrev pub IsPlanned : Crown → Past → Type 0
IsPlanned r p = IsPlan r.upper r.lower r.read p

-- the node to which the root link led was at the top of as many levels as a tree may have, and above its limit: then it is not split
pub record WasTooHigh (upper : Link) (p : Past) : Type 0 where
  pub moment : ℕ
  pub read : List ℕ
  pub since : p.since ≤ moment
  pub now : moment ≤ p.now
  pub node : WasInner upper.slot moment read p
  pub many : INNER_LIMIT < child_words (children_in read)
  pub highest : MAX_LEVELS ≤ node.level + 1

-- and since the root's status was read the root status was looked at again, and was as the path names it; the first node is the root over
-- the halves of the old one
pub record IsSplitting (r : Crown) (p : Past) : Type 0 where
  pub planned : IsPlanned r p
  pub looked : WasAsRead r.upper planned.links.guarded p
  pub sep : List ℕ
  pub parts : AreHalvesOfNode p.config.nodes r.read (r.image 1) (r.image 2) sep planned.node.level planned.node.low planned.node.high
  pub over : r.image 0 ≡ tall_root_words (r.slot 1) (r.slot 2) sep (planned.node.level + 1)

-- at a moment since the look-up began the root link led to a new root, one level above what the old one was at an earlier one, over the
-- two halves of that. To none of the three a link had led one moment before
pub record WasSplitAtRoot (upper : Link) (p : Past) : Type 0 where
  pub root_slot : ℕ
  pub left_slot : ℕ
  pub right_slot : ℕ
  pub read : List ℕ
  pub left : List ℕ
  pub right : List ℕ
  pub sep : List ℕ
  pub moment : ℕ
  pub before : ℕ
  pub since : p.since ≤ moment
  pub order : moment ≤ before
  pub now : before + 1 ≤ p.now
  pub old : WasInner upper.slot moment read p
  pub parts : AreHalvesOfNode p.config.nodes read left right sep old.level old.low old.high
  pub led : (p.at (before + 1)).value upper.link ≡ root_slot + 1
  pub root : StoodFresh root_slot (tall_root_words left_slot right_slot sep (old.level + 1)) before p
  pub left_half : StoodFresh left_slot left before p
  pub right_half : StoodFresh right_slot right before p

-- the swap may be made: its targets are different words
pub record IsSwapReady (c : Config) (r : Crown) : Type 0 where
  pub upper_plain : r.upper.status < 2 ^ 61
  pub lower_plain : r.lower.status < 2 ^ 61
  pub apart : r.upper.link ≢ r.upper.guard
  pub slot : r.upper.slot < c.nodes
  pub target : is_target (renewal r.upper (r.slot 0)) (node_address c r.upper.slot + STATUS_AT) ≡ false

-- the new root and the halves are written, and the root link goes to the root; the old one is frozen
abbrev pub crown_plan : Crown → Plan
crown_plan r = record {
  nodes = crown_nodes r;
  guard = r.upper.guard;
  status = r.upper.status;
  entries = λ c. below_swap c r.upper r.lower (r.slot 0);
  nameable = λ c. IsSwapReady c r;
  -- the root
  basis = record { slot = r.upper.slot; nodes = [] };
  planned = IsPlanned r;
  ready = IsSplitting r;
  done = WasSplitAtRoot r.upper;
  none = λ p. Unit {0};
}

abbrev pub crown_asks : Config → Crown → CrownPhase → Option Todo
crown_asks c r Fresh = None
crown_asks c r (Word i) = Some (Reads (node_address c r.upper.slot + i))
crown_asks c r Again = Some (Reads r.lower.guard)
crown_asks c r (Writing w) = write_asks c (crown_plan r) w
crown_asks c r TooHigh = Some Finish

abbrev pub crown_end : CrownPhase → Option Outcome
crown_end TooHigh = Some (IsFull NoLevels)
crown_end (Writing w) = write_end w
crown_end phase = None

-- the most steps: the loads of the root's words and of the two guards, a store for each word, a flush for each line, which counts two,
-- the swap, and the end
abbrev pub crown_acts : ℕ
crown_acts = NODE_WORDS + SPLIT_WORDS + 2 * SPLIT_LINES + 3

-- the most swaps that are still asked for: that of the root link, until it has ended
abbrev pub crown_swaps : CrownPhase → ℕ
crown_swaps TooHigh = 0
crown_swaps (Writing w) = write_swaps w
crown_swaps phase = 1

abbrev pub crown_left : CrownPhase → ℕ
crown_left Fresh = crown_acts
crown_left (Word i) = crown_acts - i
crown_left Again = SPLIT_WORDS + 2 * SPLIT_LINES + 3
crown_left (Writing w) = write_left SPLIT_SLOTS w
crown_left TooHigh = 0

-- the steps of what is asked for
abbrev pub crown_steps : CrownPhase → ℕ
crown_steps (Writing (Flush j)) = 2
crown_steps phase = 1

-- the slots are taken when both guards have been looked at again
abbrev pub crown_needs : CrownPhase → ℕ
crown_needs (Writing w) = write_needs SPLIT_SLOTS w
crown_needs TooHigh = 0
crown_needs phase = SPLIT_SLOTS

-- after a word comes the next one that is read, or the root's status once more
abbrev pub word_after : ℕ → CrownPhase
word_after next = if nat_lt next NODE_WORDS then Word next else Again

abbrev pub crown_facts : Crown → CrownPhase → Stage → Scene → Type 0
crown_facts r Fresh Waiting s = IsReading r 1 s.past
crown_facts r (Word i) Waiting s = HasFilled s × ((0 < i) × ((i < NODE_WORDS) × IsReading r i s.past))
crown_facts r Again Waiting s = HasFilled s × IsReading r NODE_WORDS s.past
crown_facts r TooHigh Waiting s = HasFilled s × WasTooHigh r.upper s.past
crown_facts r (Writing w) stage s = write_facts (crown_plan r) w stage s
crown_facts r phase stage s = ⊥

-- what its end means: the root link led to a fresh root over the two halves; or the tree had as many levels as there may be; else
-- nothing is known beyond why it ended
abbrev pub crown_means : Link → Outcome → Scene → Type 0
crown_means upper IsDone s = WasSplitAtRoot upper s.past
crown_means upper (IsFull NoLevels) s = WasTooHigh upper s.past
crown_means upper Restarts s = Unit {0}
crown_means upper (IsFull NoNodes) s = Unit {0}
crown_means upper (IsFull NoSwaps) s = Unit {0}
crown_means upper outcome s = ⊥

-- a split of an inner root ends so and in no other way
abbrev pub IsEndOfCrown : Outcome → Type 0
IsEndOfCrown IsDone = Unit {0}
IsEndOfCrown Restarts = Unit {0}
IsEndOfCrown (IsFull NoLevels) = Unit {0}
IsEndOfCrown (IsFull NoNodes) = Unit {0}
IsEndOfCrown (IsFull NoSwaps) = Unit {0}
IsEndOfCrown outcome = ⊥

-- a guard is another one than the path names
abbrev pub crown_differs : Link → Link → CrownPhase → Seen → Type 0
crown_differs upper lower Again (Was v) = v ≢ lower.status
crown_differs upper lower (Writing w) seen = write_differs upper.status w seen
crown_differs upper lower phase seen = ⊥

-- what is named is there
abbrev pub IsReadyCrown : Config → Crown → CrownPhase → Type 0
IsReadyCrown c r (Word i) = (r.upper.slot < c.nodes) × (i < NODE_WORDS)
IsReadyCrown c r (Writing w) = (w ≢ Unbegun) × write_ready c (crown_plan r) w
IsReadyCrown c r phase = Unit {0}

-- the words are those of an inner node above its limit, above which there may be a level
pub record IsSplittable (read : List ℕ) : Type 0 where
  pub full : IsFullNode read
  pub low_enough : full.level + 1 < MAX_LEVELS

-- whatever node these are the words of, there may be a level above it; or there may be none
abbrev pub IsLowEnough : List ℕ → Type 0
IsLowEnough read = (nodes : ℕ) (raw : ℕ → ℕ) (level : ℕ) (low high : Option (List ℕ)) → node_fault nodes raw (node_of read) level low high ≡ None → level + 1 < MAX_LEVELS

abbrev pub IsHighest : List ℕ → Type 0
IsHighest read = (nodes : ℕ) (raw : ℕ → ℕ) (level : ℕ) (low high : Option (List ℕ)) → node_fault nodes raw (node_of read) level low high ≡ None → MAX_LEVELS ≤ level + 1

-- the three nodes are the root in these slots over the halves of the node with these words, and these halves
pub record AreMadeOf (read root left right : List ℕ) (left_slot right_slot : ℕ) : Type 0 where
  pub sep : List ℕ
  pub parts : ArePartsOfNode read left right sep
  pub over : (nodes : ℕ) (raw : ℕ → ℕ) (level : ℕ) (low high : Option (List ℕ)) → node_fault nodes raw (node_of read) level low high ≡ None → root ≡ tall_root_words left_slot right_slot sep (level + 1)
  pub size : length root ≡ NODE_WORDS

-- where the root's own status is as it was, its words tell whether there may be a level above it
abbrev pub HasTold : Crown → Seen → CrownPhase → Type 0
HasTold r seen (Writing Guard) = (seen ≡ Was r.lower.status) × IsLowEnough r.read
HasTold r seen TooHigh = (seen ≡ Was r.lower.status) × IsHighest r.read
HasTold r seen (Writing Restart) = seen ≢ Was r.lower.status
HasTold r seen phase = ⊥
