-- What the split of a root leaf knows, and what it asks for.
use Rattle.std.specs.Prelude.{◌≡◌, ◌≢◌, ℕ, ◌+◌, ◌*◌, ◌^◌, ◌<◌, ◌≤◌, true, false, List, [], ◌∷◌, All, Option, Some, None, slice_index, length}
use Rattle.bz_call.specs.declared.replies.Spent.TheVariants.{Nodes as NoNodes, Swaps as NoSwaps}
use Rattle.bz_key.specs.Bytes.{IsKey}
use Rattle.bz_layout.specs.Addresses.{node_address}
use Rattle.bz_layout.specs.declared.config.Config.{Config}
use Rattle.bz_layout.specs.declared.sizes.TheConstants.{NODE_WORDS, NODE_LINES}
use Rattle.bz_layout.specs.declared.thresholds.TheConstants.{SPLIT_ABOVE, SPLIT_SLOTS}
use Rattle.bz_tree.specs.Order.{is_before}
use Rattle.bz_slotted.specs.Readers.{found_of, live_of}
use Rattle.bz_slotted.specs.ReadingLaws.{node_of}
use Rattle.bz_slotted.specs.Rules.{node_fault}
use Rattle.bz_word.specs.Statuses.{status}
use Rattle.bz_task.specs.Instant.{words, durable, form_at}
use Rattle.bz_task.specs.Outcomes.{IsUnderRoot, IsGuarded}
use Rattle.bz_task.specs.Scene.{Past, Scene, Stage}
use Rattle.bz_task.specs.Swaps.{Change}
use Rattle.bz_task.specs.declared.path.Link.{Link}
use Rattle.bz_task.specs.declared.view.LeafView.{LeafView}
use Rattle.bz_task.specs.declared.todo.Outcome.{Outcome}
use Rattle.bz_task.specs.declared.todo.Outcome.TheVariants.{Done as IsDone, Restart as Restarts, Full as IsFull}
use Rattle.bz_task.specs.declared.todo.Seen.{Seen}
use Rattle.bz_task.specs.declared.todo.Todo.{Todo}
use Rattle.bz_halves.specs.Roots.{root_words}
use Rattle.bz_renew.specs.FrozenLeaves.{WasFrozenLeaf}
use Rattle.bz_renew.specs.Guards.{WasAsRead}
use Rattle.bz_renew.specs.Nodes.{Nodes}
use Rattle.bz_renew.specs.Renewals.{renewal}
use Rattle.bz_writer.specs.Facts.{write_asks, write_facts, write_differs}
use Rattle.bz_writer.specs.Phases.{write_acts, write_left, write_swaps, write_needs, means_of, no_change}
use Rattle.bz_writer.specs.Plans.{Plan}
use Rattle.bz_writer.specs.declared.phase.WritePhase.{WritePhase}
use Rattle.bz_split.specs.Parts.{ArePartsOf}

-- the words and the lines of three nodes
abbrev pub SPLIT_WORDS : ℕ
SPLIT_WORDS = NODE_WORDS * SPLIT_SLOTS

abbrev pub SPLIT_LINES : ℕ
SPLIT_LINES = NODE_LINES * SPLIT_SLOTS

-- the link that is turned; the slots and the words of the new root, of the left half and of the right half; and the separator
pub record Split : Type 0 where
  pub link : Link
  pub slot : ℕ → ℕ
  pub image : ℕ → List ℕ
  pub sep : List ℕ

abbrev pub nodes_in : Split → Nodes
nodes_in r = record { count = SPLIT_SLOTS; slot = r.slot; image = r.image }

-- the root link was read; the leaf to which it leads was frozen, with more live words than a leaf may keep, and the two parts say what it says
pub record HasParted (link : Link) (left right sep : List ℕ) (p : Past) : Type 0 where
  pub under : IsUnderRoot link
  pub guard : IsGuarded p link
  pub thawed : (status link.status).frozen ≡ false
  pub moment : ℕ
  pub leaf : WasFrozenLeaf link.slot moment p
  pub many : SPLIT_ABOVE < live_of (durable p.config (p.at moment) link.slot)
  pub separator : IsKey sep
  pub left_whole : node_fault p.config.nodes (node_of left) (node_of left) 0 ((form_at p.config (p.at moment)).low link.slot) (Some sep) ≡ None
  pub right_whole : node_fault p.config.nodes (node_of right) (node_of right) 0 (Some sep) ((form_at p.config (p.at moment)).high link.slot) ≡ None
  pub before : (key : List ℕ) → is_before key sep ≡ true → found_of (node_of left) key ≡ found_of (words p.config (p.at moment) link.slot) key
  pub from : (key : List ℕ) → is_before key sep ≡ false → found_of (node_of right) key ≡ found_of (words p.config (p.at moment) link.slot) key
  pub left_size : length left ≡ NODE_WORDS
  pub right_size : length right ≡ NODE_WORDS
  pub left_plain : All (λ v. v < 2 ^ 61) left
  pub right_plain : All (λ v. v < 2 ^ 61) right

-- and since the leaf was frozen the guard was looked at again, and was as the path names it; and the first node is the root over the two
-- others
pub record IsSplitting (r : Split) (p : Past) : Type 0 where
  pub parted : HasParted r.link (r.image 1) (r.image 2) r.sep p
  pub looked : WasAsRead r.link parted.moment p
  pub over : r.image 0 ≡ root_words (r.slot 1) (r.slot 2) r.sep

-- these words stood in a slot at a moment, to which no link had led one moment before
pub record StoodFresh (slot : ℕ) (image : List ℕ) (before : ℕ) (p : Past) : Type 0 where
  pub unreached : (p.at before).reached slot ≡ false
  pub copied : (i : ℕ) → i < NODE_WORDS → (p.at (before + 1)).value (node_address p.config slot + i) ≡ slice_index image i

-- at a moment since the look-up began the link led to a root over two leaves: to none of the three a link had led one moment
-- before, and the leaves were these
pub record WasSplit (link : Link) (left right sep : List ℕ) (p : Past) : Type 0 where
  pub root_slot : ℕ
  pub left_slot : ℕ
  pub right_slot : ℕ
  pub before : ℕ
  pub since : p.since ≤ before
  pub now : before + 1 ≤ p.now
  pub led : (p.at (before + 1)).value link.link ≡ root_slot + 1
  pub root : StoodFresh root_slot (root_words left_slot right_slot sep) before p
  pub left_half : StoodFresh left_slot left before p
  pub right_half : StoodFresh right_slot right before p

-- the link was turned to a root over two leaves, which are the parts of the viewed one
pub record WasParted (link : Link) (view : LeafView) (p : Past) : Type 0 where
  pub left : List ℕ
  pub right : List ℕ
  pub sep : List ℕ
  pub parts : ArePartsOf view.image.0 left right sep
  pub split : WasSplit link left right sep p

-- the root and the halves are written, and the link goes to the root
abbrev pub split_plan : Split → Plan
split_plan r = record {
  nodes = nodes_in r;
  guard = r.link.guard;
  status = r.link.status;
  entries = λ c. renewal r.link (r.slot 0);
  nameable = λ c. (r.link.status < 2 ^ 61) × (r.link.link ≢ r.link.guard);
  -- the leaf to which the link leads, and the words of its halves, with the key between them
  basis = record { slot = r.link.slot; nodes = r.image 1 ∷ r.image 2 ∷ r.sep ∷ [] };
  planned = HasParted r.link (r.image 1) (r.image 2) r.sep;
  ready = IsSplitting r;
  done = WasSplit r.link (r.image 1) (r.image 2) r.sep;
  none = λ p. Unit {0};
}

-- the split is the writer of this plan
abbrev pub split_asks : Config → Split → WritePhase → Option Todo
split_asks c r = write_asks c (split_plan r)

abbrev pub split_acts : ℕ
split_acts = write_acts SPLIT_SLOTS

abbrev pub split_left : WritePhase → ℕ
split_left = write_left SPLIT_SLOTS

abbrev pub split_swaps : WritePhase → ℕ
split_swaps = write_swaps

abbrev pub split_needs : WritePhase → ℕ
split_needs = write_needs SPLIT_SLOTS

abbrev pub split_facts : Split → WritePhase → Stage → Scene → Type 0
split_facts r = write_facts (split_plan r)

abbrev pub split_differs : Link → WritePhase → Seen → Type 0
split_differs link = write_differs link.status

abbrev pub split_change : Change
split_change = no_change

-- what its end means: the link led to a fresh root over the two parts; else nothing is known beyond why it ended
abbrev pub split_means : Link → List ℕ → List ℕ → List ℕ → Outcome → Scene → Type 0
split_means link left right sep = means_of (WasSplit link left right sep) (λ p. Unit {0})

-- the split of a root leaf ends so and in no other way
abbrev pub IsEndOfSplit : Outcome → Type 0
IsEndOfSplit IsDone = Unit {0}
IsEndOfSplit Restarts = Unit {0}
IsEndOfSplit (IsFull NoNodes) = Unit {0}
IsEndOfSplit (IsFull NoSwaps) = Unit {0}
IsEndOfSplit outcome = ⊥
