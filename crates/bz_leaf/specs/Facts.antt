-- What is known of a leaf while it is read.
use Rattle.std.specs.Prelude.{◌≡◌, ◌≢◌, ℕ, ◌+◌, ◌-◌, ◌^◌, ◌<◌, ◌≤◌, ◌||◌, ◌⊎◌, nat_lt, nat_le, Bool, true, false, List, [], Option, Some, None, slice_get, slice_index}
use Rattle.bz_layout.specs.Addresses.{node_address}
use Rattle.bz_layout.specs.declared.config.Config.{Config}
use Rattle.bz_layout.specs.declared.sizes.TheConstants.{NODE_WORDS, STATUS_AT, META_AT}
use Rattle.bz_tree.specs.Order.{is_within}
use Rattle.bz_word.specs.Statuses.{status}
use Rattle.bz_task.specs.Instant.{words, is_inside, form_at}
use Rattle.bz_task.specs.Outcomes.{IsPath, IsUnderRoot, IsUnderNode, IsView}
use Rattle.bz_task.specs.Scene.{Past, Scene, Stage, Waiting, Took, HasFilled}
use Rattle.bz_task.specs.Swaps.{Change}
use Rattle.bz_task.specs.declared.path.Link.{Link}
use Rattle.bz_task.specs.declared.path.Path.{Path}
use Rattle.bz_node.specs.declared.image.NodeImage.{NodeImage}
use Rattle.bz_task.specs.declared.todo.Outcome.{Outcome}
use Rattle.bz_task.specs.declared.todo.Outcome.TheVariants.{View, Restart}
use Rattle.bz_task.specs.declared.todo.Seen.{Seen}
use Rattle.bz_task.specs.declared.todo.Seen.TheVariants.{Read as Was}
use Rattle.bz_task.specs.declared.todo.Todo.{Todo}
use Rattle.bz_task.specs.declared.todo.Todo.TheVariants.{Read, Finish}
use Rattle.bz_task.specs.declared.view.LeafView.{LeafView}
use Rattle.bz_leaf.specs.declared.phase.LeafPhase.{LeafPhase}
use Rattle.bz_leaf.specs.declared.phase.LeafPhase.TheVariants.{Fresh, Status, Word, Again, Link as Of_link, Guard, Viewed, Changed}

-- of a leaf with this status the place is one of the metadata words in use or before them, or one of the block
abbrev pub is_used : ℕ → ℕ → Bool
is_used st i = nat_lt i (META_AT + (status st).count) || nat_le NODE_WORDS (i + (status st).block)

-- the leaf to which a link leads, as it was read, at a moment
abbrev pub view_of : Link → NodeImage → ℕ → LeafView
view_of link image at = record { slot = link.slot; status = slice_index image.0 0; image = image; at = at }

-- the link is the last one of the path
abbrev pub IsLastLink : Path → Link → Type 0
IsLastLink path link = slice_get path.links (path.depth - 1) ≡ Some link

-- the view is made of these
pub record IsMade (view : LeafView) (k moment : ℕ) (ws : List ℕ) : Type 0 where
  pub slot : view.slot ≡ k
  pub status : view.status ≡ slice_index ws 0
  pub image : view.image.0 ≡ ws
  pub at : view.at ≡ moment

abbrev pub leaf_asks : Config → Link → NodeImage → LeafPhase → Option Todo
leaf_asks c link image Fresh = None
leaf_asks c link image Status = Some (Read (node_address c link.slot + STATUS_AT))
leaf_asks c link image (Word i) = Some (Read (node_address c link.slot + i))
leaf_asks c link image Again = Some (Read (node_address c link.slot + STATUS_AT))
leaf_asks c link image Of_link = Some (Read link.link)
leaf_asks c link image (Guard at) = Some (Read link.guard)
leaf_asks c link image (Viewed at) = Some Finish
leaf_asks c link image Changed = Some Finish

abbrev pub leaf_end : Link → NodeImage → LeafPhase → Option Outcome
leaf_end link image (Viewed at) = Some (View (view_of link image at))
leaf_end link image Changed = Some Restart
leaf_end link image phase = None

-- the most reads that validate: the link and its guard
abbrev pub validating_reads : ℕ
validating_reads = 2

-- the most acts: the reads of the status and of the words after it, those that validate, and the end
abbrev pub leaf_acts : ℕ
leaf_acts = NODE_WORDS + validating_reads + 1

abbrev pub leaf_left : LeafPhase → ℕ
leaf_left Fresh = leaf_acts
leaf_left Status = leaf_acts - 1
leaf_left (Word i) = NODE_WORDS - i + validating_reads
leaf_left Again = validating_reads
leaf_left Of_link = validating_reads
leaf_left (Guard at) = validating_reads - 1
leaf_left phase = 0

-- the slot was a leaf of the tree, with the key in its range, at a moment since the look-up began, at which the
-- link led to it from the root or from a node that was reached
pub record IsKnownLeaf (key : List ℕ) (link : Link) (p : Past) : Type 0 where
  pub moment : ℕ
  pub since : p.since ≤ moment
  pub now : moment ≤ p.now
  pub slot : link.slot < p.config.nodes
  pub inside : is_inside p.config (p.at moment) link.slot ≡ true
  pub leaf : (form_at p.config (p.at moment)).level link.slot ≡ 0
  pub range : is_within key ((form_at p.config (p.at moment)).low link.slot) ((form_at p.config (p.at moment)).high link.slot) ≡ true
  pub led : (p.at moment).value link.link ≡ link.slot + 1
  pub hung : ℕ
  pub hung_since : p.since ≤ hung
  pub hung_now : hung ≤ p.now
  pub under : IsUnderRoot link ⊎ IsUnderNode p link hung

-- the word at a place was this, at a moment from g on
pub record WasWord (k i v g : ℕ) (p : Past) : Type 0 where
  pub moment : ℕ
  pub order : g ≤ moment
  pub now : moment ≤ p.now
  pub word : words p.config (p.at moment) k i ≡ v

-- the status was read, and then the words in use before a place
pub record Reading (key : List ℕ) (link : Link) (ws : List ℕ) (place : ℕ) (p : Past) : Type 0 where
  pub known : IsKnownLeaf key link p
  pub read_at : ℕ
  pub order : known.moment ≤ read_at
  pub hung_order : known.hung ≤ read_at
  pub until : read_at ≤ p.now
  pub was : words p.config (p.at read_at) link.slot STATUS_AT ≡ slice_index ws 0
  pub plain : slice_index ws 0 < 2 ^ 61
  pub read : (i : ℕ) → 0 < i → i < place → is_used (slice_index ws 0) i ≡ true → WasWord link.slot i (slice_index ws i) read_at p
  pub rest : (i : ℕ) → 0 < i → is_used (slice_index ws 0) i ≡ false → slice_index ws i ≡ 0

-- the next word is one in use
pub record ReadsOn (key : List ℕ) (link : Link) (ws : List ℕ) (place : ℕ) (p : Past) : Type 0 where
  pub so_far : Reading key link ws place p
  pub some : 0 < place
  pub within : place < NODE_WORDS
  pub used : is_used (slice_index ws 0) place ≡ true

-- all words were read of a leaf that was not frozen, or of one that was
pub record HasRead (key : List ℕ) (link : Link) (ws : List ℕ) (frozen : Bool) (p : Past) : Type 0 where
  pub all : Reading key link ws NODE_WORDS p
  pub is : (status (slice_index ws 0)).frozen ≡ frozen

-- and then the link led to it
pub record HasLink (key : List ℕ) (link : Link) (ws : List ℕ) (at : ℕ) (p : Past) : Type 0 where
  pub leaf : HasRead key link ws true p
  pub order : leaf.all.read_at ≤ at
  pub until : at ≤ p.now
  pub loads : p.loads at ≡ true
  pub led : (p.at at).value link.link ≡ link.slot + 1

-- no word was read
abbrev pub IsBlank : List ℕ → Type 0
IsBlank ws = (i : ℕ) → slice_index ws i ≡ 0

abbrev pub leaf_learnt : List ℕ → Link → List ℕ → LeafPhase → Past → Type 0
leaf_learnt key link ws Fresh p = IsBlank ws × IsKnownLeaf key link p
leaf_learnt key link ws Status p = IsBlank ws × IsKnownLeaf key link p
leaf_learnt key link ws (Word i) p = ReadsOn key link ws i p
leaf_learnt key link ws Again p = HasRead key link ws false p
leaf_learnt key link ws Of_link p = HasRead key link ws true p
leaf_learnt key link ws (Guard at) p = HasLink key link ws at p
leaf_learnt key link ws (Viewed at) p = (view : LeafView) → IsMade view link.slot at ws → IsView key view p
leaf_learnt key link ws Changed p = Unit {0}

abbrev pub leaf_facts : List ℕ → Link → List ℕ → LeafPhase → Stage → Scene → Type 0
leaf_facts key link ws phase Took s = ⊥
leaf_facts key link ws Fresh Waiting s = IsBlank ws × IsKnownLeaf key link s.past
leaf_facts key link ws phase Waiting s = HasFilled s × leaf_learnt key link ws phase s.past

-- what its end means: the view is one of the key, and so is still the path to it
abbrev pub leaf_means : List ℕ → Path → Outcome → Scene → Type 0
leaf_means key path (View view) s = IsView key view s.past × IsPath key path s.past
leaf_means key path Restart s = Unit {0}
leaf_means key path outcome s = ⊥

-- a reading ends so and in no other way
abbrev pub IsEndOfReading : Outcome → Type 0
IsEndOfReading (View view) = Unit {0}
IsEndOfReading Restart = Unit {0}
IsEndOfReading outcome = ⊥

-- a validating load found another value: another status, another link, or a guard that is frozen
abbrev pub leaf_differs : Link → List ℕ → LeafPhase → Seen → Type 0
leaf_differs link ws Again (Was v) = v ≢ slice_index ws 0
leaf_differs link ws Of_link (Was v) = v ≢ link.slot + 1
leaf_differs link ws (Guard at) (Was v) = (status v).frozen ≡ true
leaf_differs link ws phase seen = ⊥

-- a reading changes nothing
abbrev pub leaf_change : Change
leaf_change = record { key = []; old = None; new = None }

-- places and slots that are named are such
abbrev pub leaf_places : Config → Link → LeafPhase → Type 0
leaf_places c link (Word i) = (link.slot < c.nodes) × (i < NODE_WORDS)
leaf_places c link Status = link.slot < c.nodes
leaf_places c link Again = link.slot < c.nodes
leaf_places c link phase = Unit {0}

-- after the word at a place comes the next word in use, and after the last one the validation
abbrev pub IsAfter : ℕ → ℕ → LeafPhase → Type 0
IsAfter st place (Word i) = (place < i) × ((i < NODE_WORDS) × ((is_used st i ≡ true) × ((j : ℕ) → place < j → j < i → is_used st j ≡ false)))
IsAfter st place Of_link = ((status st).frozen ≡ true) × ((j : ℕ) → place < j → j < NODE_WORDS → is_used st j ≡ false)
IsAfter st place Again = ((status st).frozen ≡ false) × ((j : ℕ) → place < j → j < NODE_WORDS → is_used st j ≡ false)
IsAfter st place phase = ⊥
