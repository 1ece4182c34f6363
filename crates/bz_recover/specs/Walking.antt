-- The walk over the tree when all words are plain: what it asks for, which slots it has held, and how many acts are left.
use Rattle.std.specs.Prelude.{◌≡◌, ◌↔◌, ℕ, zero, suc, ◌+◌, ◌-◌, ◌*◌, ◌<◌, ◌≤◌, false, List, [], ◌∷◌, ◌++◌, length, slice_index_or, Contains, Option, Some, None}
use Rattle.bz_content.specs.Content.{image_fault, view_in}
use Rattle.bz_content.specs.Image.{node, root}
use Rattle.bz_content.specs.Resolving.{resolve}
use Rattle.bz_layout.specs.Addresses.{node_address}
use Rattle.bz_layout.specs.Config.{IsConfig}
use Rattle.bz_layout.specs.Slots.{FreeSlots}
use Rattle.bz_layout.specs.declared.config.Config.{Config}
use Rattle.bz_layout.specs.declared.sizes.TheConstants.{NODE_WORDS, ROOT_AT, HEADER_AT, STATUS_AT, META_AT, SHARED_WORDS}
use Rattle.bz_layout.specs.declared.thresholds.TheConstants.{MAX_LEVELS}
use Rattle.bz_tree.specs.Stack.{pending}
use Rattle.bz_tree.specs.View.{View}
use Rattle.bz_tree.specs.Walk.{Visit, kid, kids, start, walk, comes_to, form}
use Rattle.bz_slotted.specs.Page.{page}
use Rattle.bz_slotted.specs.Records.{pointer_at}
use Rattle.bz_task.specs.declared.todo.Outcome.{Outcome}
use Rattle.bz_task.specs.declared.todo.Outcome.TheVariants.{Recovered}
use Rattle.bz_task.specs.declared.todo.Seen.{Seen}
use Rattle.bz_task.specs.declared.todo.Seen.TheVariants.{Read}
use Rattle.bz_task.specs.declared.todo.Todo.{Todo}
use Rattle.bz_task.specs.declared.todo.Todo.TheVariants.{Load, Finish}
use Rattle.bz_recover.specs.Sweep.{IsShared, IsImage}
use Rattle.bz_recover.specs.declared.walk.Step.{Step}
use Rattle.bz_recover.specs.declared.walk.Step.TheVariants.{Fresh, Root, Header, Status, Meta, Pointer, Done}
use Rattle.bz_recover.specs.declared.walk.Walk.{Walk}
use Rattle.bz_recover.specs.declared.walk.Way.{Way}

-- a well-formed image whose words outside the descriptors resolve to these values
pub record IsTreeOf (c : Config) (values image : ℕ → ℕ) : Type 0 where
  pub is : IsImage c values image
  pub none : image_fault c image ≡ None

-- exactly the slots of the image's tree are not free
pub record AreReached (c : Config) (image : ℕ → ℕ) (slots : FreeSlots) : Type 0 where
  pub nodes : slots.nodes ≡ c.nodes
  pub free : (k : ℕ) → k < c.nodes → Contains slots.free k ↔ ((form (view_in c image)).inside k ≡ false)

-- the walk over a view has come to some visits and has this stack before it; exactly the slots that it has come to are not
-- free
pub record IsBetween (v : View) (stack : List Visit) (free : List ℕ) : Type 0 where
  pub behind : List Visit
  pub whole : walk v ≡ behind ++ pending v stack
  pub slots : (k : ℕ) → k < v.top → Contains free k ↔ (comes_to behind k ≡ false)

-- the inner node at a level on the way from the root
abbrev pub way_at : List Way → ℕ → Way
way_at ways l = slice_index_or ways l (record { slot = 0; next = 0; count = 0 })

-- an inner node to which the walk comes at this level
pub record IsInner (v : View) (u : Visit) (l : ℕ) : Type 0 where
  pub slot : u.slot < v.top
  pub level : u.level ≡ l
  pub inner : 0 < l
  pub whole : v.fault u.slot u.level u.low u.high ≡ None

-- and one that is on the way
pub record IsWay (v : View) (u : Visit) (l : ℕ) (way : Way) : Type 0 where
  pub inner : IsInner v u l
  pub slot : u.slot ≡ way.slot
  pub count : v.count u.slot ≡ way.count

-- the children that are still to come of so many nodes above a level, the lowest node first
unfoldable pub above : View → (ℕ → Visit) → List Way → ℕ → ℕ → List Visit
above v at ways l zero = []
above v at ways l (suc n) = kids v (at (l + 1)) l (way_at ways (l + 1)).next ((way_at ways (l + 1)).count - (way_at ways (l + 1)).next) ++ above v at ways (l + 1) n

-- the walk is at an inner node of this level, of which so many children are to come, and then those of the nodes above it
pub record IsAt (v : View) (top : ℕ) (ways : List Way) (free : List ℕ) (l : ℕ) (u : Visit) (next count : ℕ) : Type 0 where
  pub inner : IsInner v u l
  pub at : ℕ → Visit
  pub on_way : (j : ℕ) → l < j → j ≤ top → IsWay v (at j) j (way_at ways j)
  pub between : IsBetween v (kids v u (l - 1) next count ++ above v at ways l (top - l)) free

-- it has come to an inner node, and knows its slot
pub record HasCome (v : View) (top : ℕ) (ways : List Way) (free : List ℕ) (l slot : ℕ) : Type 0 where
  pub visit : Visit
  pub there : visit.slot ≡ slot
  pub here : IsAt v top ways free l visit 0 (v.count visit.slot)

-- it goes on with the next child of an inner node
pub record GoesOn (v : View) (top : ℕ) (ways : List Way) (free : List ℕ) (l : ℕ) (way : Way) : Type 0 where
  pub visit : Visit
  pub on_way : IsWay v visit l way
  pub here : IsAt v top ways free l visit way.next (way.count - way.next)

-- before the root
abbrev pub IsBefore : View → List ℕ → Type 0
IsBefore v free = IsBetween v (kid v (start v) (v.height - 1) 0 ∷ []) free

-- what is known of the walk over an image at each step
abbrev pub goes_in : Config → (ℕ → ℕ) → ℕ → List Way → List ℕ → Step → Type 0
goes_in c x top ways free Fresh = Unit {0}
goes_in c x top ways free Root = IsBefore (view_in c x) free
goes_in c x top ways free (Header slot) = IsBefore (view_in c x) free × (root (resolve x) ≡ slot)
goes_in c x top ways free (Status l slot) = HasCome (view_in c x) top ways free l slot
goes_in c x top ways free (Meta l way) = GoesOn (view_in c x) top ways free l way
goes_in c x top ways free (Pointer l way place) = GoesOn (view_in c x) top ways free l way × (pointer_at (page (node c (resolve x) way.slot)) way.next ≡ place)
goes_in c x top ways free Done = IsBetween (view_in c x) [] free

-- how many slots are free, as the walk counts them
abbrev pub counts_in : Config → ℕ → List ℕ → Step → Type 0
counts_in c left free Fresh = left ≡ c.nodes
counts_in c left free step = left ≡ length free

-- what a walk knows of the slots, where the words outside the descriptors are these values
abbrev pub Walks : Walk → (ℕ → ℕ) → FreeSlots → Type 0
Walks w values slots =
    (image : ℕ → ℕ) → IsTreeOf w.config values image → goes_in w.config image w.top w.ways slots.free w.step × counts_in w.config w.left slots.free w.step

-- the places of a node on the way
pub record IsWithin (c : Config) (way : Way) : Type 0 where
  pub slot : way.slot < c.nodes
  pub count : way.count ≤ SHARED_WORDS

-- the level of an inner node below the root, or of the root
pub record IsLevel (top l : ℕ) : Type 0 where
  pub inner : 0 < l
  pub below : l ≤ top

-- the places that a step names
abbrev pub IsStep : Config → ℕ → Step → Type 0
IsStep c top Fresh = Unit {0}
IsStep c top Root = Unit {0}
IsStep c top (Header slot) = slot < c.nodes
IsStep c top (Status l slot) = IsLevel top l × (slot < c.nodes)
IsStep c top (Meta l way) = IsLevel top l × IsWithin c way × (way.next < way.count)
IsStep c top (Pointer l way place) = IsLevel top l × IsWithin c way × (way.next < way.count) × (place < NODE_WORDS)
IsStep c top Done = Unit {0}

-- a walk over such a memory, whatever its step
pub record IsWalk (w : Walk) : Type 0 where
  pub config : IsConfig w.config
  pub top : w.top < MAX_LEVELS
  pub ways : (l : ℕ) → IsWithin w.config (way_at w.ways l)

-- and at a step that names its places
pub record IsWalking (w : Walk) : Type 0 where
  pub walk : IsWalk w
  pub step : IsStep w.config w.top w.step

-- what a step asks for
abbrev pub loads_in : Config → Step → Option Todo
loads_in c Fresh = None
loads_in c Root = Some (Load ROOT_AT)
loads_in c (Header slot) = Some (Load (node_address c slot + HEADER_AT))
loads_in c (Status l slot) = Some (Load (node_address c slot + STATUS_AT))
loads_in c (Meta l way) = Some (Load (node_address c way.slot + (META_AT + way.next)))
loads_in c (Pointer l way place) = Some (Load (node_address c way.slot + place))
loads_in c Done = Some Finish

abbrev pub asks_of_walk : Walk → Option Todo
asks_of_walk w = loads_in w.config w.step

-- the load of a word outside the descriptors, or the end
abbrev pub IsLoadOrEnd : Config → Todo → Type 0
IsLoadOrEnd c (Load a) = IsShared c a
IsLoadOrEnd c Finish = Unit {0}
IsLoadOrEnd c other = ⊥

-- the answer to a load is the word's value
abbrev pub answers_in : Option Todo → Seen → (ℕ → ℕ) → Type 0
answers_in (Some (Load a)) (Read y) values = values a ≡ y
answers_in asks seen values = Unit {0}

-- the answer to what a step asks for leads to another step
abbrev pub Leads : Walk → List ℕ → Step → ℕ → Walk → List ℕ → Step → Type 0
Leads w free step y after free-after next =
    (values image : ℕ → ℕ) → IsTreeOf w.config values image → w.left ≡ length free → goes_in w.config image w.top w.ways free step → answers_in (loads_in w.config step) (Read y) values →
    goes_in w.config image after.top after.ways free-after next × (after.left ≡ length free-after)

abbrev pub end_in_walk : Step → Option Outcome
end_in_walk Done = Some Recovered
end_in_walk step = None

-- the most acts for a slot: its status, and of each child its metadata word and its pointer, of which a slot is reached once
abbrev pub SLOT_ACTS : ℕ
SLOT_ACTS = 3

-- the most acts that a walk still asks for, where so many slots are still to be reached
abbrev pub walk_left : ℕ → Step → ℕ
walk_left left Fresh = SLOT_ACTS * left + 3
walk_left left Root = SLOT_ACTS * left + 2
walk_left left (Header slot) = SLOT_ACTS * left + 1
walk_left left (Status l slot) = SLOT_ACTS * left + 3
walk_left left (Meta l way) = SLOT_ACTS * left + 2
walk_left left (Pointer l way place) = SLOT_ACTS * left + 1
walk_left left Done = 0
