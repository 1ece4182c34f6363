-- What a task may ask for, and what it may be told of it.
use Rattle.std.specs.Prelude.{◌≡◌, ℕ, zero, ◌+◌, ◌*◌, ◌^◌, ◌<◌, ◌≤◌, ◌⊎◌, true, false, All, Option, Some, None, ◌≢◌}
use Rattle.bz_layout.specs.Addresses.{node_address, words_of, IsOutsideSwaps}
use Rattle.bz_layout.specs.declared.config.Config.{Config}
use Rattle.bz_layout.specs.declared.sizes.TheConstants.{LINE_WORDS, NODE_WORDS, STATUS_AT, META_AT, ROOT_AT, ROOT_STATUS_AT}
use Rattle.bz_content.specs.FromSlotted.Page.{Page}
use Rattle.bz_content.specs.FromSlotted.Records.{pointer_at}
use Rattle.bz_word.specs.Statuses.{status}
use Rattle.bz_word.specs.declared.entry.Entry.{Entry}
use Rattle.bz_task.specs.Instant.{page_at}
use Rattle.bz_task.specs.Scene.{Scene, Stage, Waiting, Took, IsMine, IsScene, HasFilled, here}
use Rattle.bz_task.specs.declared.todo.Outcome.{Outcome}
use Rattle.bz_task.specs.declared.todo.Outcome.TheVariants.{Key, NeedsRoom}
use Rattle.bz_task.specs.declared.todo.Seen.{Seen}
use Rattle.bz_task.specs.declared.todo.Seen.TheVariants.{Start, Read as Was, Stored, Flushed, Swapped, NoSwap}
use Rattle.bz_task.specs.declared.todo.Todo.{Todo}
use Rattle.bz_task.specs.declared.todo.Todo.TheVariants.{Read, Load, Store, Flush, Swap, Finish}

-- of a leaf a metadata word in use, or the free word directly after these
pub record IsMetaPlace (p : Page) (i : ℕ) : Type 0 where
  pub leaf : p.level ≡ 0
  pub from : META_AT ≤ i
  pub to : i ≤ META_AT + p.count
  pub free : i + p.block < NODE_WORDS

-- a child pointer of an inner node
pub record IsPointerPlace (p : Page) (i : ℕ) : Type 0 where
  pub inner : 0 < p.level
  pub child : ℕ
  pub counted : child < p.count
  pub place : i ≡ pointer_at p child

-- the status, a metadata word or a child pointer of a reached node
pub record IsNodeTarget (s : Scene) (a : ℕ) : Type 0 where
  pub slot : ℕ
  pub place : ℕ
  pub address : a ≡ node_address s.past.config slot + place
  pub within : place < NODE_WORDS
  pub reached : (here s).reached slot ≡ true
  pub kind : (place ≡ STATUS_AT) ⊎ (IsMetaPlace (page_at s.past.config (here s) slot) place ⊎ IsPointerPlace (page_at s.past.config (here s) slot) place)

-- an address that a swap may name
abbrev pub IsTarget : Scene → ℕ → Type 0
IsTarget s a = (a ≡ ROOT_AT) ⊎ ((a ≡ ROOT_STATUS_AT) ⊎ IsNodeTarget s a)

pub record IsEntryToAsk (s : Scene) (e : Entry) : Type 0 where
  pub target : IsTarget s e.target
  pub expected : e.expected < 2 ^ 61
  pub new : e.new < 2 ^ 61

-- an address of the memory outside the descriptors
pub record IsReadable (s : Scene) (a : ℕ) : Type 0 where
  pub outside : IsOutsideSwaps s.past.config a
  pub within : a < words_of s.past.config

-- a private store: into an own word
pub record IsOwnStore (s : Scene) (a v : ℕ) : Type 0 where
  pub mine : IsMine s a
  pub value : v < 2 ^ 61

-- what may be asked for. A raw load is recovery's alone.
abbrev pub IsAskable : Scene → Todo → Type 0
IsAskable s (Read a) = IsReadable s a
IsAskable s (Load a) = ⊥
IsAskable s (Store a v) = IsOwnStore s a v
IsAskable s (Flush line) = IsReadable s (LINE_WORDS * line)
IsAskable s (Swap entries) = All (IsEntryToAsk s) entries
IsAskable s Finish = Unit {0}

-- how many swaps are asked for
abbrev pub swaps_in : Option Todo → ℕ
swaps_in (Some (Swap entries)) = 1
swaps_in asked = 0

-- how many steps what is asked for counts: a flush two, and any other act one, a swap too, beside what its effect takes. An end counts one
abbrev pub steps_in : Option Todo → ℕ
steps_in (Some (Flush line)) = 2
steps_in asked = 1

-- how many swaps the answer tells to have taken effect
abbrev pub effects_in : Seen → ℕ
effects_in (Swapped true) = 1
effects_in seen = 0

-- the answer is one to what was asked for
abbrev pub Hears : Option Todo → Seen → Type 0
Hears None Start = Unit {0}
Hears (Some (Read a)) (Was v) = Unit {0}
Hears (Some (Store a v)) Stored = Unit {0}
Hears (Some (Flush line)) Flushed = Unit {0}
Hears (Some (Swap entries)) (Swapped won) = Unit {0}
Hears (Some (Swap entries)) NoSwap = Unit {0}
Hears asked seen = ⊥

-- with this a task may end as it begins: one that takes no slots, with what its leaf says of its key, or because its leaf has no
-- room
abbrev pub EndsAtOnce : ℕ → Outcome → Type 0
EndsAtOnce zero (Key view) = Unit {0}
EndsAtOnce zero NeedsRoom = Unit {0}
EndsAtOnce needs outcome = ⊥

-- a read answers what the address holds, directly after a load of the task's own
pub record Answers (s : Scene) (a v : ℕ) : Type 0 where
  pub value : (here s).value a ≡ v
  pub plain : v < 2 ^ 61
  pub loads : s.past.loads s.past.now ≡ true

-- what an answer tells, and at which stage it comes. A swap that answers false has had no effect.
abbrev pub Tells : Option Todo → Stage → Seen → Scene → Type 0
Tells None Waiting Start s = HasFilled s
Tells (Some (Read a)) Waiting (Was v) s = Answers s a v
Tells (Some (Store a v)) Took Stored s = Unit {0}
Tells (Some (Flush line)) Took Flushed s = Unit {0}
Tells (Some (Swap entries)) Waiting (Swapped won) s = won ≡ false
Tells (Some (Swap entries)) Took (Swapped won) s = won ≡ true
Tells (Some (Swap entries)) Waiting NoSwap s = Unit {0}
Tells asked stage seen s = ⊥

-- what a task may rely on when it is told an answer: in some scene its facts hold and the answer is true
pub record IsKnown (c : Config) (facts : Stage → Scene → Type 0) (asked : Option Todo) (seen : Seen) (moment : ℕ) : Type 0 where
  pub stage : Stage
  pub scene : Scene
  pub config : scene.past.config ≡ c
  pub now : scene.past.now ≡ moment
  pub good : IsScene scene
  pub holds : facts stage scene
  pub tells : Tells asked stage seen scene

-- an address held another value than this at a moment since the look-up began
pub record Differed (s : Scene) (a v : ℕ) : Type 0 where
  pub moment : ℕ
  pub since : s.past.since ≤ moment
  pub now : moment ≤ s.past.now
  pub other : (s.past.at moment).value a ≢ v

-- the status of a node to which a link had led at a moment since the look-up began
pub record IsStatusOfNode (s : Scene) (a : ℕ) : Type 0 where
  pub slot : ℕ
  pub address : a ≡ node_address s.past.config slot + STATUS_AT
  pub moment : ℕ
  pub since : s.past.since ≤ moment
  pub now : moment ≤ s.past.now
  pub reached : (s.past.at moment).reached slot ≡ true

-- the address is that of a status word: the root status, or the status of such a node
abbrev pub IsStatusWord : Scene → ℕ → Type 0
IsStatusWord s a = (a ≡ ROOT_STATUS_AT) ⊎ IsStatusOfNode s a

-- a guard that is frozen
pub record IsFrozenGuard (s : Scene) (a v : ℕ) : Type 0 where
  pub guard : IsStatusWord s a
  pub frozen : (status v).frozen ≡ true

-- the answer is one that makes what was read worthless: a read found another value than the address held before, or a guard
-- that is frozen
abbrev pub IsCause : Option Todo → Seen → Scene → Type 0
IsCause (Some (Read a)) (Was v) s = Differed s a v ⊎ IsFrozenGuard s a v
IsCause asked seen s = ⊥
