-- What a lowering of the root knows, and what it asks for.
use Rattle.std.specs.Prelude.{◌≡◌, ◌≢◌, ℕ, ◌+◌, ◌^◌, ◌<◌, ◌≤◌, ◌⊎◌, Bool, true, false, [], Option, Some, None}
use Rattle.bz_call.specs.declared.replies.Spent.TheVariants.{Swaps as NoSwaps}
use Rattle.bz_layout.specs.Addresses.{node_address}
use Rattle.bz_layout.specs.declared.config.Config.{Config}
use Rattle.bz_layout.specs.declared.sizes.TheConstants.{STATUS_AT, ROOT_AT}
use Rattle.bz_word.specs.Statuses.{status}
use Rattle.bz_task.specs.Basis.{Basis}
use Rattle.bz_task.specs.FromSwap.SwapMemory.{is_target}
use Rattle.bz_task.specs.Instant.{words, page_at, form_at}
use Rattle.bz_task.specs.Outcomes.{IsUnderRoot, IsUnderNode, IsGuarded}
use Rattle.bz_task.specs.Scene.{Past, Scene, Stage, Waiting, Took, HasFilled}
use Rattle.bz_task.specs.declared.path.Link.{Link}
use Rattle.bz_task.specs.declared.todo.Outcome.{Outcome}
use Rattle.bz_task.specs.declared.todo.Outcome.TheVariants.{Done as IsDone, Restart as Restarts, NeedsRoom, Full as IsFull}
use Rattle.bz_task.specs.declared.todo.Seen.{Seen}
use Rattle.bz_task.specs.declared.todo.Seen.TheVariants.{Read as Was, Swapped, NoSwap as NoneLeft}
use Rattle.bz_task.specs.declared.todo.Todo.{Todo}
use Rattle.bz_task.specs.declared.todo.Todo.TheVariants.{Read as Reads, Swap as Swaps_for, Finish}
use Rattle.bz_renew.specs.Due.{IsStatusOf}
use Rattle.bz_renew.specs.Renewals.{renewal}
use Rattle.bz_branch.specs.FromSplit.BelowSplits.{below_swap}
use Rattle.bz_inner.specs.Lone.{HasOneChild}
use Rattle.bz_inner.specs.declared.lower_phase.LowerPhase.{LowerPhase}
use Rattle.bz_inner.specs.declared.lower_phase.LowerPhase.TheVariants.{Fresh, Status, Swap, Done, Restart, NotLone, NoSwap}

-- whether the path shows a root with one child; the root link; and the path's link in the root, where it has one
pub record Lowering : Type 0 where
  pub lone : Bool
  pub upper : Link
  pub lower : Link

-- the guard of a link, the status of the node in slot k, was read
pub record IsLinkIn (k : ℕ) (link : Link) (p : Past) : Type 0 where
  pub guard : IsGuarded p link
  pub under : IsUnderNode p link guard.guarded
  pub parent : under.parent ≡ k

-- both links were read; the lower one stands in the node to which the root pointer led, which had one child as its status tells
pub record HasLoneRoot (upper lower : Link) (p : Past) : Type 0 where
  pub under : IsUnderRoot upper
  pub guard : IsGuarded p upper
  pub node : IsLinkIn upper.slot lower p
  pub slot : lower.slot < p.config.nodes
  pub one : HasOneChild lower.status

-- the root pointer led to the slot at a moment since the look-up began, and at one the node there was a leaf, or its status was not that
-- of a node with one child
pub record WasNotLone (k : ℕ) (p : Past) : Type 0 where
  pub read : ℕ
  pub read_since : p.since ≤ read
  pub read_now : read ≤ p.now
  pub root : (p.at read).value ROOT_AT ≡ k + 1
  pub moment : ℕ
  pub since : p.since ≤ moment
  pub now : moment ≤ p.now
  pub reached : (p.at moment).reached k ≡ true
  pub other : ((page_at p.config (p.at moment) k).level ≡ 0) ⊎ ¬ HasOneChild (words p.config (p.at moment) k STATUS_AT)

-- at a moment since the look-up began the root pointer led to the lower link's slot, and one moment before to the upper one's, whose one
-- child that was; and the old root is frozen
pub record WasLowered (upper lower : Link) (p : Past) : Type 0 where
  pub before : ℕ
  pub since : p.since ≤ before
  pub now : before + 1 ≤ p.now
  pub was : (p.at before).value ROOT_AT ≡ upper.slot + 1
  pub one : (page_at p.config (p.at before) upper.slot).count ≡ 1
  pub child : (form_at p.config (p.at before)).up lower.slot ≡ upper.slot
  pub led : (p.at (before + 1)).value ROOT_AT ≡ lower.slot + 1
  pub frozen : (page_at p.config (p.at (before + 1)) upper.slot).frozen ≡ true

-- the swap may be made: its targets are different words
pub record IsSwapReady (c : Config) (r : Lowering) : Type 0 where
  pub upper_plain : r.upper.status < 2 ^ 61
  pub lower_plain : r.lower.status < 2 ^ 61
  pub apart : r.upper.link ≢ r.upper.guard
  pub slot : r.upper.slot < c.nodes
  pub target : is_target (renewal r.upper r.lower.slot) (node_address c r.upper.slot + STATUS_AT) ≡ false

abbrev pub lower_asks : Config → Lowering → LowerPhase → Option Todo
lower_asks c r Fresh = None
lower_asks c r Status = Some (Reads r.lower.guard)
lower_asks c r Swap = Some (Swaps_for (below_swap c r.upper r.lower r.lower.slot))
lower_asks c r phase = Some Finish

abbrev pub lower_end : LowerPhase → Option Outcome
lower_end Done = Some IsDone
lower_end Restart = Some Restarts
lower_end NotLone = Some NeedsRoom
lower_end NoSwap = Some (IsFull NoSwaps)
lower_end phase = None

-- the most steps: the load of the root's own status, the swap, and the end
abbrev pub LOWER_ACTS : ℕ
LOWER_ACTS = 3

abbrev pub lower_left : LowerPhase → ℕ
lower_left Fresh = LOWER_ACTS
lower_left Status = 2
lower_left Swap = 1
lower_left phase = 0

-- the most swaps that are still asked for
abbrev pub lower_swaps : LowerPhase → ℕ
lower_swaps Fresh = 1
lower_swaps Status = 1
lower_swaps Swap = 1
lower_swaps phase = 0

-- what the path tells at the begin
abbrev pub lower_begins : Bool → Link → Link → Past → Type 0
lower_begins true upper lower p = HasLoneRoot upper lower p
lower_begins false upper lower p = WasNotLone upper.slot p

abbrev pub lower_facts : Lowering → LowerPhase → Stage → Scene → Type 0
lower_facts r Fresh Waiting s = lower_begins r.lone r.upper r.lower s.past
lower_facts r Status Waiting s = HasFilled s × ((r.lone ≡ true) × HasLoneRoot r.upper r.lower s.past)
lower_facts r Swap Waiting s = HasFilled s × ((r.lone ≡ true) × (HasLoneRoot r.upper r.lower s.past × ((status r.lower.status).frozen ≡ false)))
lower_facts r Swap Took s = HasFilled s × ((r.lone ≡ true) × WasLowered r.upper r.lower s.past)
lower_facts r Done Waiting s = HasFilled s × ((r.lone ≡ true) × WasLowered r.upper r.lower s.past)
lower_facts r Restart Waiting s = HasFilled s × (r.lone ≡ true)
lower_facts r NotLone Waiting s = HasFilled s × ((r.lone ≡ false) × WasNotLone r.upper.slot s.past)
lower_facts r NoSwap Waiting s = HasFilled s × (r.lone ≡ true)
lower_facts r phase stage s = ⊥

-- what its end means: it ends for want of room where the path shows no root with one child, and nowhere else
abbrev pub lower_means : Lowering → Outcome → Scene → Type 0
lower_means r IsDone s = (r.lone ≡ true) × WasLowered r.upper r.lower s.past
lower_means r Restarts s = r.lone ≡ true
lower_means r NeedsRoom s = (r.lone ≡ false) × WasNotLone r.upper.slot s.past
lower_means r (IsFull NoSwaps) s = r.lone ≡ true
lower_means r outcome s = ⊥

-- a lowering ends so and in no other way
abbrev pub IsEndOfLower : Outcome → Type 0
IsEndOfLower IsDone = Unit {0}
IsEndOfLower Restarts = Unit {0}
IsEndOfLower NeedsRoom = Unit {0}
IsEndOfLower (IsFull NoSwaps) = Unit {0}
IsEndOfLower outcome = ⊥

-- the root's own status is another one than the path names, or a frozen node's
abbrev pub lower_differs : ℕ → LowerPhase → Seen → Type 0
lower_differs st Status (Was v) = (v ≢ st) ⊎ ((status v).frozen ≡ true)
lower_differs st phase seen = ⊥

-- it is of the root
abbrev pub lower_basis : Lowering → Basis
lower_basis r = record { slot = r.upper.slot; nodes = [] }

-- told to begin it looks at the root's own status, or ends
abbrev pub HasBegun : Lowering → LowerPhase → Type 0
HasBegun r Status = r.lone ≡ true
HasBegun r NotLone = r.lone ≡ false
HasBegun r phase = ⊥

-- where that is as the path names it, and no frozen node's, it swaps
abbrev pub HasLooked : Lowering → Seen → LowerPhase → Type 0
HasLooked r seen Swap = (seen ≡ Was r.lower.status) × IsStatusOf false r.lower.status
HasLooked r seen Restart = seen ≡ Was r.lower.status → ¬ IsStatusOf false r.lower.status
HasLooked r seen phase = ⊥

-- after the swap comes an end
abbrev pub swap_after : Seen → LowerPhase
swap_after (Swapped true) = Done
swap_after NoneLeft = NoSwap
swap_after seen = Restart

-- the phase after what came of the last act
abbrev pub HasStepped : Lowering → LowerPhase → Seen → LowerPhase → Type 0
HasStepped r Fresh seen next = HasBegun r next
HasStepped r Status seen next = HasLooked r seen next
HasStepped r phase seen next = next ≡ swap_after seen

-- what is named is there
abbrev pub lower_ready : Config → Lowering → LowerPhase → Type 0
lower_ready c r Swap = IsSwapReady c r
lower_ready c r phase = Unit {0}
