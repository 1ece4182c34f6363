-- What of a swap stands in the caches, as tests and numbers.
use Rattle.std.specs.Prelude.{if◌then◌else◌, ℕ, zero, suc, ◌+◌, ◌==◌, ◌&&◌, not, nat_lt, Bool, true, false}
use Rattle.bz_word.specs.declared.kind.WordKind.{WordKind}
use Rattle.bz_word.specs.declared.kind.WordKind.TheVariants.{Value, Dirty, Swap, Tag}
use Rattle.bz_swap_machine.specs.declared.status.SwapStatus.{SwapStatus}
use Rattle.bz_swap_machine.specs.declared.status.SwapStatus.TheVariants.{Free, Undecided, Deciding, Decided}
use Rattle.bz_swap_machine.specs.declared.place.Place.{Place}
use Rattle.bz_swap_machine.specs.declared.place.Place.TheVariants.{Idle, Prepare}
use Rattle.bz_swap_machine.specs.declared.worker.Operation.{Operation}
use Rattle.bz_swap_machine.specs.declared.worker.Operation.TheVariants.{Nothing, Reading, Swapping}
use Rattle.bz_swap_machine.specs.Allowed.{sum_below, counted}
use Rattle.bz_swap_machine.specs.Machine.{Entries}
use Rattle.bz_swap_machine.specs.State.{State}
use Rattle.bz_swap_machine.specs.Steps.{Local}

-- what a status says
abbrev pub is_decided : SwapStatus → Bool
is_decided Free = false
is_decided Undecided = false
is_decided (Deciding d) = true
is_decided (Decided d) = true

abbrev pub is_clean : SwapStatus → Bool
is_clean Free = false
is_clean Undecided = false
is_clean (Deciding d) = false
is_clean (Decided d) = true

-- a pointer of swap s; a pointer or a tag of it; this tag; this dirty value; any dirty value
abbrev pub is_pointer : WordKind → ℕ → Bool
is_pointer (Value v) s = false
is_pointer (Dirty v) s = false
is_pointer (Swap t) s = t == s
is_pointer (Tag t i w q) s = false

abbrev pub stands_for : WordKind → ℕ → Bool
stands_for (Value v) s = false
stands_for (Dirty v) s = false
stands_for (Swap t) s = t == s
stands_for (Tag t i w q) s = t == s

abbrev pub is_tag : WordKind → ℕ → ℕ → ℕ → ℕ → Bool
is_tag (Value u) s i v q = false
is_tag (Dirty u) s i v q = false
is_tag (Swap t) s i v q = false
is_tag (Tag t j u p) s i v q = ((t == s) && (j == i)) && ((u == v) && (p == q))

abbrev pub is_dirty : WordKind → ℕ → Bool
is_dirty (Value u) v = false
is_dirty (Dirty u) v = u == v
is_dirty (Swap t) v = false
is_dirty (Tag t i w q) v = false

abbrev pub is_any_dirty : WordKind → Bool
is_any_dirty (Value u) = false
is_any_dirty (Dirty u) = true
is_any_dirty (Swap t) = false
is_any_dirty (Tag t i w q) = false

-- what a worker that steps alone meets: the entries; at each address whether a pointer of a swap stands there, a pointer or a
-- tag of it, a tag, a dirty value, any; which swaps are decided, and whose status is clean; and the workers
pub record Scene : Type 0 where
  pub entries : ℕ → Entries
  pub pointer : ℕ → ℕ → Bool
  pub stands : ℕ → ℕ → Bool
  pub tag : ℕ → ℕ → ℕ → ℕ → ℕ → Bool
  pub dirty : ℕ → ℕ → Bool
  pub any_dirty : ℕ → Bool
  pub decided : ℕ → Bool
  pub clean : ℕ → Bool
  pub local : ℕ → Local

abbrev pub scene : (ℕ → Entries) → (ℕ → WordKind) → (ℕ → SwapStatus) → (ℕ → Local) → Scene
scene e cached status local = record {
  entries = e;
  pointer = λ a s. is_pointer (cached a) s;
  stands = λ a s. stands_for (cached a) s;
  tag = λ a s i v q. is_tag (cached a) s i v q;
  dirty = λ a v. is_dirty (cached a) v;
  any_dirty = λ a. is_any_dirty (cached a);
  decided = λ s. is_decided (status s);
  clean = λ s. is_clean (status s);
  local = local;
}

abbrev pub scene_of : State → Scene
scene_of x = scene x.entries x.memory.cached x.memory.status x.local

-- the address of entry i of swap s
abbrev pub target_at : Scene → ℕ → ℕ → ℕ
target_at x s i = (x.entries s).target i

-- how many pointers of swap s stand
abbrev pub pointers : Scene → ℕ → ℕ
pointers x s = sum_below (λ i. counted (x.pointer (target_at x s i) s) 1) (x.entries s).count

-- a swap is through: its status is clean, and none of its pointers stands
abbrev pub is_through : Scene → ℕ → Bool
is_through x s = x.clean s && (pointers x s == 0)

-- how many pointers an undecided swap has yet to put
abbrev pub missing : Scene → ℕ → ℕ
missing x s = if x.decided s then 0 else sum_below (λ i. counted (not (x.pointer (target_at x s i) s)) 1) (x.entries s).count

-- the greatest value of a function below a number
abbrev pub greatest : (ℕ → ℕ) → ℕ → ℕ
greatest f zero = 0
greatest f (suc n) = if nat_lt (greatest f n) (f n) then f n else greatest f n

-- one past the highest address where a pointer or tag of swap s stands, or 0
abbrev pub top : Scene → ℕ → ℕ
top x s = greatest (λ i. counted (x.stands (target_at x s i) s) ((x.entries s).target i + 1)) (x.entries s).count

-- the swap of an operation
abbrev pub swap_of : Operation → ℕ
swap_of Nothing = 0
swap_of (Reading a) = 0
swap_of (Swapping s) = s

-- a worker's swap can be met: its descriptor is written, it is not answered, and it is not through
abbrev pub is_open_by : Scene → Operation → Bool
is_open_by x Nothing = false
is_open_by x (Reading a) = false
is_open_by x (Swapping s) = not (is_through x s)

abbrev pub is_open_at : Scene → Place → Operation → Bool
is_open_at x Idle o = false
is_open_at x (Prepare step) o = false
is_open_at x place o = is_open_by x o

abbrev pub is_open : Scene → ℕ → Bool
is_open x v = is_open_at x (x.local v).place (x.local v).operation
