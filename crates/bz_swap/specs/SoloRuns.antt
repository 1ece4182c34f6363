-- What is left to a worker falls with its steps: so over any run of one worker alone the steps are at most what is allowed.
use Rattle.std.specs.Prelude.{◌≡◌, ◌<◌, ◌≤◌, ◌+◌, ℕ, List, [], ◌∷◌, Option}
use Rattle.bz_word.specs.declared.entry.Entry.{Entry}
use Rattle.bz_swap_acts.specs.declared.acted.Act.{Act}
use Rattle.bz_swap_machine.specs.declared.done.Done.{Done}
use Rattle.bz_swap_machine.specs.Allowed.{for_swap}
use Rattle.bz_swap.specs.Solo.{allowed_for, allowed_by_kind, allowed_to_all, left_to}
use Rattle.bz_swap.specs.Evictions.{IsEviction}
use Rattle.bz_swap.specs.Starts.{started, swapping}
use Rattle.bz_swap.specs.Steps.{StepsIn}
use Rattle.bz_swap.specs.SwapMemory.{SwapMemory, Doing}

-- a start of the worker, other than of a swap; the start of a swap; a step of the worker; an eviction
pub data Turn : Type 0 where
  Start : (doing : Doing) → Turn
  Begin : (entries : List Entry) → Turn
  Step : (made : Act) (done : Done) (told : Option ℕ) → Turn
  Evict : (a : ℕ) (told : Option ℕ) → Turn

abbrev pub HasTurned : ℕ → SwapMemory → Turn → SwapMemory → Type 0
HasTurned w old (Start doing) new = new ≡ started old w doing
HasTurned w old (Begin entries) new = new ≡ swapping old w entries
HasTurned w old (Step made done told) new = StepsIn old.phase old w made done told new
HasTurned w old (Evict a told) new = IsEviction old a told new

-- a run of worker w: one turn after another, and no other worker starts or steps
abbrev pub IsSoloRun : ℕ → SwapMemory → List Turn → SwapMemory → Type 0
IsSoloRun w old [] new = new ≡ old
IsSoloRun w old (turn ∷ turns) new = (next : SwapMemory) × (HasTurned w old turn next × IsSoloRun w next turns new)

-- the steps of a run, and what its starts allow
abbrev pub step_of : Turn → ℕ
step_of (Step made done told) = 1
step_of turn = 0

abbrev pub steps_in : List Turn → ℕ
steps_in [] = 0
steps_in (turn ∷ turns) = step_of turn + steps_in turns

abbrev pub allowed_of : Turn → ℕ
allowed_of (Start doing) = allowed_for doing
allowed_of (Begin entries) = for_swap
allowed_of turn = 0

abbrev pub allowed_in : List Turn → ℕ
allowed_in [] = 0
allowed_in (turn ∷ turns) = allowed_of turn + allowed_in turns

-- and by the finer count
abbrev pub allowed_by_kind_of : Turn → ℕ
allowed_by_kind_of (Start doing) = allowed_by_kind doing
allowed_by_kind_of (Begin entries) = for_swap
allowed_by_kind_of turn = 0

abbrev pub allowed_by_kind_in : List Turn → ℕ
allowed_by_kind_in [] = 0
allowed_by_kind_in (turn ∷ turns) = allowed_by_kind_of turn + allowed_by_kind_in turns

-- what is left to a worker is at most what all workers allow; a start of its own adds at most what it allows, each step of its
-- own takes one at least, and an eviction nothing. So the steps of a run are at most what all workers allow at its begin, and
-- what its starts allow
pub record SoloStepsAreAllowed : Type 0 where
  pub most : (m : SwapMemory) (w : ℕ) → left_to m w ≤ allowed_to_all m
  pub start : (m : SwapMemory) (w : ℕ) (doing : Doing) → left_to (started m w doing) w ≤ left_to m w + allowed_for doing
  pub swap : (m : SwapMemory) (w : ℕ) (entries : List Entry) → left_to (swapping m w entries) w ≤ left_to m w + for_swap
  pub step : (old new : SwapMemory) (w : ℕ) (made : Act) (done : Done) (told : Option ℕ) → StepsIn old.phase old w made done told new → left_to new w < left_to old w
  pub eviction : (old new : SwapMemory) (w a : ℕ) (told : Option ℕ) → IsEviction old a told new → left_to new w ≡ left_to old w
  pub run : (w : ℕ) (old new : SwapMemory) (turns : List Turn) → IsSoloRun w old turns new → steps_in turns ≤ allowed_to_all old + allowed_in turns

-- by the finer count too: a start of a read, a load or a store adds one at most, and that of a flush two; the rest is as above
pub record SoloStepsAreAllowedByKind : Type 0 where
  pub start : (m : SwapMemory) (w : ℕ) (doing : Doing) → left_to (started m w doing) w ≤ left_to m w + allowed_by_kind doing
  pub run : (w : ℕ) (old new : SwapMemory) (turns : List Turn) → IsSoloRun w old turns new → steps_in turns ≤ allowed_to_all old + allowed_by_kind_in turns
