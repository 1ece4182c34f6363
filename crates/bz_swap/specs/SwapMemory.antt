-- The atomic swap memory, as callers see it: the words, the swaps begun since the last renewal, and what each worker is
-- doing.
use Rattle.std.specs.Prelude.{◌||◌, ◌==◌, ℕ, Bool, false, List, [], ◌∷◌, get_or}
use Rattle.bz_word.specs.declared.entry.Entry.{Entry}
use Rattle.bz_swap_cells.specs.FromPm.Words.{Words}
use Rattle.bz_swap_cells.specs.FromPm.State.{State}
use Rattle.bz_swap_machine.specs.Machine.{is_succeeded}
use Rattle.bz_swap_cells.specs.Store.{Past, is_settled, status_at}
use Rattle.bz_swap.specs.Resolve.{resolve}
use Rattle.bz_swap.specs.declared.phase.Phase.{Phase}

-- what a worker is doing: nothing, a read of an address, a swap by its number, a load, store or flush as it is
pub data Doing : Type 0 where
  Idle : Doing
  Reading : (a : ℕ) → Doing
  Swapping : (s : ℕ) → Doing
  Loading : (a : ℕ) → Doing
  Storing : (a v : ℕ) → Doing
  Flushing : (line : ℕ) → Doing

-- a worker's operation, and whether its next act is a fence
pub record Working : Type 0 where
  pub doing : Doing
  pub flush_next : Bool

pub record SwapMemory : Type 0 where
  -- each word in the caches and in the memory itself, and how many descriptors are among them
  pub cached : List ℕ
  pub durable : List ℕ
  pub swaps : ℕ
  -- how many asks were made since the last cut, from which of them on each durable word dates, and what each worker asked for
  pub past : Past
  pub phase : Phase
  -- the entries of each swap begun since the last renewal or cut, by its number
  pub begun : List (List Entry)
  -- since the last renewal: which swaps are noted as missed, and how many descriptors were taken
  pub missed : List Bool
  pub taken : ℕ
  -- how many steps were made since the last cut
  pub steps : ℕ
  -- each worker, from worker 0 on
  pub workers : List Working
  -- the worker that started or stepped last, and what is left of the steps that it may make alone
  pub runner : ℕ
  pub left : ℕ

abbrev pub memory_words : SwapMemory → Words
memory_words m = record { cached = m.cached; durable = m.durable }

abbrev pub memory_state : SwapMemory → State
memory_state m = record { words = memory_words m; count = m.past.count; since = m.past.since; asks = m.past.asks }

-- the value of an address outside the descriptors
abbrev pub value_at : SwapMemory → ℕ → ℕ
value_at m a = resolve m.swaps m.durable a

-- a swap has taken effect: its success is durable
abbrev pub has_effect : SwapMemory → ℕ → Bool
has_effect m s = is_succeeded (status_at m.swaps m.durable s)

abbrev pub is_missed : SwapMemory → ℕ → Bool
is_missed m s = get_or m.missed s false

-- the entries of a swap
abbrev pub entries_of : SwapMemory → ℕ → List Entry
entries_of m s = get_or m.begun s []

-- an address is the target of an entry
abbrev pub is_target : List Entry → ℕ → Bool
is_target [] a = false
is_target (e ∷ entries) a = (e.target == a) || is_target entries a

-- an address is a target of one of these swaps
abbrev pub is_among : List (List Entry) → ℕ → Bool
is_among [] a = false
is_among (entries ∷ begun) a = is_target entries a || is_among begun a

-- a swap begun since the last renewal names the address; a word that none names is private
abbrev pub is_named : SwapMemory → ℕ → Bool
is_named m a = is_among m.begun a

-- no private store stands unflushed at an address: the word in the caches is the one in the memory itself, and what was asked
-- for after that and is not fenced is the same
abbrev pub is_settled_at : SwapMemory → ℕ → Bool
is_settled_at m a = is_settled m.cached m.durable m.past a

-- a worker that was never asked for anything
abbrev pub idle : Working
idle = record { doing = Idle; flush_next = false }

abbrev pub worker_of : SwapMemory → ℕ → Working
worker_of m w = get_or m.workers w idle

abbrev pub doing_of : SwapMemory → ℕ → Doing
doing_of m w = (worker_of m w).doing
