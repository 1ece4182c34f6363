-- The parts of a swap memory, and what callers see of them.
use Rattle.std.specs.Prelude.{if◌then◌else◌, ◌==◌, ℕ, zero, suc, ◌+◌, Bool, false, List, [], ◌∷◌, map, get_or, slice_index, replicate, None}
use Rattle.bz_word.specs.declared.entry.Entry.{Entry}
use Rattle.bz_swap_machine.specs.declared.place.Place.{Place}
use Rattle.bz_swap_machine.specs.declared.place.Place.TheVariants as place
use Rattle.bz_swap_machine.specs.declared.worker.Operation.{Operation}
use Rattle.bz_swap_machine.specs.declared.worker.Operation.TheVariants as operation
use Rattle.bz_swap_machine.specs.declared.worker.Worker.{Worker}
use Rattle.bz_swap_machine.specs.Machine.{Entries, entries_in}
use Rattle.bz_swap_machine.specs.Fences.{is_fence}
use Rattle.bz_swap_cells.specs.Store.{Store, descriptor_word_at}
use Rattle.bz_swap.specs.declared.allowance.Allowance.{Allowance}
use Rattle.bz_swap.specs.declared.phase.Phase.{Phase}
use Rattle.bz_swap.specs.declared.phase.Phase.TheVariants.{Opened, Running, Recovering}
use Rattle.bz_swap.specs.SwapMemory.{SwapMemory, Doing, Idle, Reading, Swapping, Loading, Storing, Flushing, Working}

pub record Parts : Type 0 where
  pub store : Store
  pub workers : List Worker
  pub phase : Phase
  pub steps : ℕ
  pub allowance : Allowance

-- a worker that was never asked for anything
unfoldable pub idle_worker : Worker
idle_worker = record { operation = operation.Nothing; place = place.Idle; current = 0; back = None; list = record { words = replicate 13 0 } }

abbrev pub worker_at : Parts → ℕ → Worker
worker_at p w = get_or p.workers w idle_worker

-- so many values of a function, from a number on
abbrev pub listed : {A : Type 0} → (ℕ → A) → ℕ → ℕ → List A
listed f i zero = []
listed f i (suc n) = f i ∷ listed f (i + 1) n

-- one of the entries, and all of them in a list
abbrev pub entry_of : Entries → ℕ → Entry
entry_of x i = record { target = x.target i; expected = x.expected i; new = x.value i }

abbrev pub entry_list : Entries → List Entry
entry_list x = listed (entry_of x) 0 x.count

-- the worker stores the words of this swap's descriptor, which no other worker can reach yet
abbrev pub prepares_at : Place → ℕ → ℕ → Bool
prepares_at (place.Prepare step) current s = current == s
prepares_at other current s = false

abbrev pub prepares : Worker → ℕ → Bool
prepares l s = prepares_at l.place l.current s

-- the words of a swap: those that a worker is about to store, or else those of its descriptor
abbrev pub words_in : Store → ℕ → List Worker → ℕ → ℕ
words_in st s [] = descriptor_word_at st.swaps st.cached s
words_in st s (l ∷ workers) = if prepares l s then slice_index l.list.words else words_in st s workers

-- the entries of the swaps begun, by their numbers
abbrev pub begun_in : Store → List Worker → List (List Entry)
begun_in st workers = listed (λ s. entry_list (entries_in (words_in st s workers))) 0 st.taken

abbrev pub doing_operation : Operation → Doing
doing_operation operation.Nothing = Idle
doing_operation (operation.Reading a) = Reading a
doing_operation (operation.Swapping s) = Swapping s

abbrev pub doing_at : Place → Operation → Doing
doing_at place.Idle o = Idle
doing_at (place.LoadWord a) o = Loading a
doing_at (place.StoreWord a v) o = Storing a v
doing_at (place.AskLine line) o = Flushing line
doing_at (place.FenceLine line) o = Flushing line
doing_at (place.Prepare step) o = doing_operation o
doing_at (place.Learn k) o = doing_operation o
doing_at (place.Help step) o = doing_operation o
doing_at (place.ReadWord a) o = doing_operation o
doing_at (place.AskRead a v) o = doing_operation o
doing_at (place.FenceRead a v) o = doing_operation o
doing_at (place.ClearRead a v) o = doing_operation o

abbrev pub working : Worker → Working
working l = record { doing = doing_at l.place l.operation; flush_next = is_fence l.place }

-- no swap that was begun goes on in a recovery time
abbrev pub begun_seen : Phase → Store → List Worker → List (List Entry)
begun_seen Opened st workers = begun_in st workers
begun_seen Running st workers = begun_in st workers
begun_seen Recovering st workers = []

abbrev pub seen : Parts → SwapMemory
seen p = record {
  cached = p.store.cached;
  durable = p.store.durable;
  past = p.store.past;
  swaps = p.store.swaps;
  phase = p.phase;
  begun = begun_seen p.phase p.store p.workers;
  missed = p.store.missed;
  taken = p.store.taken;
  steps = p.steps;
  workers = map working p.workers;
  runner = p.allowance.runner;
  left = p.allowance.left;
}
