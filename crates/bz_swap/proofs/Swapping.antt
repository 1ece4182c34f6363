-- A swap is started: the machine's state after it.
use Rattle.std.specs.Prelude.{◌≡◌, ◌≢◌, if◌then◌else◌, ℕ, ◌<◌, true, List, length, slice_index, slice_set, None}
use Rattle.std.proofs.Common.{arith, ap, sym, ◌∙◌, inl, inr}
use Rattle.std.proofs.lemmas.Bool.{cases_eq}
use Rattle.std.proofs.lemmas.List.{get_or-set_same, get_or-set_other}
use Rattle.bz_word.specs.declared.entry.Entry.{Entry}
use Rattle.bz_swap_machine.specs.declared.place.Place.TheVariants as place
use Rattle.bz_swap_machine.specs.declared.place.PrepareStep.TheVariants.{WriteWord}
use Rattle.bz_swap_machine.specs.declared.worker.Operation.TheVariants as operation
use Rattle.bz_swap_machine.specs.declared.worker.Worker.{Worker}
use Rattle.bz_swap_machine.specs.declared.descriptor.DescriptorWords.{DescriptorWords}
use Rattle.bz_swap_machine.specs.Allowed.{for_swap}
use Rattle.bz_swap_machine.specs.Machine.{Entries}
use Rattle.bz_swap_machine.specs.Changes.{put}
use Rattle.bz_swap_machine.specs.Lawful.{MayHold}
use Rattle.bz_swap_machine.specs.State.{State, Event, StartSwap, MayHappen, happens, swapping as beginning}
use Rattle.bz_swap_machine.specs.Steps.{Local}
use Rattle.bz_swap_machine.specs.Workers.{local_of}
use Rattle.bz_swap_cells.specs.Store.{Beside}
use Rattle.bz_swap.specs.declared.phase.Phase.TheVariants.{Running}
use Rattle.bz_swap.specs.SwapMemory.{is_target}
use Rattle.bz_swap.specs.Starts.{MaySwap}
use Rattle.bz_swap.specs.Inside.Parts.{Parts, idle_worker, worker_at, seen}
use Rattle.bz_swap.specs.Inside.Allowances.{after_start}
use Rattle.bz_swap.specs.Inside.Kept.{IsRunning, state_of, allowed_at}
use Rattle.bz_swap.proofs.MaySwaps.{may-begin, values-from}
use Rattle.bz_swap.proofs.Stepped.{put-here, put-there}
use Rattle.bz_swap.proofs.Stepping.{workers-within}
use Rattle.bz_swap.proofs.Taken.{one_taken}
use Rattle.bz_swap.proofs.SwapLists.{Lists, entries_from, spelled-from}
use Rattle.bz_swap.proofs.WorkStarts.{idle-at}

-- the worker that begins a swap, with the words that list its entries
abbrev pub swapper : ℕ → DescriptorWords → Worker
swapper s words = record { operation = operation.Swapping s; place = place.Prepare (WriteWord 0); current = s; back = None; list = words }

abbrev pub with_swap : Parts → ℕ → DescriptorWords → Parts
with_swap p w words = record p { store = one_taken p.store; workers = slice_set p.workers w (swapper p.store.taken words); phase = Running; allowance = after_start p.allowance w for_swap }

-- what is told of the past, with the swap that worker w begins
abbrev pub beside_swap : Beside → ℕ → ℕ → List Entry → Beside
beside_swap b s w entries = record b { owner = put b.owner s w; named = λ a. if is_target entries a then true else b.named a }

-- worker w may start a swap of these entries, which the words list
pub record Begins (p : Parts) (w : ℕ) (words : DescriptorWords) (entries : List Entry) : Type 0 where
  pub may : MaySwap (seen p) w entries
  pub lists : Lists (slice_index words.words) entries
  pub left : p.store.taken < p.store.swaps
  pub allowed : p.allowance.all ≡ allowed_at p.workers

pub here : (p : Parts) (w : ℕ) (words : DescriptorWords) → w < length p.workers → worker_at (with_swap p w words) w ≡ swapper p.store.taken words
here p w words within = get_or-set_same p.workers w (swapper p.store.taken words) idle_worker within

pub there : (p : Parts) (w v : ℕ) (words : DescriptorWords) → v ≢ w → worker_at (with_swap p w words) v ≡ worker_at p v
there p w v words ne = get_or-set_other p.workers w v (swapper p.store.taken words) idle_worker ne

-- the machine's event
abbrev pub event : Parts → ℕ → DescriptorWords → List Entry → Event
event p w words entries = StartSwap w (entries_from (slice_index words.words)) (is_target entries)

pub happening : (p : Parts) (r : IsRunning p) (w : ℕ) (words : DescriptorWords) (entries : List Entry) → Begins p w words entries → MayHappen (state_of p r.entries r.beside) (event p w words entries)
happening p r w words entries h = (idle-at p r w h.may.work.idle, may-begin p r w (slice_index words.words) entries h.may h.lists)

pub holding : (p : Parts) (r : IsRunning p) (w : ℕ) (words : DescriptorWords) (entries : List Entry) → Begins p w words entries → MayHold (state_of p r.entries r.beside) (event p w words entries)
holding p r w words entries h = (values-from p w (slice_index words.words) entries h.may h.lists, omega (arith, h.left, r.words.has_room.numbered))

-- the entries of the swaps, with those of the next one
abbrev pub entries_swap : Parts → (ℕ → Entries) → DescriptorWords → ℕ → Entries
entries_swap p e words = put e p.store.taken (entries_from (slice_index words.words))

pub state-begun : (p : Parts) (r : IsRunning p) (w : ℕ) (words : DescriptorWords) (entries : List Entry) → Begins p w words entries
    → state_of (with_swap p w words) (entries_swap p r.entries words) (beside_swap r.beside p.store.taken w entries) ≡ happens (state_of p r.entries r.beside) (event p w words entries)
state-begun p r w words entries h =
    let after : State = happens (state_of p r.entries r.beside) (event p w words entries) in
    λ i. record { entries = after.entries; memory = after.memory; local = λ u. locals u i }
  where
    begins : Local
    begins = beginning (local_of (worker_at p w)) p.store.taken (entries_from (slice_index words.words))

    spells : local_of (swapper p.store.taken words) ≡ begins
    spells = λ i. record (local_of (swapper p.store.taken words)) { list = sym (spelled-from (slice_index words.words)) i }

    locals : (u : ℕ) → local_of (worker_at (with_swap p w words) u) ≡ (happens (state_of p r.entries r.beside) (event p w words entries)).local u
    locals u = elim (cases_eq u w) [
      | inl e ↦ ap (λ t. local_of (worker_at (with_swap p w words) t)) e ∙ ap local_of (here p w words (workers-within p w h.may.work.within)) ∙ spells ∙ sym (put-here (λ t. local_of (worker_at p t)) w begins u e)
      | inr ne ↦ ap local_of (there p w u words ne) ∙ sym (put-there (λ t. local_of (worker_at p t)) w begins u ne)
    ]
