-- The whole machine, what happens to it, and its invariant.
use Rattle.std.specs.Prelude.{◌≡◌, ℕ, ◌<◌, ◌≤◌, ◌==◌, Bool, true, false, List, [], ◌∷◌, None}
use Rattle.bz_swap_machine.specs.declared.status.SwapStatus.TheVariants.{Free}
use Rattle.bz_swap_machine.specs.declared.place.Place.TheVariants.{Idle, Prepare, ReadWord, StoreWord, AskLine}
use Rattle.bz_swap_machine.specs.declared.place.PrepareStep.TheVariants.{WriteWord}
use Rattle.bz_swap_machine.specs.declared.worker.Operation.TheVariants.{Nothing, Reading, Swapping}
use Rattle.bz_word.specs.declared.kind.WordKind.{WordKind}
use Rattle.bz_swap_machine.specs.Machine.{Entries, Memory, MayLast, spelled}
use Rattle.bz_swap_machine.specs.Pending.{IsAlone}
use Rattle.bz_swap_machine.specs.Changes.{put, with_copies, with_durable_status, with_durable_fields, with_taken, no_entries, renewed}
use Rattle.bz_swap_machine.specs.Sizes.{most_entries}
use Rattle.bz_swap_machine.specs.Sound.{AreApart, AreShort, IsPlain, Sound}
use Rattle.bz_swap_machine.specs.Steps.{Local, Stepped, act}
use Rattle.bz_swap_machine.specs.Knows.{Knows, AsksAtHome}

-- what each swap is to do, the memory, and each worker
pub record State : Type 0 where
  pub entries : ℕ → Entries
  pub memory : Memory
  pub local : ℕ → Local

pub data Event : Type 0 where
  StartRead : (w a : ℕ) → Event
  StartStore : (w a v : ℕ) → Event
  StartFlush : (w line : ℕ) → Event
  -- the targets of the entries, as a test on addresses
  StartSwap : (w : ℕ) (x : Entries) (targets : ℕ → Bool) → Event
  Act : (w : ℕ) → Event
  Evict : (a : ℕ) → Event
  EvictStatus : (s : ℕ) → Event
  EvictField : (s k : ℕ) → Event

-- the state with another worker w
abbrev pub with_local : State → ℕ → Local → State
with_local x w l = record x { local = put x.local w l }

abbrev pub with_memory : State → Memory → State
with_memory x m = record x { memory = m }

abbrev pub stepped : State → ℕ → Stepped
stepped x w = act x.memory w (x.local w) (x.local w).place

-- the worker that begins a swap, whose number is s
abbrev pub swapping : Local → ℕ → Entries → Local
swapping l s x = record { operation = Swapping s; place = Prepare (WriteWord 0); current = s; back = None; list = spelled x }

abbrev pub happens : State → Event → State
happens x (StartRead w a) = with_local x w (record (x.local w) { operation = Reading a; place = ReadWord a; back = None })
happens x (StartStore w a v) = with_local x w (record (x.local w) { place = StoreWord a v })
happens x (StartFlush w line) = with_local x w (record (x.local w) { place = AskLine line })
happens x (StartSwap w new targets) = record {
  entries = put x.entries x.memory.taken new;
  memory = with_taken x.memory w targets;
  local = put x.local w (swapping (x.local w) x.memory.taken new);
}
happens x (Act w) = record { entries = x.entries; memory = (stepped x w).memory; local = put x.local w (stepped x w).local }
happens x (Evict a) = with_memory x (with_copies x.memory (λ b. b == a))
happens x (EvictStatus s) = with_memory x (with_durable_status x.memory s)
happens x (EvictField s k) = with_memory x (with_durable_fields x.memory s (λ j. j == k))

-- entries of a swap that worker w may begin: they are at most four and have targets of their own, which the test names, and on none of
-- them does a private store stand unflushed or unfenced, or wait to be made
pub record MaySwap (x : State) (new : Entries) (targets : ℕ → Bool) : Type 0 where
  pub some : 0 < new.count
  pub few : new.count ≤ most_entries
  pub apart : (i : ℕ) → i < new.count → new.index (new.target i) ≡ i
  pub told : (i : ℕ) → i < new.count → targets (new.target i) ≡ true
  pub flushed : (a : ℕ) (y : WordKind) → targets a ≡ true → x.memory.named a ≡ false → MayLast x.memory a y → y ≡ x.memory.cached a
  pub not_stored : (w a v : ℕ) → (x.local w).place ≡ StoreWord a v → targets a ≡ false

-- what may happen: each worker begins one thing at a time, and stores to private words alone
abbrev pub MayHappen : State → Event → Type 0
MayHappen x (StartRead w a) = (x.local w).place ≡ Idle
MayHappen x (StartStore w a v) = ((x.local w).place ≡ Idle) × (x.memory.named a ≡ false)
MayHappen x (StartFlush w line) = (x.local w).place ≡ Idle
MayHappen x (StartSwap w new targets) = ((x.local w).place ≡ Idle) × MaySwap x new targets
MayHappen x (Act w) = Unit {0}
MayHappen x (Evict a) = Unit {0}
MayHappen x (EvictStatus s) = Unit {0}
MayHappen x (EvictField s k) = Unit {0}

-- the invariant
pub record IsState (x : State) : Type 0 where
  pub apart : AreApart x.entries
  pub short : AreShort x.entries
  pub sound : Sound x.entries x.memory
  pub knows : (w : ℕ) → Knows x.entries x.memory w (x.local w)
  pub home : (w : ℕ) → AsksAtHome x.memory w (x.local w)

-- a list of events that may happen one after the other, and the state after them
abbrev pub AllMayHappen : State → List Event → Type 0
AllMayHappen x [] = Unit {0}
AllMayHappen x (v ∷ vs) = MayHappen x v × AllMayHappen (happens x v) vs

abbrev pub after_all : State → List Event → State
after_all x [] = x
after_all x (v ∷ vs) = after_all (happens x v) vs

-- what a renewal needs: plain words, the same in cache and in durable memory, free descriptors, and nobody who waits for a
-- fence
pub record IsRenewable (m : Memory) : Type 0 where
  pub plain : (a : ℕ) → IsPlain (m.cached a)
  pub same : (a : ℕ) → m.cached a ≡ m.durable a
  pub free : (s : ℕ) → m.status s ≡ Free
  pub durable_free : (s : ℕ) → m.durable_status s ≡ Free
  pub words : (a : ℕ) → IsAlone m.now (m.pending a)
  pub statuses : (s : ℕ) → IsAlone m.now (m.status_pending s)
  pub fields : (s k : ℕ) → IsAlone m.now (m.words_pending s k)

-- a worker at power on
abbrev pub idle : Local
idle = record { operation = Nothing; place = Idle; current = 0; back = None; list = λ k. 0 }

-- power on after a recovery that left this memory
abbrev pub power_on : Memory → State
power_on m = record { entries = no_entries; memory = renewed m; local = λ w. idle }
