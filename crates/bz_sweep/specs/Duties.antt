-- What a sweep asks for and what it knows, phase by phase.
use Rattle.std.specs.Prelude.{◌≡◌, ◌≢◌, ℕ, ◌+◌, ◌-◌, ◌^◌, ◌<◌, ◌≤◌, ◌==◌, nat_lt, if◌then◌else◌, Option, Some, None}
use Rattle.bz_content.specs.Resolving.{status_in, target_in, SUCCEEDED}
use Rattle.bz_layout.specs.Addresses.{swap_address, line_of}
use Rattle.bz_layout.specs.declared.sizes.TheConstants.{SWAP_STATUS_AT}
use Rattle.bz_word.specs.Kinds.{kind}
use Rattle.bz_word.specs.declared.kind.WordKind.TheVariants.{Swap}
use Rattle.bz_sweep.specs.Areas.{size_of}
use Rattle.bz_sweep.specs.Memory.{Memory}
use Rattle.bz_sweep.specs.Places.{entry_address, left_in, pointers_in, IsPlaced}
use Rattle.bz_sweep.specs.Words.{IsPoweredOn, IsSwept, IsFreeing, IsOfSwap}
use Rattle.bz_sweep.specs.declared.area.Area.{Area}
use Rattle.bz_sweep.specs.declared.ask.Answer.{Answer}
use Rattle.bz_sweep.specs.declared.ask.Answer.TheVariants.{Start, Read, Stored, Flushed}
use Rattle.bz_sweep.specs.declared.ask.Ask.{Ask}
use Rattle.bz_sweep.specs.declared.ask.Ask.TheVariants.{Load, Store, Flush as FlushLine, Finish}
use Rattle.bz_sweep.specs.declared.phase.SweepPhase.{SweepPhase}
use Rattle.bz_sweep.specs.declared.phase.SweepPhase.TheVariants.{Fresh, Word, Status, Target, Value, Resolve, Flush, SwapStatus, Free, FlushFree, Done}
use Rattle.bz_sweep.specs.declared.phase.Pointer.{Pointer}
use Rattle.bz_sweep.specs.declared.phase.Spot.{Spot}
use Rattle.bz_sweep.specs.declared.sweep.Sweep.{Sweep}

-- what a phase asks for
abbrev pub asks_in : SweepPhase → Option Ask
asks_in Fresh = None
asks_in (Word p) = Some (Load p.at)
asks_in (Status p s) = Some (Load (swap_address s + SWAP_STATUS_AT))
asks_in (Target p q i) = Some (Load (entry_address q.swap i 0))
asks_in (Value p a) = Some (Load a)
asks_in (Resolve p x) = Some (Store p.at x)
asks_in (Flush p) = Some (FlushLine (line_of p.at))
asks_in (SwapStatus s) = Some (Load (swap_address s))
asks_in (Free s) = Some (Store (swap_address s) 0)
asks_in (FlushFree s) = Some (FlushLine (line_of (swap_address s)))
asks_in Done = Some Finish

-- how many acts an ask takes: a flush is an ask for its line and a fence
abbrev pub acts_in : Option Ask → ℕ
acts_in (Some (FlushLine line)) = 2
acts_in asks = 1

-- what is known of a pointer whose descriptor's status was read, where the first so many entries have other targets
pub record IsSought (m : Memory) (a : ℕ) (q : Pointer) (i : ℕ) : Type 0 where
  pub pointer : kind (m.durable a) ≡ Swap q.swap
  pub succeeded : q.succeeded ≡ (status_in m.durable q.swap == SUCCEEDED)
  pub others : (j : ℕ) → j < i → target_in m.durable q.swap j ≢ a

-- the word of a descriptor that is the value of an address
pub record IsValueAt (r : Area) (values : ℕ → ℕ) (m : Memory) (a at : ℕ) : Type 0 where
  pub place : IsOfSwap r at
  pub value : m.durable at ≡ values a

-- the word at an address is no plain value: its value is another word, which the sweep stores in its place
abbrev pub IsUnresolved : Memory → ℕ → Type 0
IsUnresolved m a = 2 ^ 61 ≤ m.durable a

-- what has become of the act that a sweep asked for
pub data Stage : Type 0 where
  -- it is still to be made
  Asked : Stage
  -- it is made, and the sweep has not been told
  Made : Stage

-- what a phase knows before its act is made
abbrev pub knows_before : Area → (ℕ → ℕ) → Memory → SweepPhase → Type 0
knows_before r v m Fresh = IsPoweredOn r v m
knows_before r v m (Word p) = IsSwept r v m p.unflushed p.at
knows_before r v m (Status p s) = IsSwept r v m p.unflushed p.at × (kind (m.durable p.at) ≡ Swap s)
knows_before r v m (Target p q i) = IsSwept r v m p.unflushed p.at × IsSought m p.at q i
knows_before r v m (Value p a) = IsSwept r v m p.unflushed p.at × IsValueAt r v m p.at a × IsUnresolved m p.at
knows_before r v m (Resolve p x) = IsSwept r v m p.unflushed p.at × (x ≡ v p.at) × IsUnresolved m p.at
knows_before r v m (Flush p) = IsSwept r v m p.unflushed (p.at + 1)
knows_before r v m (SwapStatus s) = IsFreeing r v m s s
knows_before r v m (Free s) = IsFreeing r v m s s × (m.cached (swap_address s) ≢ 0)
knows_before r v m (FlushFree s) = IsFreeing r v m s (s + 1)
knows_before r v m Done = IsFreeing r v m r.swaps r.swaps

-- and after it: a store or a flush has changed what is known
abbrev pub knows_after : Area → (ℕ → ℕ) → Memory → SweepPhase → Type 0
knows_after r v m (Resolve p x) = IsSwept r v m p.unflushed (p.at + 1)
knows_after r v m (Flush p) = IsSwept r v m (p.at + 1) (p.at + 1)
knows_after r v m (Free s) = IsFreeing r v m s (s + 1)
knows_after r v m (FlushFree s) = IsFreeing r v m (s + 1) (s + 1)
knows_after r v m p = knows_before r v m p

abbrev pub knows_in : Area → (ℕ → ℕ) → Memory → Stage → SweepPhase → Type 0
knows_in r v m Asked p = knows_before r v m p
knows_in r v m Made p = knows_after r v m p

-- what an answer may be: of a load a word
abbrev pub hears_in : Option Ask → Answer → Type 0
hears_in None Start = Unit {0}
hears_in (Some (Load a)) (Read x) = x < 2 ^ 64
hears_in (Some (Store a x)) Stored = Unit {0}
hears_in (Some (FlushLine line)) Flushed = Unit {0}
hears_in asks answer = ⊥

-- a load tells the cached word
abbrev pub tells_in : Option Ask → Answer → Memory → Type 0
tells_in (Some (Load a)) (Read x) m = m.cached a ≡ x
tells_in asks answer m = Unit {0}

-- the line that has words which the sweep has stored and not flushed since, if there is one: there is never a second
abbrev pub changed_at : Spot → Option ℕ
changed_at p = if nat_lt p.unflushed p.at then Some (line_of p.at) else None

abbrev pub changed_in : SweepPhase → Option ℕ
changed_in Fresh = None
changed_in (Word p) = changed_at p
changed_in (Status p s) = changed_at p
changed_in (Target p q i) = changed_at p
changed_in (Value p a) = changed_at p
changed_in (Resolve p x) = changed_at p
changed_in (Flush p) = Some (line_of p.at)
changed_in (SwapStatus s) = None
changed_in (Free s) = None
changed_in (FlushFree s) = Some (line_of (swap_address s))
changed_in Done = None

-- after an act: a store changes its line, and a flush leaves none
abbrev pub changed_after : Option Ask → Answer → Option ℕ → Option ℕ
changed_after (Some (Store a x)) Stored line = Some (line_of a)
changed_after (Some (FlushLine l)) Flushed line = None
changed_after asks answer line = line

abbrev pub area_in : Sweep → Area
area_in t = t.area

abbrev pub asks_of : Sweep → Option Ask
asks_of t = asks_in t.phase

-- the line that it has changed and not flushed since
abbrev pub changed_line : Sweep → Option ℕ
changed_line t = changed_in t.phase

-- it asks for nothing more
abbrev pub HasEnded : Sweep → Type 0
HasEnded t = asks_of t ≡ Some Finish

abbrev pub left_with : (ℕ → ℕ) → Sweep → ℕ
left_with pointers t = left_in t.area pointers t.phase

-- the most acts that it still asks for, whatever the words are: each may be a pointer
abbrev pub left_of : Sweep → ℕ
left_of t = left_with (λ a. size_of t.area - a) t

-- and over a memory that it knows
abbrev pub acts_left : Sweep → Memory → ℕ
acts_left t m = left_with (pointers_in t.area m.durable) t

abbrev pub Knows : Sweep → (ℕ → ℕ) → Stage → Memory → Type 0
Knows t values stage m = knows_in t.area values m stage t.phase

abbrev pub Hears : Sweep → Answer → Type 0
Hears t answer = hears_in (asks_of t) answer

abbrev pub Tells : Sweep → Answer → Memory → Type 0
Tells t answer m = tells_in (asks_of t) answer m

-- a sweep at a phase of such a memory
abbrev pub IsReady : Sweep → Type 0
IsReady t = IsPlaced t.area t.phase
