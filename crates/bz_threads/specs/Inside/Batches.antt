-- What is known of the batches of threads, of an index that was opened when its first pass had seen `first`, while these calls
-- waited.
use Rattle.std.specs.Prelude.{◌≡◌, ◌<◌, ◌≤◌, ◌⊎◌, ℕ, nat_lt, if◌then◌else◌, List, [], ◌∷◌, All, Option, Some, None}
use Rattle.bz_bus.specs.Entries.{Extends, entries_of}
use Rattle.bz_call.specs.declared.calls.Call.{Call}
use Rattle.bz_index.specs.Entries.{owner_of}
use Rattle.bz_index.specs.Passes.{origin_in, worker_of, seen_by, IsFree, IsPassOf}
use Rattle.bz_index.specs.declared.answer.Answer.{Answer}
use Rattle.bz_index.specs.declared.answer.Answer.TheVariants as answer
use Rattle.bz_index.specs.declared.index.Index.{Index}
use Rattle.bz_index.specs.declared.index.IndexPass.{IndexPass}
use Rattle.bz_index.specs.declared.shared.IndexEntry.{IndexEntry}
use Rattle.bz_index.specs.declared.shared.Origin.{Origin}
use Rattle.bz_layout.specs.declared.limits.TheConstants.{MAX_WORKERS}
use Rattle.bz_sched.specs.Queued.{calls_of}
use Rattle.bz_threads.specs.Made.{own_of, MakesAll}
use Rattle.bz_threads.specs.declared.batch.Batch.{Batch}
use Rattle.bz_index.specs.FromWorld.LimitKind.{LimitKind}

-- these calls, each with the worker
abbrev pub paired : ℕ → List Call → List (ℕ × Call)
paired w [] = []
paired w (call ∷ calls) = (w, call) ∷ paired w calls

-- a pass of a worker
pub record IsWorkers (index : Index) (p : IndexPass) : Type 0 where
  pub pass : IsPassOf index p
  pub some : 0 < worker_of p
  pub most : worker_of p ≤ MAX_WORKERS

-- the first pass
abbrev pub IsFirstOf : Index → IndexPass → Type 0
IsFirstOf index p = IsPassOf index p × (worker_of p ≡ 0)

-- a batch of which nothing is done: its calls are those that wait for its worker
pub record IsOpened (index : Index) (waiting : List (ℕ × Call)) (first : List IndexEntry) (batch : Batch) : Type 0 where
  pub pass : IsWorkers index batch.pass
  pub seen : seen_by batch.pass ≡ first
  pub calls : paired (worker_of batch.pass) batch.calls.items ≡ calls_of (worker_of batch.pass) waiting

-- what a thread made of a batch
pub record HasWorked (index : Index) (old new : Batch) : Type 0 where
  pub pass : IsPassOf index new.pass
  pub worker : worker_of new.pass ≡ worker_of old.pass
  pub calls : new.calls.items ≡ old.calls.items
  pub extends : Extends (seen_by old.pass) (seen_by new.pass)
  pub made : MakesAll (origin_in index) (worker_of old.pass) old.calls.items (seen_by old.pass) (seen_by new.pass) new.stopped

-- a batch that is done
pub record IsDone (index : Index) (waiting : List (ℕ × Call)) (first : List IndexEntry) (batch : Batch) : Type 0 where
  pub pass : IsWorkers index batch.pass
  pub calls : paired (worker_of batch.pass) batch.calls.items ≡ calls_of (worker_of batch.pass) waiting
  pub extends : Extends first (seen_by batch.pass)
  pub made : MakesAll (origin_in index) (worker_of batch.pass) batch.calls.items first (seen_by batch.pass) batch.stopped

-- one of the batches is the worker's
abbrev pub HasBatch : ℕ → List Batch → Type 0
HasBatch w [] = ⊥
HasBatch w (batch ∷ batches) = (worker_of batch.pass ≡ w) ⊎ HasBatch w batches

-- each worker has a batch, or no pass has it
abbrev pub CoversWorkers : List Batch → IndexPass → Type 0
CoversWorkers batches p = (w : ℕ) → 0 < w → w ≤ MAX_WORKERS → HasBatch w batches ⊎ IsFree p w

-- what became of a worker's calls, in a list that has grown since it was done with them
pub record Fate (origin : Origin) (w : ℕ) (waiting : List (ℕ × Call)) (first now : List IndexEntry) (answer : Option Answer) : Type 0 where
  pub calls : List Call
  pub are : paired w calls ≡ calls_of w waiting
  pub seen : List IndexEntry
  pub since : Extends first seen
  pub extends : Extends seen now
  pub own : own_of w now ≡ own_of w seen
  pub made : MakesAll origin w calls first seen answer

-- the worker met no limit
abbrev pub MetNone : Option Answer → Type 0
MetNone (Some (answer.Limit which)) = ⊥
MetNone other = Unit {0}

-- of two workers that met a limit the lower one
abbrev pub lower_of : Option (ℕ × LimitKind) → ℕ → LimitKind → Option (ℕ × LimitKind)
lower_of None w which = Some (w, which)
lower_of (Some (v, other)) w which = if nat_lt v w then Some (v, other) else Some (w, which)

-- the lowest worker that met a limit, and that limit, once one more is asked
abbrev pub lowered : Option (ℕ × LimitKind) → ℕ → Option Answer → Option (ℕ × LimitKind)
lowered lowest w (Some (answer.Limit which)) = lower_of lowest w which
lowered lowest w other = lowest

-- the lowest worker that met a limit is this one, with that limit: of the others so far, none below it met one
abbrev pub IsAbove : Option (ℕ × LimitKind) → ℕ → Option Answer → Type 0
IsAbove None w met = MetNone met
IsAbove (Some (v, which)) w met = w < v → MetNone met

-- the worker is back, and this is what became of its calls
pub record IsBack (index : Index) (waiting : List (ℕ × Call)) (first : List IndexEntry) (p : IndexPass) (lowest : Option (ℕ × LimitKind)) (w : ℕ) : Type 0 where
  pub free : IsFree p w
  pub met : Option Answer
  pub fate : Fate (origin_in index) w waiting first (seen_by p) met
  pub above : IsAbove lowest w met

-- the worker whose limit is the lowest one's
abbrev pub IsLowest : Index → List (ℕ × Call) → List IndexEntry → IndexPass → Option (ℕ × LimitKind) → Type 0
IsLowest index waiting first p None = Unit {0}
IsLowest index waiting first p (Some (v, which)) =
    (0 < v) × (v ≤ MAX_WORKERS) × IsFree p v × Fate (origin_in index) v waiting first (seen_by p) (Some (answer.Limit which))

-- some batches are joined and others are not yet
pub record IsJoined (index : Index) (waiting : List (ℕ × Call)) (first : List IndexEntry) (p : IndexPass) (batches : List Batch) (lowest : Option (ℕ × LimitKind)) : Type 0 where
  pub pass : IsFirstOf index p
  pub grown : Extends first (seen_by p)
  pub quiet : entries_of owner_of 0 (seen_by p) ≡ entries_of owner_of 0 first
  pub done : All (IsDone index waiting first) batches
  pub each : (w : ℕ) → 0 < w → w ≤ MAX_WORKERS → HasBatch w batches ⊎ IsBack index waiting first p lowest w
  pub limit : IsLowest index waiting first p lowest
