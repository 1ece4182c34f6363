-- What clauses say of an index and of its passes.
use Rattle.std.specs.Prelude.{◌≡◌, ◌<◌, ◌≤◌, ◌⊎◌, ℕ, ◌+◌, Bool, true, List, None}
use Rattle.bz_bus.specs.Entries.{IsFreeIn}
use Rattle.bz_bus.specs.Passes as bus
use Rattle.bz_bus.specs.declared.TheConstants.{PASSES}
use Rattle.bz_index.specs.Entries.{origin_of, marks_in, log_of}
use Rattle.bz_index.specs.Worlds.{IsSoundList}
use Rattle.bz_index.specs.declared.index.Index.{Index}
use Rattle.bz_index.specs.declared.index.IndexPass.{IndexPass}
use Rattle.bz_index.specs.declared.shared.IndexEntry.{IndexEntry}
use Rattle.bz_index.specs.declared.shared.Origin.{Origin}
use Rattle.bz_sound.specs.Calls.{open_call}
use Rattle.bz_world.specs.WorldView.{is_short}
use Rattle.bz_world.specs.declared.answers.Event.{Event}
use Rattle.bz_world.specs.declared.answers.Event.TheVariants as event

-- the fixed part of the world that the index was opened with
abbrev pub origin_in : Index → Origin
origin_in index = origin_of (bus.opened index.bus).world

-- whose calls the pass makes
abbrev pub worker_of : IndexPass → ℕ
worker_of p = bus.number_of p.pass

-- the entries that the pass has seen
abbrev pub seen_by : IndexPass → List IndexEntry
seen_by p = bus.seen_by p.pass

-- for each worker whether no pass has it, as the first pass knows
abbrev pub free_in : IndexPass → List Bool
free_in p = bus.free_in p.pass

-- no pass has the worker
abbrev pub IsFree : IndexPass → ℕ → Type 0
IsFree p w = IsFreeIn (free_in p) w

-- no call of the worker is open, or no more can be begun: fewer than three places are left
abbrev pub IsAtRest : Origin → List IndexEntry → ℕ → Type 0
IsAtRest origin seen w = (open_call w (marks_in seen) ≡ None) ⊎ (is_short (log_of origin seen) ≡ true)

-- what the first pass knows of the others
pub record IsFirst (origin : Origin) (seen : List IndexEntry) (free : List Bool) : Type 0 where
  pub rests : (w : ℕ) → 0 < w → w ≤ origin.config.workers → IsFreeIn free w → IsAtRest origin seen w
  pub beyond : (w : ℕ) → origin.config.workers < w → IsFreeIn free w

-- it is a pass of this index: its worker is one of the world's, and what it has seen is a sound journal
pub record IsPlaced (index : Index) (p : IndexPass) : Type 0 where
  pub pass : bus.IsPassOf index.bus p.pass
  pub room : bus.passes_of index.bus ≡ (origin_in index).config.workers + 1
  pub worker : worker_of p ≤ (origin_in index).config.workers
  pub below : (origin_in index).config.workers < PASSES
  pub sound : IsSoundList (origin_in index) (seen_by p)

-- and it makes no call at the moment
pub record IsPassOf (index : Index) (p : IndexPass) : Type 0 where
  pub placed : IsPlaced index p
  pub rests : 0 < worker_of p → IsAtRest (origin_in index) (seen_by p) (worker_of p)
  pub first : worker_of p ≡ 0 → IsFirst (origin_in index) (seen_by p) (free_in p)

-- what the first pass may make happen
abbrev pub IsEventOfFirst : Event → Type 0
IsEventOfFirst (event.Step w) = w ≡ 0
IsEventOfFirst other = Unit {0}
