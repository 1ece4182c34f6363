-- What a recovery asks for and what it knows: first its sweep does, and then its walk.
use Rattle.std.specs.Prelude.{◌≡◌, ◌≢◌, ℕ, ◌+◌, ◌^◌, ◌<◌, Option, Some, None}
use Rattle.bz_layout.specs.Slots.{FreeSlots}
use Rattle.bz_layout.specs.declared.config.Config.{Config}
use Rattle.bz_task.specs.declared.todo.Outcome.{Outcome}
use Rattle.bz_task.specs.declared.todo.Seen.{Seen}
use Rattle.bz_task.specs.declared.todo.Seen.TheVariants.{Start, Read, Stored, Flushed, Swapped, NoSwap}
use Rattle.bz_task.specs.declared.todo.Todo.{Todo}
use Rattle.bz_task.specs.declared.todo.Todo.TheVariants.{Load, Store, Flush}
use Rattle.bz_task.specs.Scene.{Stage, Waiting, Took}
use Rattle.bz_sweep.specs.Areas.{area_of}
use Rattle.bz_sweep.specs.Duties.{Stage as SweepStage, Asked, Made, HasEnded, area_in, asks_of as sweep_asks, left_of as sweep_left, acts_left as sweep_acts_left, Knows as SweepKnows, IsReady as IsSweepReady}
use Rattle.bz_sweep.specs.Memory.{Memory}
use Rattle.bz_sweep.specs.declared.ask.Answer.{Answer}
use Rattle.bz_sweep.specs.declared.ask.Answer.TheVariants.{Start as NoAnswer, Read as ReadWord, Stored as StoredWord, Flushed as FlushedLine}
use Rattle.bz_sweep.specs.declared.ask.Ask.{Ask}
use Rattle.bz_sweep.specs.declared.ask.Ask.TheVariants.{Load as LoadWord, Store as StoreWord, Flush as FlushLine, Finish as NoMore}
use Rattle.bz_recover.specs.Walking.{Walks, IsWalking, asks_of_walk, end_in_walk, walk_left}
use Rattle.bz_recover.specs.declared.recover.Recover.{Recover}
use Rattle.bz_recover.specs.declared.walk.Step.TheVariants.{Fresh as Unasked}
use Rattle.bz_recover.specs.declared.walk.Walk.{Walk as Walker}

-- an act of the sweep; at its end there is none
abbrev pub todo_of : Ask → Option Todo
todo_of (LoadWord a) = Some (Load a)
todo_of (StoreWord a x) = Some (Store a x)
todo_of (FlushLine line) = Some (Flush line)
todo_of NoMore = None

-- what is asked for, where the sweep asks for this, and at its end the walk for that
abbrev pub asks_in : Option Ask → Option Todo → Option Todo
asks_in None walks = None
asks_in (Some (LoadWord a)) walks = Some (Load a)
asks_in (Some (StoreWord a x)) walks = Some (Store a x)
asks_in (Some (FlushLine line)) walks = Some (Flush line)
asks_in (Some NoMore) walks = walks

-- what the sweep is told
abbrev pub answer_of : Seen → Answer
answer_of Start = NoAnswer
answer_of (Read x) = ReadWord x
answer_of Stored = StoredWord
answer_of Flushed = FlushedLine
answer_of (Swapped won) = NoAnswer
answer_of NoSwap = NoAnswer

abbrev pub stage_of : Stage → SweepStage
stage_of Waiting = Asked
stage_of Took = Made

-- what an answer may be: of a load a word
abbrev pub hears_in : Option Todo → Seen → Type 0
hears_in None Start = Unit {0}
hears_in (Some (Load a)) (Read x) = x < 2 ^ 64
hears_in (Some (Store a x)) Stored = Unit {0}
hears_in (Some (Flush line)) Flushed = Unit {0}
hears_in asks seen = ⊥

-- a load tells the cached word
abbrev pub tells_in : Option Todo → Seen → Memory → Type 0
tells_in (Some (Load a)) (Read x) m = m.cached a ≡ x
tells_in asks seen m = Unit {0}

-- how it has ended, where the sweep asks for this, and its walk has ended so
abbrev pub end_in : Option Ask → Option Outcome → Option Outcome
end_in (Some NoMore) ended = ended
end_in asks ended = None

abbrev pub config_of : Recover → Config
config_of t = t.config

abbrev pub asks_of : Recover → Option Todo
asks_of t = asks_in (sweep_asks t.sweep) (asks_of_walk t.walk)

abbrev pub end_of : Recover → Option Outcome
end_of t = end_in (sweep_asks t.sweep) (end_in_walk t.walk.step)

-- the most acts that it still asks for, whatever the words are
abbrev pub left_of : Recover → ℕ
left_of t = sweep_left t.sweep + walk_left t.walk.left t.walk.step

-- and over a memory that it knows
abbrev pub acts_left : Recover → Memory → ℕ
acts_left t m = sweep_acts_left t.sweep m + walk_left t.walk.left t.walk.step

abbrev pub Knows : Recover → (ℕ → ℕ) → Stage → Memory → Type 0
Knows t values stage m = SweepKnows t.sweep values (stage_of stage) m

abbrev pub Hears : Recover → Seen → Type 0
Hears t seen = hears_in (asks_of t) seen

abbrev pub Tells : Recover → Seen → Memory → Type 0
Tells t seen m = tells_in (asks_of t) seen m

-- what its walk knows of the slots, where the words outside the descriptors are these values
abbrev pub WalksIn : Recover → (ℕ → ℕ) → FreeSlots → Type 0
WalksIn t values slots = Walks t.walk values slots

-- a walk that has asked for nothing yet
pub record IsBeforeWalk (c : Config) (w : Walker) : Type 0 where
  pub step : w.step ≡ Unasked
  pub left : w.left ≡ c.nodes

-- a recovery of such a memory: its walk begins where its sweep has ended
pub record IsReady (t : Recover) : Type 0 where
  pub sweep : IsSweepReady t.sweep
  pub walk : IsWalking t.walk
  pub area : area_in t.sweep ≡ area_of t.config
  pub sizes : t.walk.config ≡ t.config
  pub before : ¬ HasEnded t.sweep → IsBeforeWalk t.config t.walk
  pub begun : HasEnded t.sweep → t.walk.step ≢ Unasked
