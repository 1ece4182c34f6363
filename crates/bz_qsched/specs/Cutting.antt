-- What the parts of an armed cut do to a world.
use Rattle.std.specs.Prelude.{◌≡◌, ◌<◌, ◌≤◌, ℕ, true, false, List, []}
use Rattle.bz_ring.specs.declared.calls.QCall.{QCall}
use Rattle.bz_ring.specs.Content.{size_of}
use Rattle.bz_script.specs.Draws.{next_state}
use Rattle.bz_mark.specs.declared.power.Power.TheVariants as power
use Rattle.bz_queue.specs.QueueView.{QueueView, is_short, power_in, Evicts}
use Rattle.bz_queue.specs.declared.answers.QApplied.TheVariants as applied
use Rattle.bz_queue.specs.declared.answers.QLimit.TheVariants as which
use Rattle.bz_qsched.specs.Cuts.{differs_at, is_drawn, Passes, PassesFrom, PassesInPart, EvictsDrawn, EvictsInPart, CutsOff, CutsOffInPart}
use Rattle.bz_qsched.specs.Queued.{Queued}
use Rattle.bz_qsched.specs.Runs.{point_with, marks_left, IsAtLimit, Stays}
use Rattle.bz_qsched.specs.declared.running.RunEnd.{RunEnd}
use Rattle.bz_qsched.specs.declared.running.RunEnd.TheVariants as end

-- the world is the same one, and so are what the power is and which of the next acts are fences
pub record Evolves (old new : QueueView) : Type 0 where
  pub stays : Stays old new
  pub power : power_in new ≡ power_in old
  pub flushes : new.flushes ≡ old.flushes

-- a word was evicted
pub record WordEvicted (old : QueueView) (a : ℕ) (new : QueueView) : Type 0 where
  pub room : is_short old.log ≡ false
  pub evicts : Evicts old a applied.Evicted new

-- no place was left in the journal, and nothing changed
pub record HasNoPlace (old new : QueueView) : Type 0 where
  pub short : is_short old.log ≡ true
  pub same : new ≡ old

-- a word was passed, with the state of the generator before it
pub record WordPassed (a state : ℕ) (old new : QueueView) : Type 0 where
  pub evolves : Evolves old new
  pub passes : Passes old.log.start a state old.log.past new.log.past

-- it was to be evicted, and no place was left
pub record PassStopped (a state : ℕ) (old new : QueueView) : Type 0 where
  pub refused : HasNoPlace old new
  pub differs : differs_at old.log.start old.log.past a ≡ true
  pub drawn : is_drawn (next_state state) ≡ true

-- all words were passed
pub record WordsPassed (words seed : ℕ) (old new : QueueView) : Type 0 where
  pub evolves : Evolves old new
  pub passes : PassesFrom old.log.start words 0 seed old.log.past new.log.past

-- those before one for whose eviction no place was left
pub record PassesStopped (words seed : ℕ) (old new : QueueView) : Type 0 where
  pub evolves : Evolves old new
  pub passes : PassesInPart old.log.start words 0 seed old.log.past new.log.past
  pub met : marks_left new < 3

-- the words that the draws name were evicted, none where the seed is 0
pub record AreEvicted (words seed : ℕ) (old new : QueueView) : Type 0 where
  pub evolves : Evolves old new
  pub evicts : EvictsDrawn old.log.start words seed old.log.past new.log.past

pub record EvictionsStopped (words seed : ℕ) (old new : QueueView) : Type 0 where
  pub evolves : Evolves old new
  pub evicts : EvictsInPart old.log.start words seed old.log.past new.log.past
  pub met : marks_left new < 3

-- the power was cut; or the limit on marks forbade an eviction or the cut
abbrev pub IsCutOff : ℕ → QueueView → RunEnd → QueueView → Type 0
IsCutOff seed old end.Finished new = ⊥
IsCutOff seed old end.Cut new =
    Stays old new × (power_in new ≡ power.Off) × ((calls : List (ℕ × QCall)) → CutsOff old.log.start (size_of old.numbers.ring) seed (point_with old calls) (point_with new []))
IsCutOff seed old (end.Limit why) new =
    Stays old new × (why ≡ which.Marks) × ((calls : List (ℕ × QCall)) → CutsOffInPart old.log.start (size_of old.numbers.ring) seed (point_with old calls) (point_with new calls)) × IsAtLimit new why

-- then the calls that wait were dropped
abbrev pub IsCutRun : ℕ → QueueView → Queued → RunEnd → QueueView → Queued → Type 0
IsCutRun seed old queued end.Cut new left = IsCutOff seed old end.Cut new × (left.calls ≡ []) × (queued.room ≤ left.room)
IsCutRun seed old queued other new left = IsCutOff seed old other new × (left ≡ queued)
