-- What the parts of an armed cut do to a world.
use Rattle.std.specs.Prelude.{◌≡◌, ◌<◌, ◌≤◌, ℕ, true, false, List, []}
use Rattle.bz_call.specs.declared.calls.Call.{Call}
use Rattle.bz_layout.specs.Addresses.{words_of}
use Rattle.bz_script.specs.Draws.{next_state}
use Rattle.bz_mark.specs.declared.power.Power.TheVariants as power
use Rattle.bz_world.specs.WorldView.{WorldView, is_short, power_in, Evicts}
use Rattle.bz_world.specs.declared.answers.Applied.TheVariants as applied
use Rattle.bz_world.specs.declared.answers.LimitKind.TheVariants as which
use Rattle.bz_sched.specs.Cuts.{differs_at, is_drawn, Passes, PassesFrom, PassesInPart, EvictsDrawn, EvictsInPart, CutsOff, CutsOffInPart}
use Rattle.bz_sched.specs.Queued.{Queued}
use Rattle.bz_sched.specs.Runs.{point_with, marks_left, IsAtLimit, Stays}
use Rattle.bz_sched.specs.declared.running.RunEnd.{RunEnd}
use Rattle.bz_sched.specs.declared.running.RunEnd.TheVariants as end

-- the world is the same one, and so are what the power is and which of the next acts are fences
pub record Evolves (old new : WorldView) : Type 0 where
  pub stays : Stays old new
  pub power : power_in new ≡ power_in old
  pub flushes : new.flushes ≡ old.flushes

-- a word was evicted
pub record WordEvicted (old : WorldView) (a : ℕ) (new : WorldView) : Type 0 where
  pub room : is_short old.log ≡ false
  pub evicts : Evicts old a applied.Evicted new

-- no place was left in the journal, and nothing changed
pub record HasNoPlace (old new : WorldView) : Type 0 where
  pub short : is_short old.log ≡ true
  pub same : new ≡ old

-- a word was passed, with the state of the generator before it
pub record WordPassed (a state : ℕ) (old new : WorldView) : Type 0 where
  pub evolves : Evolves old new
  pub passes : Passes old.log.start a state old.log.past new.log.past

-- it was to be evicted, and no place was left
pub record PassStopped (a state : ℕ) (old new : WorldView) : Type 0 where
  pub refused : HasNoPlace old new
  pub differs : differs_at old.log.start old.log.past a ≡ true
  pub drawn : is_drawn (next_state state) ≡ true

-- all words were passed
pub record WordsPassed (words seed : ℕ) (old new : WorldView) : Type 0 where
  pub evolves : Evolves old new
  pub passes : PassesFrom old.log.start words 0 seed old.log.past new.log.past

-- those before one for whose eviction no place was left
pub record PassesStopped (words seed : ℕ) (old new : WorldView) : Type 0 where
  pub evolves : Evolves old new
  pub passes : PassesInPart old.log.start words 0 seed old.log.past new.log.past
  pub met : marks_left new < 3

-- the words that the draws name were evicted, none where the seed is 0
pub record AreEvicted (words seed : ℕ) (old new : WorldView) : Type 0 where
  pub evolves : Evolves old new
  pub evicts : EvictsDrawn old.log.start words seed old.log.past new.log.past

pub record EvictionsStopped (words seed : ℕ) (old new : WorldView) : Type 0 where
  pub evolves : Evolves old new
  pub evicts : EvictsInPart old.log.start words seed old.log.past new.log.past
  pub met : marks_left new < 3

-- the power was cut, and the acts that it left out are the next ones of before; or the limit on marks forbade an eviction or the cut
abbrev pub IsCutOff : ℕ → WorldView → RunEnd → WorldView → Type 0
IsCutOff seed old end.Finished new = ⊥
IsCutOff seed old end.Cut new =
    Stays old new × (power_in new ≡ power.Off) × (new.left_out ≡ old.flushes) × ((calls : List (ℕ × Call)) → CutsOff old.log.start (words_of old.config) seed (point_with old calls) (point_with new []))
IsCutOff seed old (end.Limit why) new =
    Stays old new × (why ≡ which.Marks) × ((calls : List (ℕ × Call)) → CutsOffInPart old.log.start (words_of old.config) seed (point_with old calls) (point_with new calls)) × IsAtLimit new why

-- then the calls that wait were dropped
abbrev pub IsCutRun : ℕ → WorldView → Queued → RunEnd → WorldView → Queued → Type 0
IsCutRun seed old queued end.Cut new left = IsCutOff seed old end.Cut new × (left.calls ≡ []) × (queued.room ≤ left.room)
IsCutRun seed old queued other new left = IsCutOff seed old other new × (left ≡ queued)
