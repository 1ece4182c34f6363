-- What a turn does to a world, told by its fixed part and by the lists that it finds and leaves: there are views of worlds
-- with these lists between which the event made the answer.
use Rattle.std.specs.Prelude.{◌≡◌, ◌<◌, ℕ, List}
use Rattle.bz_call.specs.declared.calls.Call.{Call}
use Rattle.bz_index.specs.Entries.{entries_in, origin_of, log_of}
use Rattle.bz_index.specs.declared.shared.Origin.{Origin}
use Rattle.bz_index.specs.declared.shared.IndexEntry.{IndexEntry}
use Rattle.bz_sound.specs.Power.Sound.{IsSound}
use Rattle.bz_mark.specs.declared.power.Power.TheVariants as power
use Rattle.bz_world.specs.WorldView.{WorldView, power_in, recovery_acts, recovery_most, begin_answer, after_begin, IsApplied}
use Rattle.bz_world.specs.declared.answers.Applied.{Applied}
use Rattle.bz_world.specs.declared.answers.Begun.{Begun}
use Rattle.bz_world.specs.declared.answers.Event.{Event}

-- with the fixed part the list is a sound journal
abbrev pub IsSoundList : Origin → List IndexEntry → Type 0
IsSoundList origin seen = IsSound origin.config origin.at_start (log_of origin seen)

-- a world with this fixed part and these entries, whose journal is sound, and which has made few acts where it recovers
pub record IsWorldOf (origin : Origin) (entries : List IndexEntry) (lab : WorldView) : Type 0 where
  pub stays : origin_of lab ≡ origin
  pub told : entries_in lab.log ≡ entries
  pub sound : IsSound lab.config lab.at_start lab.log
  pub brief : power_in lab ≡ power.Recovering → recovery_acts lab < recovery_most lab.config

-- a turn that begins a call of a worker
pub record HasBegun (origin : Origin) (found : List IndexEntry) (worker : ℕ) (call : Call) (answer : Begun) (left : List IndexEntry) : Type 0 where
  pub lab : WorldView
  pub before : IsWorldOf origin found lab
  pub answered : answer ≡ begin_answer lab worker call
  pub after : IsWorldOf origin left (after_begin lab worker call answer)

-- a turn that makes an event happen
pub record HasMade (origin : Origin) (found : List IndexEntry) (event : Event) (answer : Applied) (left : List IndexEntry) : Type 0 where
  pub old : WorldView
  pub new : WorldView
  pub before : IsWorldOf origin found old
  pub applied : IsApplied old event answer new
  pub after : IsWorldOf origin left new
