-- What is told of a world beside its marks: the memory at each moment since the power is on, and what each worker owns.
use Rattle.std.specs.Prelude.{ℕ, zero, suc, ◌==◌, if◌then◌else◌, Bool, false, List, length, is_some, Option, Some}
use Rattle.bz_layout.specs.declared.config.Config.{Config}
use Rattle.bz_mark.specs.Moments.{mark_at}
use Rattle.bz_mark.specs.declared.marks.Mark.{Mark}
use Rattle.bz_mark.specs.declared.marks.Mark.TheVariants.{Load}
use Rattle.bz_sound.specs.Calls.{Open}
use Rattle.bz_task.specs.Instant.{Instant}
use Rattle.bz_task.specs.Scene.{Scene}

-- one life of a memory: it begins when the memory is opened, and anew at each end of a recovery
pub record Story : Type 0 where
  -- the moment at which this life began, a number of marks
  pub from : ℕ
  -- the memory at each moment since
  pub at : ℕ → Instant
  -- the addresses that each worker reserved for a record since
  pub reserved : ℕ → ℕ → Bool
  -- the slots that each worker took since, and those into which it has stored
  pub took : ℕ → ℕ → Bool
  pub filled : ℕ → ℕ → Bool

-- the mark is a load of this worker
abbrev pub is_load_of : ℕ → Option Mark → Bool
is_load_of w (Some (Load v a x)) = v == w
is_load_of w other = false

-- the last of the first marks, so many, is one
abbrev pub loaded : List Mark → ℕ → ℕ → Bool
loaded past w zero = false
loaded past w (suc moment) = is_load_of w (mark_at moment past)

-- what a worker's task knows of: the memory since the present look-up of its call began, and what is the worker's own
abbrev pub scene : Config → List Mark → Story → ℕ → ℕ → Open → Scene
scene c past story w since opened = record {
  past = record { config = c; at = story.at; now = length past; since = since; loads = loaded past w };
  effected = is_some opened.effect;
  reserved = story.reserved w;
  took = story.took w;
  filled = story.filled w;
}

-- the memory at each moment, with one moment more
abbrev pub and_then : (ℕ → Instant) → ℕ → Instant → ℕ → Instant
and_then at now y moment = if moment == suc now then y else at moment
