-- A time in which no swap takes effect: nothing changes for readers, so what was read is what stands.
use Rattle.std.specs.Prelude.{◌≡◌, ℕ, ◌+◌, ◌≤◌}
use Rattle.bz_layout.specs.declared.config.Config.{Config}
use Rattle.bz_task.specs.Instant.{Instant}
use Rattle.bz_task.specs.Laws.{AreMoments}
use Rattle.bz_task.specs.Scene.{Past, IsScene, Scene}
use Rattle.bz_task.specs.Shown.{IsRead}
use Rattle.bz_task.specs.Steps.{IsQuiet, IsHistory}
use Rattle.bz_undisturbed.specs.Undisturbed.{IsUndisturbed}

-- no effect is ever undone
abbrev pub EffectsNeverFall : Type 0
EffectsNeverFall = (c : Config) (at : ℕ → Instant) (first last m j : ℕ) → IsHistory c at first last → AreMoments first last m j → (at m).effects ≤ (at j).effects

-- between two moments with as many effects none came, and nothing changed for readers, up to any moment between
abbrev pub QuietTimesStay : Type 0
QuietTimesStay =
    (c : Config) (at : ℕ → Instant) (first last m i j : ℕ) → IsHistory c at first last → AreMoments first last m j → m ≤ i → i ≤ j → (at j).effects ≡ (at m).effects → IsQuiet c (at m) (at i)

-- no swap took effect since this moment
pub record IsQuietSince (m : ℕ) (p : Past) : Type 0 where
  pub since : p.since ≤ m
  pub now : m ≤ p.now
  pub effects : (p.at p.now).effects ≡ (p.at m).effects

-- a moment of such a time
pub record IsIn (m : ℕ) (p : Past) (i : ℕ) : Type 0 where
  pub from : m ≤ i
  pub to : i ≤ p.now

-- an address that readers read at one moment of a quiet time has one value in all of it
abbrev pub ReadValuesStand : Type 0
ReadValuesStand =
    (s : Scene) (m k a : ℕ) → IsScene s → IsQuietSince m s.past → IsIn m s.past k → IsRead s.past.config (s.past.at k) a →
    (i j : ℕ) → IsIn m s.past i → IsIn m s.past j → (s.past.at i).value a ≡ (s.past.at j).value a

-- so many swaps took effect since the look-up began, up to this moment
pub record HadEffects (made m : ℕ) (p : Past) : Type 0 where
  pub since : p.since ≤ m
  pub now : m ≤ p.now
  pub effects : (p.at p.since).effects + made ≤ (p.at m).effects

-- where the worker is alone, the time since its own last swap is quiet, and the whole time since its look-up began where it made none
pub record UndisturbedTimesAreQuiet : Type 0 where
  pub later : (s : Scene) (made m : ℕ) → IsScene s → IsUndisturbed made s.past → HadEffects made m s.past → IsQuietSince m s.past
  pub whole : (s : Scene) → IsScene s → IsUndisturbed 0 s.past → IsQuietSince s.past.since s.past
