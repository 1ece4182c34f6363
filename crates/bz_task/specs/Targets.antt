-- The addresses that swaps may name, told of a memory without a worker.
use Rattle.std.specs.Prelude.{ℕ, false}
use Rattle.bz_layout.specs.declared.config.Config.{Config}
use Rattle.bz_task.specs.Good.{IsGood}
use Rattle.bz_task.specs.Instant.{Instant}
use Rattle.bz_task.specs.Requests.{IsTarget}
use Rattle.bz_task.specs.Scene.{Scene, IsMine, IsScene, here}
use Rattle.bz_task.specs.Steps.{IsStep}

-- a memory at one moment, as one sees it who owns nothing
abbrev pub alone : Config → Instant → Scene
alone c x = record {
  past = record { config = c; at = λ m. x; now = 0; since = 0; loads = λ m. false };
  effected = false;
  reserved = λ a. false;
  took = λ k. false;
  filled = λ k. false;
}

abbrev pub IsTargetAt : Config → Instant → ℕ → Type 0
IsTargetAt c x a = IsTarget (alone c x) a

abbrev pub TargetsAreOfTheMemory : Type 0
TargetsAreOfTheMemory = (s : Scene) (a : ℕ) → IsTarget s a → IsTargetAt s.past.config (here s) a

-- by a lawful step it stays one
abbrev pub TargetsStay : Type 0
TargetsStay = (c : Config) (x y : Instant) (a : ℕ) → IsGood c x → IsGood c y → IsStep c x y → IsTargetAt c x a → IsTargetAt c y a

-- nobody owns one as a word to store into
abbrev pub OwnWordsAreNoTargets : Type 0
OwnWordsAreNoTargets = (s : Scene) (a : ℕ) → IsScene s → IsMine s a → IsTargetAt s.past.config (here s) a → ⊥
