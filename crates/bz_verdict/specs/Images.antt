-- What is told of an image beside the pairs of a map.
use Rattle.std.specs.Prelude.{◌≡◌, ℕ, Bool, true, false, List, Option, Some, None}
use Rattle.bz_layout.specs.declared.config.Config.{Config}
use Rattle.bz_content.specs.Content.{image_fault, content_in}
use Rattle.bz_check.specs.Pairs.{payload_at}
use Rattle.bz_check.specs.declared.verdict.JudgeRule.{JudgeRule}
use Rattle.bz_check.specs.declared.verdict.JudgeRule.TheVariants.{Truth, Calls, Reply, Shape, Content}

-- an image holds for each key what the pairs have
abbrev pub HasPairs : Config → (ℕ → ℕ) → List (List ℕ × List ℕ) → Type 0
HasPairs c raw pairs = (key : List ℕ) → content_in c raw key ≡ payload_at pairs key

-- two lists of pairs are one map
abbrev pub AreOneMap : List (List ℕ × List ℕ) → List (List ℕ × List ℕ) → Type 0
AreOneMap one other = (key : List ℕ) → payload_at one key ≡ payload_at other key

-- the image is well formed and holds the pairs
pub record IsGood (c : Config) (raw : ℕ → ℕ) (pairs : List (List ℕ × List ℕ)) : Type 0 where
  pub shape : image_fault c raw ≡ None
  pub content : HasPairs c raw pairs

-- it is well formed, and holds others
pub record HoldsOthers (c : Config) (raw : ℕ → ℕ) (pairs : List (List ℕ × List ℕ)) : Type 0 where
  pub shape : image_fault c raw ≡ None
  pub content : HasPairs c raw pairs → ⊥

-- the first of the two rules of images that is broken, or none
abbrev pub TellsImage : Config → (ℕ → ℕ) → List (List ℕ × List ℕ) → Option JudgeRule → Type 0
TellsImage c raw pairs None = IsGood c raw pairs
TellsImage c raw pairs (Some Truth) = ⊥
TellsImage c raw pairs (Some Calls) = ⊥
TellsImage c raw pairs (Some Reply) = ⊥
TellsImage c raw pairs (Some Shape) = image_fault c raw ≡ None → ⊥
TellsImage c raw pairs (Some Content) = HoldsOthers c raw pairs

-- the first rule that is broken at a moment, by what the marks broke and, where the image may have changed, by the image; at an inner
-- moment none is told
abbrev pub TellsMoment : Config → (ℕ → ℕ) → List (List ℕ × List ℕ) → Bool → Option JudgeRule → Bool → Option JudgeRule → Type 0
TellsMoment c raw pairs true broken stale told = told ≡ None
TellsMoment c raw pairs false (Some rule) stale told = told ≡ Some rule
TellsMoment c raw pairs false None false told = told ≡ None
TellsMoment c raw pairs false None true told = TellsImage c raw pairs told
