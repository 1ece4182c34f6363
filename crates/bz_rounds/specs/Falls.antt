-- What a swap makes of the stage of a key, for so many words.
use Rattle.std.specs.Prelude.{◌≡◌, ℕ, ◌+◌, ◌<◌, ◌≤◌, List}
use Rattle.bz_layout.specs.declared.config.Config.{Config}
use Rattle.bz_stage.specs.Stages.{stage_in}
use Rattle.bz_task.specs.Instant.{Instant}

-- it is lower by one at least
abbrev pub Falls : Config → Instant → Instant → List ℕ → ℕ → Type 0
Falls c x y key words = stage_in c y.image key words + 1 ≤ stage_in c x.image key words

-- there is room for the words, and there was none
pub record GivesRoom (c : Config) (x y : Instant) (key : List ℕ) (words : ℕ) : Type 0 where
  pub lacked : 0 < stage_in c x.image key words
  pub room : stage_in c y.image key words ≡ 0
