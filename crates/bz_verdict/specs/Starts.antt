-- Where the start is not well formed. The newest mark stands first.
use Rattle.std.specs.Prelude.{◌≡◌, ◌<◌, ◌≤◌, ℕ, List, length, slice_index, None}
use Rattle.bz_content.specs.Content.{image_fault}
use Rattle.bz_layout.specs.declared.config.Config.{Config}
use Rattle.bz_mark.specs.Moments.{IsInner}
use Rattle.bz_mark.specs.declared.marks.Mark.{Mark}
use Rattle.bz_mark.specs.declared.power.Power.{Power}
use Rattle.bz_sound.specs.Replies.{Pages}
use Rattle.bz_check.specs.Verdicts.{IsVerdict}
use Rattle.bz_check.specs.declared.verdict.Verdict.{Verdict}
use Rattle.bz_verdict.specs.Rules.{KeepsSeen}

-- the least moment that is not an inner one
pub record IsFirstOuter (moment : ℕ) (past : List Mark) : Type 0 where
  pub within : moment ≤ length past
  pub outer : IsInner moment past → ⊥
  pub inner : (m : ℕ) → m < moment → IsInner m past

-- for each configuration in which the start is not well formed the verdict is right
abbrev pub IsBadStartVerdict : List ℕ → List Mark → Verdict → Type 0
IsBadStartVerdict start past verdict = (c : Config) (at_start : Power) (pages : Pages) → (image_fault c (slice_index start) ≡ None → ⊥) → IsVerdict (KeepsSeen c at_start start pages) past verdict
