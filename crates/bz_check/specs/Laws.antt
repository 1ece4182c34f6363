-- Laws of verdicts, and of the rules.
use Rattle.std.specs.Prelude.{◌≡◌, ◌↔◌, ℕ, List}
use Rattle.bz_call.specs.Map.{Map}
use Rattle.bz_layout.specs.declared.config.Config.{Config}
use Rattle.bz_mark.specs.Log.{Log}
use Rattle.bz_mark.specs.declared.marks.Mark.{Mark}
use Rattle.bz_mark.specs.declared.power.Power.{Power}
use Rattle.bz_sound.specs.Memory.Moments.{map_at_start}
use Rattle.bz_sound.specs.Power.Replies.{HasRightReply}
use Rattle.bz_sound.specs.Power.Sound.{IsSound}
use Rattle.bz_sound.specs.Replies.{Pages}
use Rattle.bz_check.specs.declared.verdict.Verdict.{Verdict}
use Rattle.bz_check.specs.Replies.{HasPlainReply, IsPlain}
use Rattle.bz_check.specs.Rules.{KeepsJudged, IsFormed, IsSoundTo}
use Rattle.bz_check.specs.Verdicts.{IsVerdict}

-- a journal is sound exactly where it is formed and its marks keep each of the five rules
abbrev pub SoundKeepsAllRules : Type 0
SoundKeepsAllRules = (c : Config) (at_start : Power) (log : Log) → IsSound c at_start log ↔ (IsFormed c log × IsSoundTo c at_start log log.past)

-- one verdict is right of marks by the rules of truth and of calls, and by replies as far as the map and counts tell
abbrev pub OneVerdict : Type 0
OneVerdict = (c : Config) (at_start : Power) (start : List ℕ) (map : Map) (past : List Mark) (one other : Verdict)
    → IsVerdict (KeepsJudged c at_start start map) past one → IsVerdict (KeepsJudged c at_start start map) past other → one ≡ other

-- a right reply is right as far as the map and counts tell; and of an End without a page, and without a Full of slots or of the height,
-- the two are one
pub record PlainRepliesAreReplies (c : Config) (start : List ℕ) (pages : Pages) (past : List Mark) (mark : Mark) : Type 0 where
  pub right : HasRightReply c start pages past mark → HasPlainReply c (map_at_start c start) past mark
  pub plain : IsPlain mark → HasPlainReply c (map_at_start c start) past mark → HasRightReply c start pages past mark

abbrev pub RepliesByTheMap : Type 0
RepliesByTheMap = (c : Config) (start : List ℕ) (pages : Pages) (past : List Mark) (mark : Mark) → PlainRepliesAreReplies c start pages past mark
