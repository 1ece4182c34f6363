-- Laws of verdicts.
use Rattle.std.specs.Prelude.{◌≡◌, ◌↔◌, ℕ, List}
use Rattle.bz_layout.specs.declared.config.Config.{Config}
use Rattle.bz_mark.specs.Log.{Log}
use Rattle.bz_call.specs.declared.replies.Reply.TheVariants.{Full}
use Rattle.bz_call.specs.declared.replies.Spent.TheVariants.{Nodes, Height}
use Rattle.bz_mark.specs.declared.marks.Mark.{Mark}
use Rattle.bz_mark.specs.declared.marks.Mark.TheVariants.{End}
use Rattle.bz_mark.specs.declared.power.Power.{Power}
use Rattle.bz_sound.specs.Memory.Moments.{EachMark}
use Rattle.bz_sound.specs.Power.Sound.{IsSound}
use Rattle.bz_sound.specs.Replies.{Pages}
use Rattle.bz_check.specs.Rules.{IsFormed}
use Rattle.bz_check.specs.Verdicts.{IsVerdict}
use Rattle.bz_check.specs.declared.verdict.Verdict.{Verdict}
use Rattle.bz_check.specs.declared.verdict.Verdict.TheVariants.{Sound}
use Rattle.bz_verdict.specs.Rules.{KeepsSeen}

-- of a sound journal no other verdict is right than that it is sound
abbrev pub SoundIsTold : Type 0
SoundIsTold = (c : Config) (at_start : Power) (log : Log) (verdict : Verdict) → IsSound c at_start log → IsVerdict (KeepsSeen c at_start log.start log.pages) log.past verdict → verdict ≡ Sound

-- one verdict is right of marks
abbrev pub OneVerdict : Type 0
OneVerdict = (c : Config) (at_start : Power) (start : List ℕ) (pages : Pages) (past : List Mark) (one other : Verdict)
    → IsVerdict (KeepsSeen c at_start start pages) past one → IsVerdict (KeepsSeen c at_start start pages) past other → one ≡ other

-- the mark ends no call with a Full of slots or of the height
abbrev pub LeavesNoCause : Mark → Type 0
LeavesNoCause (End w n (Full Nodes) at) = ⊥
LeavesNoCause (End w n (Full Height) at) = ⊥
LeavesNoCause mark = Unit {0}

-- a journal that has the words of its configuration and the pages that its Ends name, and no such mark, is sound exactly where it is
-- right to tell that it is
abbrev pub SoundWhereTold : Type 0
SoundWhereTold = (c : Config) (at_start : Power) (log : Log) → IsFormed c log → EachMark (λ past mark. LeavesNoCause mark) log.past → IsSound c at_start log ↔ IsVerdict (KeepsSeen c at_start log.start log.pages) log.past Sound
