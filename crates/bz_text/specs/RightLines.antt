-- Of a sound journal the report has a line for each End, and tells the right reply to its call.
use Rattle.std.proofs.Common.{◌≡◌, ◌<◌, ℕ, List, [], ◌∷◌, ◌++◌, length}
use Rattle.std.specs.Prelude.{Some}
use Rattle.bz_layout.specs.declared.config.Config.{Config}
use Rattle.bz_mark.specs.Log.{Log, count_ends}
use Rattle.bz_mark.specs.Moments.{at_moment, mark_at}
use Rattle.bz_mark.specs.declared.marks.Mark.{Mark}
use Rattle.bz_mark.specs.declared.marks.Mark.TheVariants.{End, Cut}
use Rattle.bz_sound.specs.Calls.{Open, open_call}
use Rattle.bz_sound.specs.Power.Replies.{IsRightReply}
use Rattle.bz_sound.specs.Power.Sound.{IsSound}
use Rattle.bz_mark.specs.declared.power.Power.{Power}
use Rattle.bz_sound.specs.Replies.{Pages}
use Rattle.bz_text.specs.Report.{ended_calls, in_order}
use Rattle.bz_text.specs.declared.ended.EndedCall.{EndedCall}

-- an ended call as the journal has it: its End, by which the call that was open then ended with a right reply
pub record HasRightEnd (c : Config) (start : List ℕ) (pages : Pages) (past : List Mark) (ended : EndedCall) : Type 0 where
  pub moment : ℕ
  pub within : moment < length past
  pub ends : mark_at moment past ≡ Some (End ended.worker ended.number ended.reply ended.at)
  pub opened : Open
  pub is_open : open_call ended.worker (at_moment moment past) ≡ Some opened
  pub call : opened.call ≡ ended.call
  pub right : IsRightReply c start pages (at_moment moment past) (record { worker = ended.worker; opened = opened; reply = ended.reply; at = ended.at })

abbrev pub HaveRightEnds : Config → List ℕ → Pages → List Mark → List EndedCall → Type 0
HaveRightEnds c start pages past [] = Unit {0}
HaveRightEnds c start pages past (ended ∷ calls) = HasRightEnd c start pages past ended × HaveRightEnds c start pages past calls

-- the ended calls whose lines stand in the parts that a cut has ended, in the order of the lines
abbrev pub calls_before : List Mark → List EndedCall
calls_before [] = []
calls_before (Cut ∷ past) = calls_before past ++ in_order (ended_calls past)
calls_before (mark ∷ past) = calls_before past

-- those of the whole report
abbrev pub reported_calls : List Mark → List EndedCall
reported_calls past = calls_before past ++ in_order (ended_calls past)

-- each line tells a right reply, and there is one for each End
pub record IsRightReport (c : Config) (log : Log) : Type 0 where
  pub right : HaveRightEnds c log.start log.pages log.past (reported_calls log.past)
  pub all : length (reported_calls log.past) ≡ count_ends log.past

-- the report of a sound journal is right
abbrev pub ReportsAreRight : Type 0
ReportsAreRight = (c : Config) (at_start : Power) (log : Log) → IsSound c at_start log → IsRightReport c log
