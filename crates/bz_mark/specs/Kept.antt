-- What a journal keeps true of its parts.
use Rattle.std.specs.Prelude.{◌≡◌, ◌≤◌, ◌<◌, ◌^◌, List, length, vec_capacity}
use Rattle.bz_call.specs.declared.calls.Call.{Call}
use Rattle.bz_call.specs.declared.replies.Reply.{Reply}
use Rattle.bz_mark.specs.Log.{count_begins, count_ends}
use Rattle.bz_mark.specs.Tables.{past_of, ArePlaced}
use Rattle.bz_mark.specs.declared.compact.CompactMark.{CompactMark}
use Rattle.bz_mark.specs.declared.journal.Journal.TheInside.{Inside}

-- each Begin has a call of its own in the table, and each End a reply
pub record AreTables (calls : List Call) (replies : List Reply) (marks : List CompactMark) : Type 0 where
  pub placed : ArePlaced (length calls) (length replies) marks
  pub begins : length calls ≡ count_begins (past_of calls replies marks)
  pub ends : length replies ≡ count_ends (past_of calls replies marks)

pub record IsKept (j : Inside) : Type 0 where
  pub tables : AreTables j.calls.items j.replies.items j.marks.items
  pub few_marks : length j.marks.items ≤ j.most_marks
  pub few_calls : length j.calls.items ≤ j.most_calls
  pub few_replies : length j.replies.items ≤ j.most_calls
  pub fits : j.most_marks < 2 ^ 32
  pub marks_room : j.most_marks ≤ vec_capacity j.marks
  pub calls_room : j.most_calls ≤ vec_capacity j.calls
  pub replies_room : j.most_calls ≤ vec_capacity j.replies
