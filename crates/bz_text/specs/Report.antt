-- The report: what a journal tells, divided at each power cut. Of each part: how many pairs there were when the power came
-- on; then a line for each call that has ended in it, in the order of their moments; then, where a cut ends the part, a line
-- for each call that was open. Calls that are open where the journal ends, and those that did not begin, are not printed.
use Rattle.std.specs.Prelude.{ℕ, zero, suc, ◌+◌, ◌*◌, nat_le, if◌then◌else◌, List, [], ◌∷◌, ◌++◌, Option, Some, None, codes}
use Rattle.std.specs.FinMap.{len}
use Rattle.std.specs.List.{flat_map}
use Rattle.bz_call.specs.Map.{Map}
use Rattle.bz_call.specs.declared.replies.Reply.{Reply}
use Rattle.bz_layout.specs.declared.config.Config.{Config}
use Rattle.bz_mark.specs.Log.{Log}
use Rattle.bz_mark.specs.declared.marks.Mark.{Mark}
use Rattle.bz_mark.specs.declared.marks.Mark.TheVariants.{End, Cut, On}
use Rattle.bz_sound.specs.Calls.{Open, open_call, map_after}
use Rattle.bz_sound.specs.Memory.Moments.{map_at_start}
use Rattle.bz_text.specs.declared.ended.EndedCall.{EndedCall}
use Rattle.bz_text.specs.Lines.{line_of, open_line, power_line}

-- the call that an End ends, if it was open
abbrev pub ended_by : ℕ → Reply → ℕ → Option Open → List EndedCall
ended_by w reply at None = []
ended_by w reply at (Some opened) = record { worker = w; number = opened.number; call = opened.call; reply = reply; at = at } ∷ []

-- the calls that have ended since the last cut, in the order of their Ends
abbrev pub ended_calls : List Mark → List EndedCall
ended_calls [] = []
ended_calls (Cut ∷ past) = []
ended_calls (End w n reply at ∷ past) = ended_calls past ++ ended_by w reply at (open_call w past)
ended_calls (mark ∷ past) = ended_calls past

-- calls are printed by moment, and by worker at one moment; workers are below 256
abbrev pub rank : EndedCall → ℕ
rank ended = ended.at * 256 + ended.worker

-- put where it belongs among calls that are in order
abbrev pub put : EndedCall → List EndedCall → List EndedCall
put one [] = one ∷ []
put one (other ∷ calls) = if nat_le (rank one) (rank other) then one ∷ other ∷ calls else other ∷ put one calls

abbrev pub in_order : List EndedCall → List EndedCall
in_order [] = []
in_order (one ∷ calls) = put one (in_order calls)

-- how many pairs the map had when the power came on, if it did since the last cut; the map was this one at the start
abbrev pub pairs_at_on : Map → List Mark → Option ℕ
pairs_at_on start [] = None
pairs_at_on start (Cut ∷ past) = None
pairs_at_on start (On ∷ past) = Some (len (map_after start past))
pairs_at_on start (mark ∷ past) = pairs_at_on start past

-- the lines of the open calls of the workers below a number, in the order of the workers
unfoldable pub open_lines : ℕ → List Mark → List ℕ
open_lines zero past = []
open_lines (suc w) past = open_lines w past ++ open_line w (open_call w past)

-- the part since the last cut, but for the calls that are open
abbrev pub part_text : Config → Log → List Mark → List ℕ
part_text c log past = power_line (pairs_at_on (map_at_start c log.start) past) ++ flat_map (line_of log.pages) (in_order (ended_calls past))

-- all parts that a cut has ended, with the calls that were open at it
abbrev pub parts_text : Config → Log → List Mark → List ℕ
parts_text c log [] = []
parts_text c log (Cut ∷ past) = parts_text c log past ++ (part_text c log past ++ (open_lines 256 past ++ (codes "power cut" ++ 10 ∷ [])))
parts_text c log (mark ∷ past) = parts_text c log past

-- the report of a journal over a memory of this configuration
abbrev pub report_of : Config → Log → List ℕ
report_of c log = parts_text c log log.past ++ part_text c log log.past
