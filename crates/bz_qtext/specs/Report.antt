-- The report: what a journal tells, divided at each power cut. Of each part: how many items there were when the power came
-- on; then a line for each call that has ended in it, in the order of their moments; then, where a cut ends the part, a line
-- for each call that was open. Calls that are open where the journal ends, and those that did not begin, are not printed.
use Rattle.std.specs.Prelude.{ℕ, zero, suc, ◌+◌, ◌*◌, nat_le, if◌then◌else◌, List, [], ◌∷◌, ◌++◌, length, Option, Some, None, codes}
use Rattle.std.specs.List.{flat_map}
use Rattle.bz_ring.specs.declared.calls.QReply.{QReply}
use Rattle.bz_ring.specs.Sound.{first_items}
use Rattle.bz_ring.specs.declared.ring.Ring.{Ring}
use Rattle.bz_ring.specs.declared.marks.QMark.{QMark}
use Rattle.bz_mark.specs.declared.marks.Mark.TheVariants.{Cut, On}
use Rattle.bz_ring.specs.declared.marks.QMark.TheVariants.{End, Memory}
use Rattle.bz_ring.specs.Calls.{Open, open_call, items_after}
use Rattle.bz_qtext.specs.declared.ended.QEnded.{QEnded}
use Rattle.bz_qtext.specs.Lines.{line_of, open_line, power_line}

-- the call that an End ends, if it was open
abbrev pub ended_by : ℕ → QReply → ℕ → Option Open → List QEnded
ended_by w reply at None = []
ended_by w reply at (Some opened) = record { worker = w; number = opened.number; call = opened.call; reply = reply; at = at } ∷ []

-- the calls that have ended since the last cut, in the order of their Ends
abbrev pub ended_calls : List QMark → List QEnded
ended_calls [] = []
ended_calls (Memory Cut ∷ past) = []
ended_calls (End w n reply at ∷ past) = ended_calls past ++ ended_by w reply at (open_call w past)
ended_calls (mark ∷ past) = ended_calls past

-- calls are printed by moment, and by worker at one moment; workers are below 256
abbrev pub rank : QEnded → ℕ
rank ended = ended.at * 256 + ended.worker

-- put where it belongs among calls that are in order
abbrev pub put : QEnded → List QEnded → List QEnded
put one [] = one ∷ []
put one (other ∷ calls) = if nat_le (rank one) (rank other) then one ∷ other ∷ calls else other ∷ put one calls

abbrev pub in_order : List QEnded → List QEnded
in_order [] = []
in_order (one ∷ calls) = put one (in_order calls)

-- how many items the list had when the power came on, if it did since the last cut; the list was this one at the start
abbrev pub items_at_on : ℕ → List ℕ → List QMark → Option ℕ
items_at_on capacity first [] = None
items_at_on capacity first (Memory Cut ∷ past) = None
items_at_on capacity first (Memory On ∷ past) = Some (length (items_after capacity first past))
items_at_on capacity first (mark ∷ past) = items_at_on capacity first past

-- the lines of the open calls of the workers below a number, in the order of the workers
unfoldable pub open_lines : ℕ → List QMark → List ℕ
open_lines zero past = []
open_lines (suc w) past = open_lines w past ++ open_line w (open_call w past)

-- the part since the last cut, but for the calls that are open
abbrev pub part_text : ℕ → List ℕ → List QMark → List ℕ
part_text capacity first past = power_line (items_at_on capacity first past) ++ flat_map line_of (in_order (ended_calls past))

-- all parts that a cut has ended, with the calls that were open at it
abbrev pub parts_text : ℕ → List ℕ → List QMark → List ℕ
parts_text capacity first [] = []
parts_text capacity first (Memory Cut ∷ past) = parts_text capacity first past ++ (part_text capacity first past ++ (open_lines 256 past ++ (codes "power cut" ++ 10 ∷ [])))
parts_text capacity first (mark ∷ past) = parts_text capacity first past

-- of a queue of so many cells whose list was this one at the start
abbrev pub text_of : ℕ → List ℕ → List QMark → List ℕ
text_of capacity first past = parts_text capacity first past ++ part_text capacity first past

-- the report of a journal, over a ring with this start
abbrev pub report_of : Ring → List ℕ → List QMark → List ℕ
report_of r start past = text_of r.capacity (first_items r start) past
