-- The lines of a queue's report: that of a call, with its worker and number, its words as a script has them, and its result; and that of the power when it comes on.
use Rattle.std.specs.Prelude.{ℕ, Bool, List, [], ◌∷◌, ◌++◌, Option, Some, None, codes, is_some}
use Rattle.std.specs.Fmt.{decimal}
use Rattle.bz_ring.specs.Calls.{Open}
use Rattle.bz_ring.specs.declared.calls.QCall.{QCall}
use Rattle.bz_ring.specs.declared.calls.QCall.TheVariants as call
use Rattle.bz_ring.specs.declared.calls.QReply.{QReply}
use Rattle.bz_ring.specs.declared.calls.QReply.TheVariants as reply
use Rattle.bz_text.specs.Lines.{name_of, fate_text}
use Rattle.bz_qtext.specs.declared.ended.QEnded.{QEnded}

-- the call's words, as in a script
abbrev pub call_text : QCall → List ℕ
call_text (call.Put item) = codes "put " ++ decimal item
call_text call.Take = codes "take"

-- the result
abbrev pub reply_text : QReply → List ℕ
reply_text reply.Put = codes "put"
reply_text (reply.Taken item) = codes "taken " ++ decimal item
reply_text reply.Empty = codes "empty"
reply_text reply.Full = codes "full"
reply_text reply.Spent = codes "spent"

-- how the line of a call begins
abbrev pub line_start : ℕ → ℕ → QCall → List ℕ
line_start worker number called = name_of worker number ++ (codes " " ++ (call_text called ++ codes " = "))

-- the line of a call that has ended
abbrev pub line_of : QEnded → List ℕ
line_of ended = line_start ended.worker ended.number ended.call ++ (reply_text ended.reply ++ 10 ∷ [])

-- that of a call that was open when the power was cut, by whether it had taken effect
abbrev pub fate_line : ℕ → ℕ → QCall → Bool → List ℕ
fate_line worker number called effective = line_start worker number called ++ (fate_text effective ++ 10 ∷ [])

-- the line of a worker's call that was open then, if one was
abbrev pub open_line : ℕ → Option Open → List ℕ
open_line worker None = []
open_line worker (Some opened) = fate_line worker opened.number opened.call (is_some opened.effect)

-- the line of the power, if it came on: how many items there were then
abbrev pub power_line : Option ℕ → List ℕ
power_line None = []
power_line (Some items) = codes "power on " ++ (decimal items ++ (codes " items" ++ 10 ∷ []))
