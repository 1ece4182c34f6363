-- The lines of a report: that of a call, with its worker and number, its words as a script has them, and its result; and that
-- of the power when it comes on.
use Rattle.std.specs.Prelude.{ℕ, Bool, true, false, List, [], ◌∷◌, ◌++◌, Option, Some, None, codes, is_some}
use Rattle.std.proofs.Common.{get_or}
use Rattle.std.specs.List.{flat_map}
use Rattle.std.specs.Fmt.{decimal}
use Rattle.bz_key.specs.Spelling.{spelled}
use Rattle.bz_call.specs.declared.calls.Call.{Call}
use Rattle.bz_call.specs.declared.calls.Call.TheVariants as call
use Rattle.bz_call.specs.declared.replies.Reply.{Reply}
use Rattle.bz_call.specs.declared.replies.Reply.TheVariants as reply
use Rattle.bz_call.specs.declared.replies.Spent.{Spent}
use Rattle.bz_call.specs.declared.replies.Spent.TheVariants.{Nodes, Swaps, Height}
use Rattle.bz_sound.specs.Calls.{Open}
use Rattle.bz_text.specs.declared.ended.EndedCall.{EndedCall}

-- the call's words, as in a script
abbrev pub call_text : Call → List ℕ
call_text (call.Insert key payload) = codes "insert " ++ (spelled key ++ (32 ∷ spelled payload))
call_text (call.Delete key) = codes "delete " ++ spelled key
call_text (call.Update key payload) = codes "update " ++ (spelled key ++ (32 ∷ spelled payload))
call_text (call.Upsert key payload) = codes "upsert " ++ (spelled key ++ (32 ∷ spelled payload))
call_text (call.Get key) = codes "get " ++ spelled key
call_text (call.Page key) = codes "page " ++ spelled key

-- a pair of a page
abbrev pub pair_text : List ℕ × List ℕ → List ℕ
pair_text pair = 32 ∷ (spelled pair.0 ++ (61 ∷ spelled pair.1))

-- where the next page begins
abbrev pub next_text : Option (List ℕ) → List ℕ
next_text None = codes " end"
next_text (Some key) = codes " next " ++ spelled key

abbrev pub spent_text : Spent → List ℕ
spent_text Nodes = codes "full nodes"
spent_text Swaps = codes "full swaps"
spent_text Height = codes "full height"

-- the result, where these are the journal's pages
abbrev pub reply_text : List (List (List ℕ × List ℕ)) → Reply → List ℕ
reply_text pages reply.Inserted = codes "inserted"
reply_text pages reply.Exists = codes "exists"
reply_text pages (reply.Deleted payload) = codes "deleted " ++ spelled payload
reply_text pages (reply.Updated payload) = codes "updated " ++ spelled payload
reply_text pages reply.Missing = codes "missing"
reply_text pages (reply.Value payload) = codes "value " ++ spelled payload
reply_text pages (reply.Page page next) = codes "page" ++ (flat_map pair_text (get_or pages page []) ++ next_text next)
reply_text pages (reply.Full spent) = spent_text spent

-- the name of a call
abbrev pub name_of : ℕ → ℕ → List ℕ
name_of worker number = codes "w" ++ (decimal worker ++ (codes "." ++ decimal number))

-- how the line of a call begins
abbrev pub line_start : ℕ → ℕ → Call → List ℕ
line_start worker number called = name_of worker number ++ (codes " " ++ (call_text called ++ codes " = "))

-- the line of a call that has ended
abbrev pub line_of : List (List (List ℕ × List ℕ)) → EndedCall → List ℕ
line_of pages ended = line_start ended.worker ended.number ended.call ++ (reply_text pages ended.reply ++ 10 ∷ [])

-- what became of a call that was open when the power was cut, by whether it had taken effect
abbrev pub fate_text : Bool → List ℕ
fate_text true = codes "kept"
fate_text false = codes "lost"

abbrev pub fate_line : ℕ → ℕ → Call → Bool → List ℕ
fate_line worker number called effective = line_start worker number called ++ (fate_text effective ++ 10 ∷ [])

-- the line of a worker's call that was open then, if one was
abbrev pub open_line : ℕ → Option Open → List ℕ
open_line worker None = []
open_line worker (Some opened) = fate_line worker opened.number opened.call (is_some opened.effect)

-- the line of the power, if it came on: how many pairs there were then
abbrev pub power_line : Option ℕ → List ℕ
power_line None = []
power_line (Some pairs) = codes "power on " ++ (decimal pairs ++ (codes " pairs" ++ 10 ∷ []))
