-- Right replies, and replies that are right as far as the map and counts tell.
use Rattle.std.specs.Prelude.{◌≡◌, ℕ, true, List, Option, Some, None, IsSomeAnd}
use Rattle.std.proofs.Common.{ap}
use Rattle.bz_layout.specs.declared.config.Config.{Config}
use Rattle.bz_call.specs.declared.replies.Reply.{Reply}
use Rattle.bz_call.specs.declared.replies.Reply.TheVariants.{Page, Full}
use Rattle.bz_call.specs.declared.calls.Call.{Call}
use Rattle.bz_call.specs.declared.calls.Call.TheVariants as kind
use Rattle.bz_call.specs.Pages.{is_page}
use Rattle.bz_call.specs.declared.replies.Spent.{Spent}
use Rattle.bz_call.specs.declared.replies.Spent.TheVariants.{Nodes, Swaps, Height}
use Rattle.bz_mark.specs.declared.marks.Mark.{Mark}
use Rattle.bz_mark.specs.declared.marks.Mark.TheVariants.{End}
use Rattle.bz_sound.specs.Calls.{Open, open_call}
use Rattle.bz_sound.specs.Memory.Moments.{map_at_start}
use Rattle.bz_sound.specs.Memory.Replies.{Answer, IsAnswerBy, IsRead, IsPageRead, IsRightReplyBy}
use Rattle.bz_sound.specs.Power.Replies.{HasRightReply}
use Rattle.bz_sound.specs.Power.Spent.{IsSpent}
use Rattle.bz_sound.specs.Replies.{Pages}
use Rattle.bz_check.specs.Laws.{RepliesByTheMap}
use Rattle.bz_check.specs.Replies.{IsAnswerOf, IsReadOf, IsPageOf, IsSpentOf, IsPlainReply, HasPlainReply, IsPlain}

both_some : {A : Type 0} (o : Option A) (P Q : A → Type 0) → ((x : A) → P x → Q x) → IsSomeAnd o P → IsSomeAnd o Q
both_some None P Q goes h = h
both_some (Some x) P Q goes h = goes x h

read_plain : (c : Config) (start : List ℕ) (past : List Mark) (answer : Answer) → IsRead c start past answer → IsReadOf (map_at_start c start) past answer
read_plain c start past answer h = record { loaded = h.loaded; answers = h.answers }

plain_read : (c : Config) (start : List ℕ) (past : List Mark) (answer : Answer) → IsReadOf (map_at_start c start) past answer → IsRead c start past answer
plain_read c start past answer h = record { loaded = h.loaded; answers = h.answers }

page_call : (call : Call) (from : List ℕ) → call ≡ kind.Page from → is_page call ≡ true
page_call call from e = ap is_page e

page_plain : (c : Config) (start : List ℕ) (pages : Pages) (past : List Mark) (answer : Answer) (page : ℕ) (next : Option (List ℕ)) → IsPageRead c start pages past answer page next → IsPageOf past answer page
page_plain c start pages past answer page next h = record { asked = page_call answer.opened.call h.from h.asked; loaded = h.loaded; number = h.number }

spent_plain : (c : Config) (start : List ℕ) (past : List Mark) (w : ℕ) (opened : Open) (spent : Spent) → IsSpent c start past w opened spent → IsSpentOf c past w spent
spent_plain c start past w opened Nodes h = tt
spent_plain c start past w opened Swaps h = h
spent_plain c start past w opened Height h = tt

-- an answer, by the causes of the worker's call
abbrev IsAnswerHere : Config → List ℕ → Pages → List Mark → Answer → Option ℕ → Reply → Type 0
IsAnswerHere c start pages past answer effect reply = IsAnswerBy (IsSpent c start past answer.worker answer.opened) c start pages past answer effect reply

answer_plain : (c : Config) (start : List ℕ) (pages : Pages) (past : List Mark) (answer : Answer) (effect : Option ℕ) (reply : Reply) → IsAnswerHere c start pages past answer effect reply
    → IsAnswerOf c (map_at_start c start) past answer effect reply
answer_plain c start pages past answer (Some effect) reply h = record { moment = h.moment; answers = h.answers }
answer_plain c start pages past answer None (Page page next) h = page_plain c start pages past answer page next h
answer_plain c start pages past answer None (Full spent) h = record { now = h.now; writes = h.writes; cause = spent_plain c start past answer.worker answer.opened spent h.cause }
answer_plain c start pages past answer None reply h = read_plain c start past answer h

-- the reply is no page, and no Full of slots or of the height
abbrev IsPlainOne : Reply → Type 0
IsPlainOne (Page page next) = ⊥
IsPlainOne (Full Nodes) = ⊥
IsPlainOne (Full Height) = ⊥
IsPlainOne reply = Unit {0}

plain_answer : (c : Config) (start : List ℕ) (pages : Pages) (past : List Mark) (answer : Answer) (effect : Option ℕ) (reply : Reply) → IsPlainOne reply → IsAnswerOf c (map_at_start c start) past answer effect reply
    → IsAnswerHere c start pages past answer effect reply
plain_answer c start pages past answer (Some effect) reply plain h = record { moment = h.moment; answers = h.answers }
plain_answer c start pages past answer None (Page page next) plain h = absurd plain
plain_answer c start pages past answer None (Full Nodes) plain h = absurd plain
plain_answer c start pages past answer None (Full Swaps) plain h = record { now = h.now; writes = h.writes; cause = h.cause }
plain_answer c start pages past answer None (Full Height) plain h = absurd plain
plain_answer c start pages past answer None reply plain h = plain_read c start past answer h

-- an answer of a worker's open call
abbrev answered : ℕ → ℕ → Reply → Open → Answer
answered w at reply opened = record { worker = w; opened = opened; reply = reply; at = at }

abbrev IsRightEnd : Config → List ℕ → Pages → List Mark → ℕ → ℕ → Reply → Open → Type 0
IsRightEnd c start pages past w at reply opened = IsRightReplyBy (IsSpent c start past w opened) c start pages past (answered w at reply opened)

abbrev IsPlainEnd : Config → List ℕ → List Mark → ℕ → ℕ → Reply → Open → Type 0
IsPlainEnd c start past w at reply opened = IsPlainReply c (map_at_start c start) past (answered w at reply opened)

reply_plain : (c : Config) (start : List ℕ) (pages : Pages) (past : List Mark) (w at : ℕ) (reply : Reply) (opened : Open) → IsRightEnd c start pages past w at reply opened → IsPlainEnd c start past w at reply opened
reply_plain c start pages past w at reply opened h =
    record { after_begin = h.after_begin; before_end = h.before_end; right = answer_plain c start pages past (answered w at reply opened) opened.effect reply h.right }

plain_reply : (c : Config) (start : List ℕ) (pages : Pages) (past : List Mark) (w at : ℕ) (reply : Reply) (opened : Open) → IsPlainOne reply → IsPlainEnd c start past w at reply opened → IsRightEnd c start pages past w at reply opened
plain_reply c start pages past w at reply opened plain h =
    record { after_begin = h.after_begin; before_end = h.before_end; right = plain_answer c start pages past (answered w at reply opened) opened.effect reply plain h.right }

right_plain : (c : Config) (start : List ℕ) (pages : Pages) (past : List Mark) (mark : Mark) → HasRightReply c start pages past mark → HasPlainReply c (map_at_start c start) past mark
right_plain c start pages past (End w n reply at) h = both_some (open_call w past) (IsRightEnd c start pages past w at reply) (IsPlainEnd c start past w at reply)
    (reply_plain c start pages past w at reply) h
right_plain c start pages past mark h = tt

end_plain : (w n at : ℕ) (reply : Reply) → IsPlain (End w n reply at) → IsPlainOne reply
end_plain w n at (Page page next) plain = absurd plain
end_plain w n at (Full Nodes) plain = absurd plain
end_plain w n at (Full Height) plain = absurd plain
end_plain w n at reply plain = tt

plain_right : (c : Config) (start : List ℕ) (pages : Pages) (past : List Mark) (mark : Mark) → IsPlain mark → HasPlainReply c (map_at_start c start) past mark → HasRightReply c start pages past mark
plain_right c start pages past (End w n reply at) plain h = both_some (open_call w past) (IsPlainEnd c start past w at reply) (IsRightEnd c start pages past w at reply)
    (λ opened r. plain_reply c start pages past w at reply opened (end_plain w n at reply plain) r) h
plain_right c start pages past mark plain h = tt

pub replies_by_the_map : RepliesByTheMap
replies_by_the_map c start pages past mark = record { right = right_plain c start pages past mark; plain = plain_right c start pages past mark }
