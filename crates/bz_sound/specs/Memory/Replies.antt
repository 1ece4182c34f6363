-- What reply to a call is right: what an ordered map answers at one moment of the call, the moment that the End
-- itself names. The newest mark stands first.
use Rattle.std.specs.Prelude.{◌≡◌, ◌<◌, ◌≤◌, ◌&&◌, ℕ, Bool, true, List, length, filter, slice_get, Option, Some, None, IsSomeAnd}
use Rattle.std.specs.Ordering.{nat_cmp, is_lt}
use Rattle.std.specs.Cmp.Lexicographic.{slice_cmp}
use Rattle.std.specs.FinMap.{entries}
use Rattle.bz_layout.specs.declared.config.Config.{Config}
use Rattle.bz_content.specs.Content.{leaf_end_in}
use Rattle.bz_call.specs.Map.{Map, apply}
use Rattle.bz_call.specs.Pages.{is_from}
use Rattle.bz_call.specs.declared.calls.Call.{Call}
use Rattle.bz_call.specs.declared.calls.Call.TheVariants.{Get, Page}
use Rattle.bz_call.specs.declared.replies.Reply.{Reply}
use Rattle.bz_call.specs.declared.replies.Reply.TheVariants as reply
use Rattle.bz_call.specs.declared.replies.Spent.{Spent}
use Rattle.bz_mark.specs.Log.{count_page_ends}
use Rattle.bz_mark.specs.Moments.{at_moment}
use Rattle.bz_mark.specs.declared.marks.Mark.{Mark}
use Rattle.bz_mark.specs.declared.marks.Mark.TheVariants.{End}
use Rattle.bz_sound.specs.Calls.{Open, open_call, map_at}
use Rattle.bz_sound.specs.Replies.{Pages, AnswersOnly}
use Rattle.bz_sound.specs.Memory.Moments.{image_at, map_at_start, IsAfterLoad, EachMark}
use Rattle.bz_sound.specs.Memory.Spent.{IsSpent}

-- how a worker's open call is answered: the reply, and the moment at which the call is taken to have happened
pub record Answer : Type 0 where
  pub worker : ℕ
  pub opened : Open
  pub reply : Reply
  pub at : ℕ

-- the key lies below the end, if there is one
abbrev pub ends_after : Option (List ℕ) → List ℕ → Bool
ends_after None key = true
ends_after (Some next) key = is_lt (slice_cmp nat_cmp key next)

-- a page's range: from its key on, up to the end
abbrev pub is_within : List ℕ → Option (List ℕ) → List ℕ → Bool
is_within from next key = is_from from key && ends_after next key

-- the pairs of a map in that range, in ascending order of their keys
abbrev pub pairs_within : Map → List ℕ → Option (List ℕ) → List (List ℕ × List ℕ)
pairs_within map from next = filter (λ pair. is_within from next pair.0) (entries map)

-- directly after a load of the worker the map answers the call so, and stays as it is
pub record IsRead (c : Config) (start : List ℕ) (past : List Mark) (answer : Answer) : Type 0 where
  pub loaded : IsAfterLoad answer.worker (at_moment answer.at past)
  pub answers : AnswersOnly (map_at (map_at_start c start) answer.at past) answer.opened.call answer.reply

-- directly after a load of the worker the page of this number is all that the map has from the key on, up to the
-- end of the key's leaf, which the reply names; pages are numbered in the order of their Ends
pub record IsPageRead (c : Config) (start : List ℕ) (pages : Pages) (past : List Mark) (answer : Answer) (page : ℕ) (next : Option (List ℕ)) : Type 0 where
  pub from : List ℕ
  pub asked : answer.opened.call ≡ Page from
  pub loaded : IsAfterLoad answer.worker (at_moment answer.at past)
  pub leaf_end : next ≡ leaf_end_in c (image_at start answer.at past) from
  pub pairs : slice_get pages page ≡ Some (pairs_within (map_at (map_at_start c start) answer.at past) from next)
  pub number : page ≡ count_page_ends past

-- the call is one that may change the map
abbrev pub IsWrite : Call → Type 0
IsWrite (Get key) = ⊥
IsWrite (Page key) = ⊥
IsWrite call = Unit {0}

-- the call may change the map, its End is the moment, and what the reply names is spent: it has this cause
pub record IsFullBy (Cause : Type 0) (past : List Mark) (answer : Answer) : Type 0 where
  pub now : answer.at ≡ length past
  pub writes : IsWrite answer.opened.call
  pub cause : Cause

-- directly before its Effect the map answers the call so
pub record IsEffective (c : Config) (start : List ℕ) (past : List Mark) (answer : Answer) (effect : ℕ) : Type 0 where
  pub moment : answer.at ≡ effect
  pub answers : (apply (map_at (map_at_start c start) answer.at past) answer.opened.call).reply ≡ Some answer.reply

-- a call that has an Effect is answered there; one that has none by a load, unless something is spent
abbrev pub IsAnswerBy : (Spent → Type 0) → Config → List ℕ → Pages → List Mark → Answer → Option ℕ → Reply → Type 0
IsAnswerBy Cause c start pages past answer (Some effect) reply = IsEffective c start past answer effect
IsAnswerBy Cause c start pages past answer None (reply.Page page next) = IsPageRead c start pages past answer page next
IsAnswerBy Cause c start pages past answer None (reply.Full spent) = IsFullBy (Cause spent) past answer
IsAnswerBy Cause c start pages past answer None reply = IsRead c start past answer

-- the moment lies after the call's Begin and not after its End
pub record IsRightReplyBy (Cause : Spent → Type 0) (c : Config) (start : List ℕ) (pages : Pages) (past : List Mark) (answer : Answer) : Type 0 where
  pub after_begin : answer.opened.begun < answer.at
  pub before_end : answer.at ≤ length past
  pub right : IsAnswerBy Cause c start pages past answer answer.opened.effect answer.reply

-- an End has the right reply to the open call of its worker, where causes are told by the marks, the worker and its call
abbrev pub HasRightReplyBy : (List Mark → ℕ → Open → Spent → Type 0) → Config → List ℕ → Pages → List Mark → Mark → Type 0
HasRightReplyBy Cause c start pages past (End w n reply at) =
    IsSomeAnd (open_call w past) (λ opened. IsRightReplyBy (Cause past w opened) c start pages past (record { worker = w; opened = opened; reply = reply; at = at }))
HasRightReplyBy Cause c start pages past mark = Unit {0}

-- the same with the causes of this stage
abbrev pub IsAnswer : Config → List ℕ → Pages → List Mark → Answer → Option ℕ → Reply → Type 0
IsAnswer c start pages past answer effect reply = IsAnswerBy (IsSpent c start past answer.worker answer.opened) c start pages past answer effect reply

abbrev pub IsRightReply : Config → List ℕ → Pages → List Mark → Answer → Type 0
IsRightReply c start pages past answer = IsRightReplyBy (IsSpent c start past answer.worker answer.opened) c start pages past answer

abbrev pub HasRightReply : Config → List ℕ → Pages → List Mark → Mark → Type 0
HasRightReply c start pages past mark = HasRightReplyBy (IsSpent c start) c start pages past mark

-- each End's reply is right
abbrev pub RepliesAreRight : Config → List ℕ → Pages → List Mark → Type 0
RepliesAreRight c start pages past = EachMark (HasRightReply c start pages) past
