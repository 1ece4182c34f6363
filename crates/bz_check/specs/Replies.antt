-- Replies as far as the map and counts of marks tell: where its call has no Effect, nothing is asked of what a page shows, and nothing of
-- the cause of a Full but where descriptors are spent. The newest mark stands first.
use Rattle.std.specs.Prelude.{◌≡◌, ◌<◌, ◌≤◌, ◌+◌, ℕ, true, List, length, Option, Some, None, IsSomeAnd}
use Rattle.bz_layout.specs.declared.config.Config.{Config}
use Rattle.bz_call.specs.Map.{Map, apply}
use Rattle.bz_call.specs.Pages.{is_page}
use Rattle.bz_call.specs.declared.replies.Reply.{Reply}
use Rattle.bz_call.specs.declared.replies.Reply.TheVariants.{Page, Full}
use Rattle.bz_call.specs.declared.replies.Spent.{Spent}
use Rattle.bz_call.specs.declared.replies.Spent.TheVariants.{Nodes, Swaps, Height}
use Rattle.bz_mark.specs.Counts.{count_taken}
use Rattle.bz_mark.specs.Log.{count_page_ends}
use Rattle.bz_mark.specs.Moments.{at_moment}
use Rattle.bz_mark.specs.Times.{since_on}
use Rattle.bz_mark.specs.declared.marks.Mark.{Mark}
use Rattle.bz_mark.specs.declared.marks.Mark.TheVariants.{End}
use Rattle.bz_sound.specs.Calls.{open_call, map_at}
use Rattle.bz_sound.specs.Memory.Moments.{IsAfterLoad, EachMark}
use Rattle.bz_sound.specs.Memory.Replies.{Answer, IsWrite}
use Rattle.bz_sound.specs.Memory.Spent.{count_others}
use Rattle.bz_sound.specs.Replies.{AnswersOnly}

-- directly after a load of the worker the map answers the call so, and stays as it is. The map was this one at the start
pub record IsReadOf (map : Map) (past : List Mark) (answer : Answer) : Type 0 where
  pub loaded : IsAfterLoad answer.worker (at_moment answer.at past)
  pub answers : AnswersOnly (map_at map answer.at past) answer.opened.call answer.reply

-- directly before its Effect the map answers the call so
pub record IsEffectiveOf (map : Map) (past : List Mark) (answer : Answer) (effect : ℕ) : Type 0 where
  pub moment : answer.at ≡ effect
  pub answers : (apply (map_at map answer.at past) answer.opened.call).reply ≡ Some answer.reply

-- directly after a load of the worker, a call that asks for a page gets the next number
pub record IsPageOf (past : List Mark) (answer : Answer) (page : ℕ) : Type 0 where
  pub asked : is_page answer.opened.call ≡ true
  pub loaded : IsAfterLoad answer.worker (at_moment answer.at past)
  pub number : page ≡ count_page_ends past

-- as many descriptors are taken, or may be by other workers, as there are. Nothing is asked of slots and of the height
abbrev pub IsSpentOf : Config → List Mark → ℕ → Spent → Type 0
IsSpentOf c past w Nodes = Unit {0}
IsSpentOf c past w Swaps = c.swaps ≤ count_taken c (since_on past) + count_others c w past
IsSpentOf c past w Height = Unit {0}

-- the call may change the map, its End is the moment, and what the reply names is spent
pub record IsFullOf (c : Config) (past : List Mark) (answer : Answer) (spent : Spent) : Type 0 where
  pub now : answer.at ≡ length past
  pub writes : IsWrite answer.opened.call
  pub cause : IsSpentOf c past answer.worker spent

abbrev pub IsAnswerOf : Config → Map → List Mark → Answer → Option ℕ → Reply → Type 0
IsAnswerOf c map past answer (Some effect) reply = IsEffectiveOf map past answer effect
IsAnswerOf c map past answer None (Page page next) = IsPageOf past answer page
IsAnswerOf c map past answer None (Full spent) = IsFullOf c past answer spent
IsAnswerOf c map past answer None reply = IsReadOf map past answer

-- the moment lies after the call's Begin and not after its End
pub record IsPlainReply (c : Config) (map : Map) (past : List Mark) (answer : Answer) : Type 0 where
  pub after_begin : answer.opened.begun < answer.at
  pub before_end : answer.at ≤ length past
  pub right : IsAnswerOf c map past answer answer.opened.effect answer.reply

-- an End has such a reply to the open call of its worker
abbrev pub HasPlainReply : Config → Map → List Mark → Mark → Type 0
HasPlainReply c map past (End w n reply at) = IsSomeAnd (open_call w past) (λ opened. IsPlainReply c map past (record { worker = w; opened = opened; reply = reply; at = at }))
HasPlainReply c map past mark = Unit {0}

abbrev pub PlainRepliesAreRight : Config → Map → List Mark → Type 0
PlainRepliesAreRight c map past = EachMark (HasPlainReply c map) past

-- a mark that ends no call with a page, or with a Full of slots or of the height
abbrev pub IsPlain : Mark → Type 0
IsPlain (End w n (Page page next) at) = ⊥
IsPlain (End w n (Full Nodes) at) = ⊥
IsPlain (End w n (Full Height) at) = ⊥
IsPlain mark = Unit {0}
