-- A right reply stays right when the journal gets further pages.
use Rattle.std.proofs.Common.{◌≡◌, ℕ, zero, suc, List, [], ◌∷◌, ◌++◌, Option, Some, None}
use Rattle.std.specs.Prelude.{slice_get, IsSomeAnd}
use Rattle.bz_layout.specs.declared.config.Config.{Config}
use Rattle.bz_call.specs.declared.replies.Reply.{Reply}
use Rattle.bz_call.specs.declared.replies.Reply.TheVariants as reply
use Rattle.bz_call.specs.declared.replies.Spent.{Spent}
use Rattle.bz_mark.specs.declared.marks.Mark.{Mark}
use Rattle.bz_mark.specs.declared.marks.Mark.TheVariants.{End}
use Rattle.bz_sound.specs.Calls.{Open, open_call}
use Rattle.bz_sound.specs.Replies.{Pages}
use Rattle.bz_sound.specs.Memory.Moments.{EachMark}
use Rattle.bz_sound.specs.Memory.Replies.{Answer, IsAnswerBy, IsRightReplyBy, HasRightReplyBy}

-- a page keeps its number
same_page : {A : Type 0} (pages more : List A) (number : ℕ) (page : A) → slice_get pages number ≡ Some page → slice_get (pages ++ more) number ≡ Some page
same_page [] more number page is = absurd cc
same_page (first ∷ pages) more zero page is = is
same_page (first ∷ pages) more (suc number) page is = same_page pages more number page is

same-answer : (Cause : Spent → Type 0) (c : Config) (start : List ℕ) (pages more : Pages) (past : List Mark) (answer : Answer) (effect : Option ℕ) (reply : Reply)
    → IsAnswerBy Cause c start pages past answer effect reply → IsAnswerBy Cause c start (pages ++ more) past answer effect reply
same-answer Cause c start pages more past answer (Some effect) reply h = h
same-answer Cause c start pages more past answer None (reply.Page page next) h = record {
  from = h.from;
  asked = h.asked;
  loaded = h.loaded;
  leaf_end = h.leaf_end;
  pairs = same_page pages more page _ h.pairs;
  number = h.number;
}
same-answer Cause c start pages more past answer None reply h = h

same-reply : (Cause : ℕ → Open → Spent → Type 0) (c : Config) (start : List ℕ) (pages more : Pages) (past : List Mark) (w at : ℕ) (reply : Reply) (opened : Option Open)
    → IsSomeAnd opened (λ opened. IsRightReplyBy (Cause w opened) c start pages past (record { worker = w; opened = opened; reply = reply; at = at }))
    → IsSomeAnd opened (λ opened. IsRightReplyBy (Cause w opened) c start (pages ++ more) past (record { worker = w; opened = opened; reply = reply; at = at }))
same-reply Cause c start pages more past w at reply None h = h
same-reply Cause c start pages more past w at reply (Some opened) h = record {
  after_begin = h.after_begin;
  before_end = h.before_end;
  right = same-answer (Cause w opened) c start pages more past (record { worker = w; opened = opened; reply = reply; at = at }) opened.effect reply h.right;
}

pub right-with_more : (Cause : List Mark → ℕ → Open → Spent → Type 0) (c : Config) (start : List ℕ) (pages more : Pages) (past : List Mark)
    → EachMark (HasRightReplyBy Cause c start pages) past → EachMark (HasRightReplyBy Cause c start (pages ++ more)) past
right-with_more Cause c start pages more [] h = tt
right-with_more Cause c start pages more (End w n reply at ∷ past) h =
    (same-reply (Cause past) c start pages more past w at reply (open_call w past) h.0, right-with_more Cause c start pages more past h.1)
right-with_more Cause c start pages more (mark ∷ past) h = (tt, right-with_more Cause c start pages more past h.1)
