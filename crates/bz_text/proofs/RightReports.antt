-- The report of a sound journal is right: line by line, part by part, and no line is lost.
use Rattle.std.proofs.Common.{◌≡◌, ℕ, suc, ◌+◌, true, false, List, [], ◌∷◌, ◌++◌, length, refl, sym, ap, ◌∙◌, arith, length-append}
use Rattle.std.specs.Prelude.{nat_le, if◌then◌else◌, Some}
use Rattle.bz_call.specs.declared.replies.Reply.{Reply}
use Rattle.bz_layout.specs.declared.config.Config.{Config}
use Rattle.bz_mark.specs.Log.{count_ends}
use Rattle.bz_mark.proofs.MomentLaws.{at_moment-earlier, at_moment-before, mark_at-newest, mark_at-earlier}
use Rattle.bz_mark.specs.Moments.{at_moment}
use Rattle.bz_mark.specs.declared.marks.Mark.{Mark}
use Rattle.bz_mark.specs.declared.marks.Mark.TheVariants.{End, Cut}
use Rattle.bz_sound.specs.Calls.{Open, open_call, MayEnd}
use Rattle.bz_sound.specs.Memory.Moments.{map_at_start}
use Rattle.bz_sound.specs.Power.Calls.{CallsOnce}
use Rattle.bz_sound.specs.Power.Replies.{IsRightReply, HasRightReply, RepliesAreRight}
use Rattle.bz_mark.specs.declared.power.Power.{Power}
use Rattle.bz_sound.specs.Replies.{Pages}
use Rattle.bz_text.specs.Report.{ended_by, ended_calls, rank, put, in_order}
use Rattle.bz_text.specs.declared.ended.EndedCall.{EndedCall}
use Rattle.bz_text.specs.RightLines.{HasRightEnd, HaveRightEnds, calls_before, ReportsAreRight}

module _ (c : Config) (start : List ℕ) (pages : Pages) where
  -- a mark more
  later : (mark : Mark) (past : List Mark) (ended : EndedCall) → HasRightEnd c start pages past ended → HasRightEnd c start pages (mark ∷ past) ended
  later mark past ended h =
      let same : at_moment h.moment (mark ∷ past) ≡ at_moment h.moment past = at_moment-earlier h.moment mark past (omega (arith, h.within)) in
      record {
        moment = h.moment;
        within = omega (arith, h.within);
        ends = mark_at-earlier h.moment mark past h.within ∙ h.ends;
        opened = h.opened;
        is_open = rw same h.is_open;
        call = h.call;
        right = rw same h.right;
      }

  later_all : (mark : Mark) (past : List Mark) (calls : List EndedCall) → HaveRightEnds c start pages past calls → HaveRightEnds c start pages (mark ∷ past) calls
  later_all mark past [] h = tt
  later_all mark past (ended ∷ calls) h = (later mark past ended h.0, later_all mark past calls h.1)

  both : (past : List Mark) (calls more : List EndedCall) → HaveRightEnds c start pages past calls → HaveRightEnds c start pages past more → HaveRightEnds c start pages past (calls ++ more)
  both past [] more h k = k
  both past (ended ∷ calls) more h k = (h.0, both past calls more h.1 k)

  -- the call of the newest mark, an End
  newest : (past : List Mark) (w n at : ℕ) (reply : Reply) (opened : Open) → open_call w past ≡ Some opened → opened.number ≡ n
      → IsRightReply c start pages past (record { worker = w; opened = opened; reply = reply; at = at })
      → HasRightEnd c start pages (End w n reply at ∷ past) (record { worker = w; number = opened.number; call = opened.call; reply = reply; at = at })
  newest past w n at reply opened is number right =
      let same : at_moment (length past) (End w n reply at ∷ past) ≡ past = at_moment-before (End w n reply at) past in
      record {
        moment = length past;
        within = omega arith;
        ends = mark_at-newest (End w n reply at) past ∙ ap (λ (m : ℕ). Some (End w m reply at)) (sym number);
        opened = opened;
        is_open = rw same is;
        call = refl;
        right = rw same right;
      }

  of_end : (past : List Mark) (w n at : ℕ) (reply : Reply) → MayEnd past w n → HasRightReply c start pages past (End w n reply at) → HaveRightEnds c start pages (End w n reply at ∷ past) (ended_by w reply at (open_call w past))
  of_end past w n at reply may right =
      let told : IsRightReply c start pages past (record { worker = w; opened = may.opened; reply = reply; at = at }) = rw may.is_open at right in
      rw may.is_open (newest past w n at reply may.opened may.is_open may.number told, tt)

  ended_right : (at_start : Power) (past : List Mark) → CallsOnce at_start (map_at_start c start) past → RepliesAreRight c start pages past → HaveRightEnds c start pages past (ended_calls past)
  ended_right at_start [] once right = tt
  ended_right at_start (Cut ∷ past) once right = tt
  ended_right at_start (End w n reply at ∷ past) once right =
      both (End w n reply at ∷ past) (ended_calls past) (ended_by w reply at (open_call w past)) (later_all (End w n reply at) past (ended_calls past) (ended_right at_start past once.1 right.1)) (of_end past w n at reply once.0 right.0)
  ended_right at_start (mark ∷ past) once right = later_all mark past (ended_calls past) (ended_right at_start past once.1 right.1)

  put_right : (past : List Mark) (one : EndedCall) (calls : List EndedCall) → HasRightEnd c start pages past one → HaveRightEnds c start pages past calls → HaveRightEnds c start pages past (put one calls)
  put_right past one [] h k = (h, tt)
  put_right past one (other ∷ calls) h k = elim (nat_le (rank one) (rank other)) as (λ b. HaveRightEnds c start pages past (if b then one ∷ other ∷ calls else other ∷ put one calls)) [
    | true ↦ (h, k)
    | false ↦ (k.0, put_right past one calls h k.1)
  ]

  in_order_right : (past : List Mark) (calls : List EndedCall) → HaveRightEnds c start pages past calls → HaveRightEnds c start pages past (in_order calls)
  in_order_right past [] h = tt
  in_order_right past (one ∷ calls) h = put_right past one (in_order calls) h.0 (in_order_right past calls h.1)

  part_right : (at_start : Power) (past : List Mark) → CallsOnce at_start (map_at_start c start) past → RepliesAreRight c start pages past → HaveRightEnds c start pages past (in_order (ended_calls past))
  part_right at_start past once right = in_order_right past (ended_calls past) (ended_right at_start past once right)

  before_right : (at_start : Power) (past : List Mark) → CallsOnce at_start (map_at_start c start) past → RepliesAreRight c start pages past → HaveRightEnds c start pages past (calls_before past)
  before_right at_start [] once right = tt
  before_right at_start (Cut ∷ past) once right =
      both (Cut ∷ past) (calls_before past) (in_order (ended_calls past)) (later_all Cut past (calls_before past) (before_right at_start past once.1 right.1))
      (later_all Cut past (in_order (ended_calls past)) (part_right at_start past once.1 right.1))
  before_right at_start (mark ∷ past) once right = later_all mark past (calls_before past) (before_right at_start past once.1 right.1)

-- no line is lost
length-put : (one : EndedCall) (calls : List EndedCall) → length (put one calls) ≡ suc (length calls)
length-put one [] = refl
length-put one (other ∷ calls) = elim (nat_le (rank one) (rank other)) as (λ b. length (if b then one ∷ other ∷ calls else other ∷ put one calls) ≡ suc (suc (length calls))) [
  | true ↦ refl
  | false ↦ ap suc (length-put one calls)
]

length-in_order : (calls : List EndedCall) → length (in_order calls) ≡ length calls
length-in_order [] = refl
length-in_order (one ∷ calls) = length-put one (in_order calls) ∙ ap suc (length-in_order calls)

one_ends : (past : List Mark) (w n at : ℕ) (reply : Reply) → MayEnd past w n → length (ended_by w reply at (open_call w past)) ≡ 1
one_ends past w n at reply may = rw may.is_open refl

all_ended : (c : Config) (at_start : Power) (start : List ℕ) (past : List Mark) → CallsOnce at_start (map_at_start c start) past → length (calls_before past) + length (ended_calls past) ≡ count_ends past
all_ended c at_start start [] once = refl
all_ended c at_start start (Cut ∷ past) once =
    omega (arith, length-append (calls_before past) (in_order (ended_calls past)), length-in_order (ended_calls past), all_ended c at_start start past once.1)
all_ended c at_start start (End w n reply at ∷ past) once =
    omega (arith, length-append (ended_calls past) (ended_by w reply at (open_call w past)), one_ends past w n at reply once.0, all_ended c at_start start past once.1)
all_ended c at_start start (mark ∷ past) once = all_ended c at_start start past once.1

-- the report of a sound journal is right
pub reports-are-right : ReportsAreRight
reports-are-right c at_start log sound = record {
  right = both c log.start log.pages log.past (calls_before log.past) (in_order (ended_calls log.past)) (before_right c log.start log.pages at_start log.past sound.once sound.replies)
      (part_right c log.start log.pages at_start log.past sound.once sound.replies);
  all = omega (arith, length-append (calls_before log.past) (in_order (ended_calls log.past)), length-in_order (ended_calls log.past), all_ended c at_start log.start log.past sound.once);
}
