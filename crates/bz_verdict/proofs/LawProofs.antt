-- The laws: one verdict is right, and a sound journal is told so.
use Rattle.std.specs.Prelude.{◌≤◌, ◌-◌, ℕ, List, [], ◌∷◌, length}
use Rattle.std.proofs.Common.{arith, refl}
use Rattle.bz_layout.specs.declared.config.Config.{Config}
use Rattle.bz_mark.specs.Log.{Log}
use Rattle.bz_mark.specs.Moments.{at_moment, IsInner}
use Rattle.bz_mark.specs.declared.marks.Mark.{Mark}
use Rattle.bz_mark.specs.declared.power.Power.{Power}
use Rattle.bz_sound.specs.Memory.Moments.{EachMark}
use Rattle.bz_sound.specs.Power.Replies.{HasRightReply}
use Rattle.bz_sound.specs.Power.Sound.{IsSound}
use Rattle.bz_sound.specs.Replies.{Pages}
use Rattle.bz_check.specs.Rules.{HasShape, HasContent}
use Rattle.bz_check.specs.Verdicts.{BreaksFirst}
use Rattle.bz_check.specs.declared.verdict.JudgeRule.{JudgeRule}
use Rattle.bz_check.specs.declared.verdict.JudgeRule.TheVariants.{Truth, Calls, Reply, Shape, Content}
use Rattle.bz_check.specs.declared.verdict.Verdict.TheVariants.{Sound, Broken}
use Rattle.bz_check.proofs.LawProofs.{front, same_broken}
use Rattle.bz_verdict.specs.Laws.{LeavesNoCause, OneVerdict, SoundIsTold, SoundWhereTold}
use Rattle.bz_verdict.specs.Rules.{HasSeenReply, KeepsSeen, KeepsMarks, FollowsMarks}
use Rattle.bz_verdict.proofs.Going.{by_marks, each_so}
use Rattle.bz_verdict.proofs.Showing.{right_seen, seen_right}

each_seen : (c : Config) (start : List ℕ) (pages : Pages) (past : List Mark) → EachMark (HasRightReply c start pages) past → EachMark (HasSeenReply c start pages) past
each_seen c start pages [] h = tt
each_seen c start pages (mark ∷ past) h = (right_seen c start pages past mark h.0, each_seen c start pages past h.1)

-- marks that keep all rules keep them up to each moment that is not inner
three_all : (c : Config) (at_start : Power) (start : List ℕ) (pages : Pages) (past : List Mark) → ((rule : JudgeRule) → KeepsSeen c at_start start pages rule past) → (rule : JudgeRule) → KeepsMarks c at_start start pages rule past
three_all c at_start start pages past all Truth = all Truth
three_all c at_start start pages past all Calls = all Calls
three_all c at_start start pages past all Reply = all Reply
three_all c at_start start pages past all Shape = tt
three_all c at_start start pages past all Content = tt

three_front : (c : Config) (at_start : Power) (start : List ℕ) (pages : Pages) (past : List Mark) (moment : ℕ) → ((rule : JudgeRule) → KeepsSeen c at_start start pages rule past) → (rule : JudgeRule) → KeepsMarks c at_start start pages rule (at_moment moment past)
three_front c at_start start pages past moment all rule =
    front (KeepsMarks c at_start start pages) (FollowsMarks c at_start start pages) rule (length past - moment) past (by_marks c at_start start pages) (three_all c at_start start pages past all rule)

seen_front : (c : Config) (at_start : Power) (start : List ℕ) (pages : Pages) (past : List Mark) (moment : ℕ) → ((rule : JudgeRule) → KeepsSeen c at_start start pages rule past) → moment ≤ length past → (IsInner moment past → ⊥)
    → (rule : JudgeRule) → KeepsSeen c at_start start pages rule (at_moment moment past)
seen_front c at_start start pages past moment all within outer Truth = three_front c at_start start pages past moment all Truth
seen_front c at_start start pages past moment all within outer Calls = three_front c at_start start pages past moment all Calls
seen_front c at_start start pages past moment all within outer Reply = three_front c at_start start pages past moment all Reply
seen_front c at_start start pages past moment all within outer Shape = each_so (HasShape c start) past moment within (λ m lt out. all Shape m (omega arith) out) (all Shape moment within outer)
seen_front c at_start start pages past moment all within outer Content = each_so (HasContent c start) past moment within (λ m lt out. all Content m (omega arith) out) (all Content moment within outer)

never : (c : Config) (at_start : Power) (start : List ℕ) (pages : Pages) (past : List Mark) (rule : JudgeRule) (moment : ℕ) → ((kept : JudgeRule) → KeepsSeen c at_start start pages kept past) → BreaksFirst (KeepsSeen c at_start start pages) past rule moment → ⊥
never c at_start start pages past rule moment all breaks = breaks.this.broken (seen_front c at_start start pages past moment all breaks.within breaks.outer rule)

pub one_verdict : OneVerdict
one_verdict c at_start start pages past Sound Sound a b = refl
one_verdict c at_start start pages past Sound (Broken rule moment) a b = absurd (never c at_start start pages past rule moment a b)
one_verdict c at_start start pages past (Broken rule moment) Sound a b = absurd (never c at_start start pages past rule moment b a)
one_verdict c at_start start pages past (Broken rule moment) (Broken other later) a b = same_broken (KeepsSeen c at_start start pages) past rule other moment later a b

-- those of a sound journal do
all_sound : (c : Config) (at_start : Power) (log : Log) → IsSound c at_start log → (rule : JudgeRule) → KeepsSeen c at_start log.start log.pages rule log.past
all_sound c at_start log s Truth = s.truthful
all_sound c at_start log s Calls = s.once
all_sound c at_start log s Reply = each_seen c log.start log.pages log.past s.replies
all_sound c at_start log s Shape = λ moment within outer. (s.durable moment within outer).well_formed
all_sound c at_start log s Content = λ moment within outer. (s.durable moment within outer).content

pub sound_is_told : SoundIsTold
sound_is_told c at_start log Sound s v = refl
sound_is_told c at_start log (Broken rule moment) s v = absurd (never c at_start log.start log.pages log.past rule moment (all_sound c at_start log s) v)

-- a sound journal is one of which that is right to tell, and where no cause is left open the other way round
each_right : (c : Config) (start : List ℕ) (pages : Pages) (past : List Mark) → EachMark (λ marks mark. LeavesNoCause mark) past → EachMark (HasSeenReply c start pages) past → EachMark (HasRightReply c start pages) past
each_right c start pages [] counted h = tt
each_right c start pages (mark ∷ past) counted h = (seen_right c start pages past mark counted.0 h.0, each_right c start pages past counted.1 h.1)

pub sound_where_told : SoundWhereTold
sound_where_told c at_start log formed counted = (
  all_sound c at_start log,
  λ keeps. record {
    size = formed.size;
    truthful = keeps Truth;
    once = keeps Calls;
    replies = each_right c log.start log.pages log.past counted (keeps Reply);
    pages = formed.pages;
    durable = λ moment within outer. record { well_formed = keeps Shape moment within outer; content = keeps Content moment within outer };
  },
)
