-- The laws.
use Rattle.std.specs.Prelude.{◌≡◌, ◌<◌, ◌-◌, ℕ, zero, suc, List, [], ◌∷◌, length, drop}
use Rattle.std.proofs.Common.{arith, refl, sym, ap, ◌∙◌, subst, inl, inr}
use Rattle.std.proofs.lemmas.Bool.{cases_lt}
use Rattle.bz_call.specs.Map.{Map}
use Rattle.bz_layout.specs.declared.config.Config.{Config}
use Rattle.bz_mark.specs.Log.{Log}
use Rattle.bz_mark.specs.Moments.{at_moment}
use Rattle.bz_mark.specs.declared.marks.Mark.{Mark}
use Rattle.bz_mark.specs.declared.power.Power.{Power}
use Rattle.bz_sound.specs.Power.Sound.{IsSound}
use Rattle.bz_check.specs.declared.verdict.JudgeRule.{JudgeRule}
use Rattle.bz_check.specs.declared.verdict.JudgeRule.TheVariants.{Truth, Calls, Reply, Shape, Content}
use Rattle.bz_check.specs.declared.verdict.Verdict.TheVariants.{Sound, Broken}
use Rattle.bz_check.specs.Laws.{SoundKeepsAllRules, OneVerdict}
use Rattle.bz_check.specs.Rules.{KeepsRule, KeepsJudged, FollowsJudged}
use Rattle.bz_check.specs.Verdicts.{place_of, IsFirstBroken, BreaksFirst}
use Rattle.bz_check.proofs.Deciding.{IsByMarks}
use Rattle.bz_check.proofs.Judging.{by_marks}

keeps_each : (c : Config) (at_start : Power) (log : Log) → IsSound c at_start log → (rule : JudgeRule) → KeepsRule c at_start log.start log.pages rule log.past
keeps_each c at_start log s Truth = s.truthful
keeps_each c at_start log s Calls = s.once
keeps_each c at_start log s Reply = s.replies
keeps_each c at_start log s Shape = λ moment within outer. (s.durable moment within outer).well_formed
keeps_each c at_start log s Content = λ moment within outer. (s.durable moment within outer).content

pub sound_keeps_all_rules : SoundKeepsAllRules
sound_keeps_all_rules c at_start log = (
  λ s. (record { size = s.size; pages = s.pages }, keeps_each c at_start log s),
  λ (formed, keeps). record {
    size = formed.size;
    truthful = keeps Truth;
    once = keeps Calls;
    replies = keeps Reply;
    pages = formed.pages;
    durable = λ moment within outer. record { well_formed = keeps Shape moment within outer; content = keeps Content moment within outer };
  },
)

-- what marks keep, the marks before a moment keep
pub front : (Keeps : JudgeRule → List Mark → Type 0) (Follows : List Mark → Mark → JudgeRule → Type 0) (rule : JudgeRule) (k : ℕ) (past : List Mark) → IsByMarks Keeps Follows → Keeps rule past → Keeps rule (drop k past)
front Keeps Follows rule zero past by h = h
front Keeps Follows rule (suc k) [] by h = h
front Keeps Follows rule (suc k) (mark ∷ past) by h = front Keeps Follows rule k past by ((by rule past mark).0 h).1

-- a rule by its place
rule_at : ℕ → JudgeRule
rule_at zero = Truth
rule_at (suc zero) = Calls
rule_at (suc (suc zero)) = Reply
rule_at (suc (suc (suc zero))) = Shape
rule_at (suc (suc (suc (suc k)))) = Content

its_rule : (rule : JudgeRule) → rule_at (place_of rule) ≡ rule
unfolding rule_at
its_rule Truth = refl
its_rule Calls = refl
its_rule Reply = refl
its_rule Shape = refl
its_rule Content = refl

same_rule : (K : JudgeRule → Type 0) (a b : JudgeRule) → IsFirstBroken K a → IsFirstBroken K b → a ≡ b
same_rule K a b one other = elim (cases_lt (place_of a) (place_of b)) [
  | inl less ↦ absurd (one.broken (other.earlier a less))
  | inr le ↦ elim (cases_lt (place_of b) (place_of a)) [
    | inl less ↦ absurd (other.broken (one.earlier b less))
    | inr ge ↦ let e : place_of a ≡ place_of b = omega arith in sym (its_rule a) ∙ ap rule_at e ∙ its_rule b
  ]
]

-- of two moments at which marks break a rule first, neither is earlier
not_earlier : (Keeps : JudgeRule → List Mark → Type 0) (past : List Mark) (a b : JudgeRule) (m n : ℕ) → BreaksFirst Keeps past a m → BreaksFirst Keeps past b n → m < n → ⊥
not_earlier Keeps past a b m n one other less = one.this.broken (other.before m less one.outer a)

pub same_broken : (Keeps : JudgeRule → List Mark → Type 0) (past : List Mark) (a b : JudgeRule) (m n : ℕ) → BreaksFirst Keeps past a m → BreaksFirst Keeps past b n → Broken a m ≡ Broken b n
same_broken Keeps past a b m n one other = elim (cases_lt m n) [
  | inl less ↦ absurd (not_earlier Keeps past a b m n one other less)
  | inr le ↦ elim (cases_lt n m) [
    | inl less ↦ absurd (not_earlier Keeps past b a n m other one less)
    | inr ge ↦
        let e : m ≡ n = omega arith in
        let two : IsFirstBroken (λ (kept : JudgeRule). Keeps kept (at_moment n past)) a = subst (λ (k : ℕ). IsFirstBroken (λ (kept : JudgeRule). Keeps kept (at_moment k past)) a) e one.this in
        ap (λ (k : ℕ). Broken a k) e ∙ ap (λ (rule : JudgeRule). Broken rule n) (same_rule (λ (kept : JudgeRule). Keeps kept (at_moment n past)) a b two other.this)
  ]
]

-- marks that keep all rules break none at any moment
never : (c : Config) (at_start : Power) (start : List ℕ) (map : Map) (past : List Mark) (rule : JudgeRule) (moment : ℕ) → ((kept : JudgeRule) → KeepsJudged c at_start start map kept past) → BreaksFirst (KeepsJudged c at_start start map) past rule moment → ⊥
never c at_start start map past rule moment all breaks =
    breaks.this.broken (front (KeepsJudged c at_start start map) (FollowsJudged c at_start start map) rule (length past - moment) past (by_marks c at_start start map) (all rule))

pub one_verdict : OneVerdict
one_verdict c at_start start map past Sound Sound a b = refl
one_verdict c at_start start map past Sound (Broken rule moment) a b = absurd (never c at_start start map past rule moment a b)
one_verdict c at_start start map past (Broken rule moment) Sound a b = absurd (never c at_start start map past rule moment b a)
one_verdict c at_start start map past (Broken rule moment) (Broken other later) a b = same_broken (KeepsJudged c at_start start map) past rule other moment later a b
