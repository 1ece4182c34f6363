-- A verdict, mark by mark: which rule is broken first so far, and what is known at the moments before.
use Rattle.std.specs.Prelude.{◌≡◌, ◌<◌, ◌≤◌, ◌+◌, ◌↔◌, nat_le, ℕ, List, ◌∷◌, length, Option, Some, None, IfSome}
use Rattle.std.proofs.Common.{arith, refl, sym, ap, ◌∙◌, subst, inl, inr, true, false}
use Rattle.std.proofs.lemmas.Bool.{cases_lt}
use Rattle.std.proofs.lemmas.Bool.Decides.{nat_tests}
use Rattle.bz_mark.specs.declared.marks.Mark.{Mark}
use Rattle.bz_mark.specs.Moments.{at_moment, mark_at, IsInner}
use Rattle.bz_mark.proofs.MomentLaws.{at_moment-next, at_moment-now}
use Rattle.bz_check.specs.declared.verdict.JudgeRule.{JudgeRule}
use Rattle.bz_check.specs.Verdicts.{place_of, IsFirstBroken, TellsFirst, earlier_of, first_of}

-- one mark more keeps a rule exactly where the marks before it keep it and the mark does
abbrev pub IsByMarks : (JudgeRule → List Mark → Type 0) → (List Mark → Mark → JudgeRule → Type 0) → Type 0
IsByMarks Keeps Follows = (rule : JudgeRule) (past : List Mark) (mark : Mark) → Keeps rule (mark ∷ past) ↔ (Follows past mark rule × Keeps rule past)

at_most : (a b : ℕ) → a ≤ b → nat_le a b ≡ true
at_most a b h = grind (arith, nat_tests)

not_most : (a b : ℕ) → b < a → nat_le a b ≡ false
not_most a b h = grind (arith, nat_tests)

-- the first of two rules that are broken is the first that is broken of both
both_first : (K F N : JudgeRule → Type 0) (a b : JudgeRule) → ((rule : JudgeRule) → N rule ↔ (F rule × K rule)) → IsFirstBroken K a → IsFirstBroken F b → IsFirstBroken N (earlier_of a b)
both_first K F N a b joins old new = elim (cases_lt (place_of b) (place_of a)) [
  | inl less ↦ rw (not_most (place_of a) (place_of b) less) (record {
    broken = λ kept. new.broken ((joins b).0 kept).0;
    earlier = λ other lt. (joins other).1 (new.earlier other lt, old.earlier other (omega arith));
  })
  | inr le ↦ rw (at_most (place_of a) (place_of b) le) (record {
    broken = λ kept. old.broken ((joins a).0 kept).1;
    earlier = λ other lt. (joins other).1 (new.earlier other (omega arith), old.earlier other lt);
  })
]

pub first_more : (K F N : JudgeRule → Type 0) (a b : Option JudgeRule) → ((rule : JudgeRule) → N rule ↔ (F rule × K rule)) → TellsFirst K a → TellsFirst F b → TellsFirst N (first_of a b)
first_more K F N None None joins old new = λ rule. (joins rule).1 (new rule, old rule)
first_more K F N None (Some b) joins old new = record {
  broken = λ kept. new.broken ((joins b).0 kept).0;
  earlier = λ other lt. (joins other).1 (new.earlier other lt, old other);
}
first_more K F N (Some a) None joins old new = record {
  broken = λ kept. old.broken ((joins a).0 kept).1;
  earlier = λ other lt. (joins other).1 (new other, old.earlier other lt);
}
first_more K F N (Some a) (Some b) joins old new = both_first K F N a b joins old new

-- what is known of a journal's marks up to a moment: at each moment before it that is not inner all rules are kept, and the first
-- rule that is broken now, which is one only where the moment is inner
pub record Goes (Keeps : JudgeRule → List Mark → Type 0) (past : List Mark) (moment : ℕ) (broken : Option JudgeRule) : Type 0 where
  pub within : moment ≤ length past
  pub before : (m : ℕ) → m < moment → (IsInner m past → ⊥) → (kept : JudgeRule) → Keeps kept (at_moment m past)
  pub tells : TellsFirst (λ kept. Keeps kept (at_moment moment past)) broken
  pub waits : IfSome broken (λ rule. IsInner moment past)

-- after one mark more
pub record Went (Keeps : JudgeRule → List Mark → Type 0) (past : List Mark) (moment : ℕ) (broken : Option JudgeRule) : Type 0 where
  pub within : moment ≤ length past
  pub before : (m : ℕ) → m < moment → (IsInner m past → ⊥) → (kept : JudgeRule) → Keeps kept (at_moment m past)
  pub tells : TellsFirst (λ kept. Keeps kept (at_moment moment past)) broken

-- where all is kept, or the moment is inner
pub whole_if_outer : (Keeps : JudgeRule → List Mark → Type 0) (past : List Mark) (moment : ℕ) (broken : Option JudgeRule) → TellsFirst (λ kept. Keeps kept (at_moment moment past)) broken → IfSome broken (λ rule. IsInner moment past)
    → (IsInner moment past → ⊥) → (kept : JudgeRule) → Keeps kept (at_moment moment past)
whole_if_outer Keeps past moment None tells waits outer = tells
whole_if_outer Keeps past moment (Some rule) tells waits outer = absurd (outer waits)

pub goes_on : (Keeps : JudgeRule → List Mark → Type 0) (Follows : List Mark → Mark → JudgeRule → Type 0) (past : List Mark) (moment : ℕ) (mark : Mark) (broken fault : Option JudgeRule) → IsByMarks Keeps Follows
    → moment < length past → mark_at moment past ≡ Some mark → Goes Keeps past moment broken → TellsFirst (Follows (at_moment moment past) mark) fault → Went Keeps past (moment + 1) (first_of broken fault)
goes_on Keeps Follows past moment mark broken fault by lt is g told = record {
  within = omega arith;
  before = λ m less outer. elim (cases_lt m moment) [
    | inl earlier ↦ g.before m earlier outer
    | inr le ↦
        let e : moment ≡ m = omega arith in
        let out : IsInner moment past → ⊥ = λ inner. outer (subst (λ (n : ℕ). IsInner n past) e inner) in
        let all : (kept : JudgeRule) → Keeps kept (at_moment moment past) = whole_if_outer Keeps past moment broken g.tells g.waits out in
        subst (λ (n : ℕ). (kept : JudgeRule) → Keeps kept (at_moment n past)) e all
  ];
  tells = subst (λ (marks : List Mark). TellsFirst (λ (kept : JudgeRule). Keeps kept marks) (first_of broken fault)) (sym (at_moment-next moment mark past is lt))
      (first_more (λ kept. Keeps kept (at_moment moment past)) (Follows (at_moment moment past) mark) (λ kept. Keeps kept (mark ∷ at_moment moment past)) broken fault
      (λ rule. by rule (at_moment moment past) mark) g.tells told);
}

-- at the start
pub begins : (Keeps : JudgeRule → List Mark → Type 0) (past : List Mark) → ((rule : JudgeRule) → Keeps rule (at_moment 0 past)) → Goes Keeps past 0 None
begins Keeps past none = record { within = omega arith; before = λ m less outer. absurd (omega arith); tells = none; waits = tt }

-- a moment at which nothing is broken, and an inner one
pub goes_whole : (Keeps : JudgeRule → List Mark → Type 0) (past : List Mark) (moment : ℕ) → Went Keeps past moment None → Goes Keeps past moment None
goes_whole Keeps past moment w = record { within = w.within; before = w.before; tells = w.tells; waits = tt }

pub goes_inner : (Keeps : JudgeRule → List Mark → Type 0) (past : List Mark) (moment : ℕ) (broken : Option JudgeRule) → Went Keeps past moment broken → IsInner moment past → Goes Keeps past moment broken
goes_inner Keeps past moment None w inner = record { within = w.within; before = w.before; tells = w.tells; waits = tt }
goes_inner Keeps past moment (Some rule) w inner = record { within = w.within; before = w.before; tells = w.tells; waits = inner }

-- the last moment is not inner
pub no_mark : (past : List Mark) (moment : ℕ) → length past ≤ moment → IsInner moment past → ⊥
no_mark past moment le inner = omega (arith, inner.0)
