-- What a verdict says of a journal, by what it means that marks keep a rule. The newest mark stands first.
use Rattle.std.specs.Prelude.{◌<◌, ◌≤◌, nat_le, if◌then◌else◌, ℕ, List, length, Option, Some, None}
use Rattle.bz_mark.specs.declared.marks.Mark.{Mark}
use Rattle.bz_mark.specs.Moments.{at_moment, IsInner}
use Rattle.bz_check.specs.declared.verdict.JudgeRule.{JudgeRule}
use Rattle.bz_check.specs.declared.verdict.JudgeRule.TheVariants.{Truth, Calls, Reply, Shape, Content}
use Rattle.bz_check.specs.declared.verdict.Verdict.{Verdict}
use Rattle.bz_check.specs.declared.verdict.Verdict.TheVariants.{Sound, Broken}

-- the order of rules
abbrev pub place_of : JudgeRule → ℕ
place_of Truth = 0
place_of Calls = 1
place_of Reply = 2
place_of Shape = 3
place_of Content = 4

-- a rule is broken, and each earlier one is kept
pub record IsFirstBroken (Keeps : JudgeRule → Type 0) (rule : JudgeRule) : Type 0 where
  pub broken : Keeps rule → ⊥
  pub earlier : (other : JudgeRule) → place_of other < place_of rule → Keeps other

-- the first rule that is broken, or none
abbrev pub TellsFirst : (JudgeRule → Type 0) → Option JudgeRule → Type 0
TellsFirst Keeps None = (rule : JudgeRule) → Keeps rule
TellsFirst Keeps (Some rule) = IsFirstBroken Keeps rule

-- the earlier one of two rules that are broken, if any are
abbrev pub earlier_of : JudgeRule → JudgeRule → JudgeRule
earlier_of a b = if nat_le (place_of a) (place_of b) then a else b

abbrev pub first_of : Option JudgeRule → Option JudgeRule → Option JudgeRule
first_of None other = other
first_of (Some a) None = Some a
first_of (Some a) (Some b) = Some (earlier_of a b)

-- up to a moment, no inner one, the marks break this rule first; up to each earlier one they keep all
pub record BreaksFirst (Keeps : JudgeRule → List Mark → Type 0) (past : List Mark) (rule : JudgeRule) (moment : ℕ) : Type 0 where
  pub within : moment ≤ length past
  pub outer : IsInner moment past → ⊥
  pub before : (m : ℕ) → m < moment → (IsInner m past → ⊥) → (kept : JudgeRule) → Keeps kept (at_moment m past)
  pub this : IsFirstBroken (λ kept. Keeps kept (at_moment moment past)) rule

-- the verdict on marks: all rules are kept, or this one is broken first
abbrev pub IsVerdict : (JudgeRule → List Mark → Type 0) → List Mark → Verdict → Type 0
IsVerdict Keeps past Sound = (rule : JudgeRule) → Keeps rule past
IsVerdict Keeps past (Broken rule moment) = BreaksFirst Keeps past rule moment
