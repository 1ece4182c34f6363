-- Verdicts where the start is not well formed.
use Rattle.std.specs.Prelude.{◌≡◌, ◌<◌, ◌≤◌, ◌+◌, ℕ, zero, suc, List, length}
use Rattle.std.proofs.Common.{arith, sym, ◌∙◌, subst, inl, inr}
use Rattle.std.proofs.lemmas.Bool.{cases_lt}
use Rattle.bz_layout.specs.declared.config.Config.{Config}
use Rattle.bz_mark.specs.Moments.{at_moment, IsInner}
use Rattle.bz_mark.specs.WordsAfter.{IsTruthful}
use Rattle.bz_mark.specs.declared.marks.Mark.{Mark}
use Rattle.bz_mark.specs.declared.marks.Mark.TheVariants.{Effect}
use Rattle.bz_mark.specs.declared.power.Power.{Power}
use Rattle.bz_mark.proofs.MomentLaws.{at_moment-next, length-at_moment, mark_at-at_moment}
use Rattle.bz_sound.specs.Memory.Moments.{map_at_start}
use Rattle.bz_sound.specs.Power.Calls.{MayFollow, CallsOnce}
use Rattle.bz_sound.specs.Replies.{Pages}
use Rattle.bz_sound.proofs.Memory.Marks.{each-at, holds-now}
use Rattle.bz_check.specs.Rules.{HasShape}
use Rattle.bz_check.specs.Verdicts.{place_of, IsVerdict}
use Rattle.bz_check.specs.declared.verdict.JudgeRule.{JudgeRule}
use Rattle.bz_check.specs.declared.verdict.JudgeRule.TheVariants.{Truth, Calls, Reply, Shape, Content}
use Rattle.bz_check.specs.declared.verdict.Verdict.TheVariants.{Broken}
use Rattle.bz_check.proofs.Judging.{none_yet}
use Rattle.bz_check.proofs.Deciding.{no_mark}
use Rattle.bz_verdict.specs.Rules.{KeepsSeen}
use Rattle.bz_verdict.specs.Starts.{IsFirstOuter, IsBadStartVerdict}
use Rattle.bz_verdict.proofs.Going.{keeps_yet, three_seen}

-- one moment more is inner
pub inner_more : (past : List Mark) (n : ℕ) → ((m : ℕ) → m < n → IsInner m past) → IsInner n past → (m : ℕ) → m < n + 1 → IsInner m past
inner_more past n before here = λ m lt. elim (cases_lt m n) [
  | inl earlier ↦ before m earlier
  | inr late ↦ let now : n ≡ m = omega arith in subst (λ (k : ℕ). IsInner k past) now here
]

-- the moment after all marks
pub all_inner : (past : List Mark) (n i : ℕ) → n ≡ length past → n ≤ i → ((m : ℕ) → m < i → IsInner m past) → IsFirstOuter n past
all_inner past n i size le before = record { within = omega arith; outer = no_mark past n (omega arith); inner = λ m lt. before m (omega arith) }

-- Effects find nothing
effects_truthful : (start : List ℕ) (past : List Mark) (n : ℕ) → n ≤ length past → ((m : ℕ) → m < n → IsInner m past) → IsTruthful start (at_moment n past)
effects_truthful start past zero within inner = subst (λ (marks : List Mark). IsTruthful start marks) (sym (none_yet past)) tt
effects_truthful start past (suc n) within inner =
    let (lt, (w, k, is)) = inner n (omega arith) in
    let size : n + 1 ≡ suc n = omega arith in
    subst (λ (m : ℕ). IsTruthful start (at_moment m past)) size
    (subst (λ (marks : List Mark). IsTruthful start marks) (sym (at_moment-next n (Effect w k) past is (omega arith))) (tt, effects_truthful start past n (omega arith) (λ m less. inner m (omega arith))))

-- an Effect that stands first follows no fence
none_follows : (at_start : Power) (c : Config) (start : List ℕ) (past : List Mark) (w k : ℕ) → MayFollow at_start (map_at_start c start) (at_moment 0 past) (Effect w k) → ⊥
none_follows at_start c start past w k may = (subst (λ (marks : List Mark). MayFollow at_start (map_at_start c start) marks (Effect w k)) (none_yet past) may).0

effect_first : (c : Config) (at_start : Power) (start : List ℕ) (past : List Mark) (n : ℕ) → n ≤ length past → 0 < n → IsInner 0 past → CallsOnce at_start (map_at_start c start) (at_moment n past) → ⊥
effect_first c at_start start past n within some (lt, (w, k, is)) once =
    let size : length (at_moment n past) ≡ n = length-at_moment n past within in
    none_follows at_start c start (at_moment n past) w k
    (each-at (MayFollow at_start (map_at_start c start)) (at_moment n past) 0 (Effect w k) once (omega (arith, size)) (mark_at-at_moment 0 n past some within ∙ is))

calls_earlier : (c : Config) (at_start : Power) (start : List ℕ) (pages : Pages) (past : List Mark) (n : ℕ) → n ≤ length past → ((m : ℕ) → m < n → IsInner m past) → (other : JudgeRule) → place_of other < 1 → KeepsSeen c at_start start pages other (at_moment n past)
calls_earlier c at_start start pages past n within inner Truth lt = effects_truthful start past n within inner
calls_earlier c at_start start pages past n within inner Calls lt = absurd (omega arith)
calls_earlier c at_start start pages past n within inner Reply lt = absurd (omega arith)
calls_earlier c at_start start pages past n within inner Shape lt = absurd (omega arith)
calls_earlier c at_start start pages past n within inner Content lt = absurd (omega arith)

pub broken_at_start : (start : List ℕ) (past : List Mark) (n : ℕ) → n ≡ 0 → IsFirstOuter n past → IsBadStartVerdict start past (Broken Shape n)
broken_at_start start past n none first = λ c at_start pages bad.
    subst (λ (m : ℕ). IsVerdict (KeepsSeen c at_start start pages) past (Broken Shape m)) (sym none) (record {
      within = omega arith;
      outer = subst (λ (m : ℕ). IsInner m past → ⊥) none first.outer;
      before = λ m lt outer. absurd (omega arith);
      this = record {
        broken = λ kept. bad (subst (λ (marks : List Mark). HasShape c start marks) (none_yet past) (holds-now (HasShape c start) (at_moment 0 past) kept));
        earlier = λ other lt. three_seen c at_start start pages (at_moment 0 past) other lt (keeps_yet c at_start start pages past other);
      };
    })

pub broken_by_effects : (start : List ℕ) (past : List Mark) (n : ℕ) → 0 < n → IsFirstOuter n past → IsBadStartVerdict start past (Broken Calls n)
broken_by_effects start past n some first = λ c at_start pages bad. record {
  within = first.within;
  outer = first.outer;
  before = λ m lt outer. absurd (outer (first.inner m lt));
  this = record {
    broken = λ kept. effect_first c at_start start past n first.within some (first.inner 0 some) kept;
    earlier = calls_earlier c at_start start pages past n first.within first.inner;
  };
}
