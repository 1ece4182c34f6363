-- A stage costs no less than a lower one, and pays for each kind of round.
use Rattle.std.proofs.Common.{◌≡◌, ℕ, zero, suc, ◌+◌, ◌<◌, ◌≤◌, false, arith, ap, inl, inr}
use Rattle.std.specs.Prelude.{min}
use Rattle.std.proofs.lemmas.Bool.{cases_lt}
use Rattle.bz_costs.specs.Resources.{Resource, Marks}
use Rattle.bz_costs.specs.Costs.{HigherStagesCostMore, RoundsArePaid}
use Rattle.bz_costs.specs.Failing.{cost_of_lost_inner}
use Rattle.bz_costs.specs.Most.{most_of_copy, most_of_root, most_of_merge, most_of_below}
use Rattle.bz_costs.specs.Stretches.{cost_of_view, cost_of_split_at, cost_of_renewal, cost_once_viewed, cost_from, top_stage, cost_viewed_at}

step : (r : Resource) (stage : ℕ) → cost_once_viewed r stage ≤ cost_once_viewed r (suc stage)
step r stage = omega arith

pub rise : (r : Resource) (low high : ℕ) → low ≤ high → cost_once_viewed r low ≤ cost_once_viewed r high
rise r low zero l = omega (arith, ap (cost_once_viewed r) same)
  where
    same : low ≡ 0
    same = omega (arith, l)
rise r low (suc high) l = elim (cases_lt high low) [ inl lt ↦ omega (arith, ap (cost_once_viewed r) (same lt)) | inr le ↦ omega (arith, rise r low high le, step r high) ]
  where
    same : high < low → low ≡ suc high
    same lt = omega (arith, l, lt)

pub rise-from : (r : Resource) (low high : ℕ) → low ≤ high → cost_from r low ≤ cost_from r high
rise-from r low high l = omega (arith, rise r low high l)

renews : (r : Resource) (stage : ℕ) → most_of_copy r ≤ cost_of_renewal r (suc stage)
renews r zero = omega arith
renews Marks (suc stage) = omega arith
renews r (suc stage) = omega arith

round-more : (r : Resource) (stage : ℕ) → cost_from r stage + (cost_of_view r + most_of_copy r) ≤ cost_from r (suc stage)
round-more r stage = omega (arith, renews r stage)

next-is : (stage : ℕ) → stage + 1 ≡ suc stage
next-is stage = omega arith

pub cost-more : (r : Resource) → HigherStagesCostMore r
cost-more r = record {
  viewed = rise r;
  from = rise-from r;
  round = λ stage. omega (arith, round-more r stage, ap (cost_from r) (next-is stage));
}

-- the first stage pays for each task that restructures the leaf itself
copied : (r : Resource) → most_of_copy r + cost_from r 0 ≤ cost_once_viewed r 1
copied r = omega arith

rooted : (r : Resource) → most_of_root r + cost_from r 0 ≤ cost_once_viewed r 1
rooted Marks = omega arith
rooted r = omega arith

pub halved : (r : Resource) → most_of_below r + cost_from r 0 ≤ cost_once_viewed r 1
halved r = omega arith

merged : (r : Resource) → most_of_merge r + cost_of_view r + most_of_copy r + cost_from r 0 ≤ cost_once_viewed r 1
merged r = omega arith

-- a split higher up costs no less
higher-split : (r : Resource) (low high : ℕ) → low ≤ high → cost_of_split_at r low ≤ cost_of_split_at r high
higher-split Marks low high l = omega (arith, l)
higher-split r low high l = omega (arith, l)

added : (a b c d v : ℕ) → a ≤ b → c ≤ d → b + d ≤ v → a + c ≤ v
added a b c d v l m h = omega (arith, l, m, h)

-- and of as many full nodes as the stage tells, the highest split is paid for, and what comes after it
split-below : (r : Resource) (level after full : ℕ) → level ≤ suc full → after ≤ suc full → cost_of_split_at r level + cost_from r after ≤ cost_once_viewed r (suc (suc full))
split-below r level after full l m = added _ _ _ _ _ (higher-split r level (suc full) l) (rise-from r after (suc full) m) (viewed full)
  where
    viewed : (full : ℕ) → cost_of_split_at r (suc full) + cost_from r (suc full) ≤ cost_once_viewed r (suc (suc full))
    viewed full = rise r (suc (suc full)) (suc (suc full)) (omega arith)

split-at : (r : Resource) (stage level after : ℕ) → 0 < level → level < stage → after < stage → cost_of_split_at r level + cost_from r after ≤ cost_once_viewed r stage
split-at r zero level after some l m = absurd (omega (arith, l))
split-at r (suc zero) level after some l m = absurd (omega (arith, some, l))
split-at r (suc (suc full)) level after some l m = split-below r level after full (omega (arith, l)) (omega (arith, m))

split : (r : Resource) (stage level after : ℕ) → 0 < level → level < stage → level < top_stage → after < stage → after < top_stage → cost_of_split_at r level + cost_from r after ≤ cost_once_viewed r (min stage top_stage)
split r stage level after some l high m top = split-at r (min stage top_stage) level after some (omega (arith, l, high)) (omega (arith, m, top))

one-higher : (r : Resource) (level : ℕ) → 0 < level → cost_of_split_at r (level + 1) ≤ cost_of_split_at r level + cost_of_lost_inner r
one-higher Marks level some = omega (arith, some)
one-higher r level some = omega (arith, some)

pub rounds-paid : (r : Resource) → RoundsArePaid r
rounds-paid r = record {
  freeze = λ stage. omega (arith, ap (cost_viewed_at r false) (next-is stage));
  copy = λ stage. omega (arith, copied r, rise r 1 (stage + 1) (omega arith));
  root = λ stage. omega (arith, rooted r, rise r 1 (stage + 1) (omega arith));
  below = λ stage. omega (arith, halved r, rise r 1 (stage + 1) (omega arith));
  merge = λ stage. omega (arith, merged r, rise r 1 (stage + 1) (omega arith));
  inner = split r;
  higher = one-higher r;
}
