-- While splits go up from a leaf each is paid for.
use Rattle.std.proofs.Common.{◌≡◌, ℕ, zero, suc, ◌+◌, ◌-◌, ◌*◌, ◌<◌, ◌≤◌, true, arith, subst}
use Rattle.std.specs.Prelude.{min}
use Rattle.bz_costs.proofs.Lost.{lost-little}
use Rattle.bz_costs.proofs.Stages.{halved, rise, rise-from}
use Rattle.bz_costs.specs.Failing.{cost_of_lost_below, cost_of_lost_inner}
use Rattle.bz_costs.specs.Most.{most_of_below, most_of_inner, most_of_inner_root}
use Rattle.bz_costs.specs.Resources.{Resource, Marks}
use Rattle.bz_costs.specs.Splits.{most_of_higher, SplitsArePaid}
use Rattle.bz_costs.specs.Stretches.{cost_of_split_at, cost_once_viewed, cost_from, cost_viewed_at, top_stage}

both : (a b c : ℕ) → a ≤ b → b ≤ c → a ≤ c
both a b c l m = omega (arith, l, m)

-- a leaf above stage 0 pays for its own split
own : (r : Resource) (stage : ℕ) → most_of_below r + cost_from r 0 ≤ cost_viewed_at r true (stage + 1)
own r stage = both _ _ _ (halved r) (rise r 1 (min (stage + 1) top_stage) (omega arith))

begins : (first v rest : ℕ) → first + rest ≤ v → first + (v - first) ≤ v
begins first v rest l = omega (arith, l)

remains : (first v rest : ℕ) → first + rest ≤ v → rest ≤ v - first
remains first v rest l = omega (arith, l)

-- and one above stage 1 for the splits above
grouped : (lost between higher from v : ℕ) → lost + between + higher + from ≤ v → lost + (higher + (between + from)) ≤ v
grouped lost between higher from v l = omega (arith, l)

higher : (r : Resource) (stage : ℕ) → 1 < stage → cost_of_lost_below r + (most_of_higher r + (cost_of_lost_inner r * (stage - 1 - 1) + cost_from r (stage - 1))) ≤ cost_once_viewed r stage
higher r zero l = absurd (omega (arith, l))
higher r (suc zero) l = absurd (omega (arith, l))
higher r (suc (suc full)) l = at (suc (suc full) - 1 - 1) (suc (suc full) - 1) (omega arith) (omega arith)
  where
    viewed : cost_of_split_at r (suc full) + cost_from r (suc full) ≤ cost_once_viewed r (suc (suc full))
    viewed = rise r (suc (suc full)) (suc (suc full)) (omega arith)

    at : (lost after : ℕ) → suc full - 1 ≡ lost → suc full ≡ after → cost_of_lost_below r + (most_of_higher r + (cost_of_lost_inner r * lost + cost_from r after)) ≤ cost_once_viewed r (suc (suc full))
    at lost after e f = subst (λ (z : ℕ). cost_of_lost_below r + (most_of_higher r + (cost_of_lost_inner r * lost + cost_from r z)) ≤ cost_once_viewed r (suc (suc full))) f
        (subst (λ (y : ℕ). cost_of_lost_below r + (most_of_higher r + (cost_of_lost_inner r * y + cost_from r (suc full))) ≤ cost_once_viewed r (suc (suc full))) e (grouped _ _ _ _ _ viewed))

-- the first split above: what that of the leaf has left, and what was to come, are enough
climbs : (left lost below next v : ℕ) → below ≤ left + lost → lost + next ≤ v → next ≤ left + (v - below)
climbs left lost below next v l m = omega (arith, l, m)

-- and the next ones
lost-more : (r : Resource) (level m : ℕ) → level + 1 < m → cost_of_lost_inner r + cost_of_lost_inner r * (m - 1 - (level + 1)) ≤ cost_of_lost_inner r * (m - 1 - level)
lost-more Marks level m l = omega (arith, l)
lost-more r level m l = omega (arith, l)

dearer : (r : Resource) → most_of_higher r ≤ most_of_inner r
dearer Marks = omega arith
dearer r = omega arith

climbs-on : (left lost inner higher less more from : ℕ) → higher ≤ inner → inner ≤ left + lost → lost + less ≤ more → higher + (less + from) ≤ left + (more + from)
climbs-on left lost inner higher less more from l m h = omega (arith, l, m, h)

rooted : (r : Resource) (stage : ℕ) → most_of_inner_root r ≤ cost_from r stage
rooted r stage = omega (arith, rise r 0 stage (omega arith))

added : (a b c : ℕ) → a ≤ c → a ≤ b + c
added a b c l = omega (arith, l)

pub splits-paid : (r : Resource) → SplitsArePaid r
splits-paid r = record {
  begun = λ stage. begins _ _ _ (own r stage);
  room = λ stage. remains _ _ _ (own r stage);
  first = λ t a stage e. climbs _ _ _ _ _ ((lost-little r).below t a e) (higher r (min (stage + 2) top_stage) (omega arith));
  next = λ t a level stage e m top. climbs-on _ _ _ _ _ _ _ (dearer r) ((lost-little r).inner t a e) (lost-more r level (min stage top_stage) (omega (arith, m, top)));
  too_high = λ level stage. added _ _ _ (rooted r (min stage top_stage - 1));
  done = λ level stage after l m. added _ _ _ (rise-from r after (min stage top_stage - 1) (omega (arith, l, m)));
}
