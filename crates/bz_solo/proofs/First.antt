-- A call that begins while nobody does anything: no swap of another can take effect, and nothing is under way.
use Rattle.std.proofs.Common.{◌≡◌, ℕ, zero, suc, ◌+◌, ◌*◌, ◌≤◌, ◌&&◌, if◌then◌else◌, Bool, true, false, arith, ap, refl, sym, subst, ◌∙◌}
use Rattle.bz_costs.specs.Resources.{Resource, Marks}
use Rattle.bz_costs.specs.Costs.{WholeCallsAreAffordable}
use Rattle.bz_costs.specs.Solo.{one_mark, own_marks, promised}
use Rattle.bz_costs.specs.Stretches.{solo_stretch}
use Rattle.bz_swap_machine.specs.Allowed.{sum_below, counted}
use Rattle.bz_rivals.specs.Rivals.{is_pending, rivals}
use Rattle.bz_swap.specs.Solo.{allowed_while, allowed_to_all}
use Rattle.bz_swap.specs.SwapMemory.{SwapMemory, Doing, Idle, doing_of}
use Rattle.bz_swap.proofs.Proved.{solo_steps_are_allowed}
use Rattle.bz_solo.specs.Steps.{FirstRoundsArePaid, IdleMemoriesAllowNothing}
use Rattle.bz_solo.specs.Errands.{Errand}
use Rattle.bz_solo.specs.Sum.{own_left}
use Rattle.bz_solo.proofs.Coming.{either}
use Rattle.bz_solo.proofs.Leaving.{pays}
use Rattle.bz_solo.proofs.Pricing as pricing

sum-none : (f : ℕ → ℕ) (n : ℕ) → ((v : ℕ) → f v ≡ 0) → sum_below f n ≡ 0
sum-none f zero none = refl
sum-none f (suc n) none = omega (arith, sum-none f n none, none n)

-- one that does nothing has no swap under way, and allows nothing
no-rival : (m : SwapMemory) (other : Bool) (d : Doing) → d ≡ Idle → counted (other && is_pending m d) 1 ≡ 0
no-rival m other d idle = ap (λ (d : Doing). counted (other && is_pending m d) 1) idle ∙ neither other
  where
    neither : (other : Bool) → counted (other && false) 1 ≡ 0
    neither true = refl
    neither false = refl

own-few : (r : Resource) (e : Errand) → own_left r e ≤ own_marks r
own-few Marks e = either e.effected 2 3 3 (omega arith) (omega arith)
own-few r e = omega arith

-- all together
sums : (k rivals own used stretch own_most promised by : ℕ) → rivals ≡ 0 → own ≤ own_most → stretch + own_most ≤ promised → used + promised ≤ by → k * rivals + own + used + stretch ≤ by
sums k rivals own used stretch own_most promised by none o few enough = subst (λ (n : ℕ). k * n + own + used + stretch ≤ by) (sym none) (omega (arith, o, few, enough))

pub first-paid : (r : Resource) → WholeCallsAreAffordable r → pricing.Laws r → FirstRoundsArePaid r
first-paid r few d m w e used by p idle thawed enough = pays r m w e e used by p (solo_stretch r) refl thawed (pricing.round-within r d p.config (p.at p.now).image e) (record {
  enough = sums (solo_stretch r + one_mark r) (rivals m w) (own_left r e) used (solo_stretch r) (own_marks r) (promised r) by none (own-few r e) few enough;
})
  where
    none : rivals m w ≡ 0
    none = sum-none _ _ (λ v. no-rival m _ (doing_of m v) (idle v))

pub allow-nothing : IdleMemoriesAllowNothing
allow-nothing m w idle = omega (arith, solo_steps_are_allowed.most m w, nothing)
  where
    nothing : allowed_to_all m ≡ 0
    nothing = sum-none _ _ (λ v. ap allowed_while (idle v))
