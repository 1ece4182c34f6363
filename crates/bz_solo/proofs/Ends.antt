-- At the end of a task.
use Rattle.std.proofs.Common.{◌≡◌, ◌≢◌, ℕ, ◌+◌, ◌≤◌, true, false, arith, inl, inr, subst}
use Rattle.std.specs.Prelude.{◌*◌, Bool, Some}
use Rattle.bz_joined.specs.FromAlone.Undisturbed.{IsUndisturbed}
use Rattle.bz_costs.specs.Solo.{one_mark}
use Rattle.bz_costs.specs.Resources.{Resource, Marks, Descriptors, Slots}
use Rattle.bz_costs.specs.Stretches.{solo_stretch}
use Rattle.bz_costs.specs.Weights.{weigh}
use Rattle.bz_rivals.specs.Rivals.{rivals}
use Rattle.bz_costs.specs.FromRunning.Duties.{end_of}
use Rattle.bz_costs.specs.FromRunning.Kinds.{kind_of}
use Rattle.bz_costs.specs.FromRunning.AnyTask.{AnyTask}
use Rattle.bz_swap.specs.SwapMemory.{SwapMemory}
use Rattle.bz_task.specs.Scene.{Past}
use Rattle.bz_task.specs.declared.todo.Outcome.{Outcome}
use Rattle.bz_task.specs.declared.todo.Outcome.TheVariants.{Done}
use Rattle.bz_solo.proofs.Sparing.{less-afforded}
use Rattle.bz_solo.specs.Errands.{Errand, may_swap_twice, after}
use Rattle.bz_solo.specs.Prices.{coming, prices_in, round_price}
use Rattle.bz_solo.specs.Rounds.{EndsAreAfforded, EndsArePaid}
use Rattle.bz_solo.specs.Sum.{Affords, Round, Disturbed, Clean, State, In, Made, IsIn, IsMade, IsThawed, Spares, own_left, reserve, prices_of, left_in}

pub ends-afforded : (r : Resource) → EndsAreAfforded r
ends-afforded r m w e t untold extra used by p paid = all ((solo_stretch r + one_mark r) * rivals m w) (own_left r e) (weigh r t) (left_in r paid.state e t p) (one_mark r) (some r e.effected) (left paid.state) paid.affords.enough
  where
    some : (r : Resource) (done : Bool) → one_mark r ≤ own_left r (record e { effected = done })
    some Marks true = omega arith
    some Marks false = omega arith
    some Descriptors done = omega arith
    some Slots done = omega arith

    left : (state : State) → weigh r t ≤ left_in r state e t p
    left (In round) = beside (reserve r round) (weigh r t) (coming r (prices_of r round e p) e (kind_of t))
      where
        beside : (a b c : ℕ) → b ≤ a + (b + c)
        beside a b c = omega arith
    left Made = first (weigh r t) (round_price r (prices_in r p.config (p.at p.now).image (after e (kind_of t))) (after e (kind_of t)))
      where
        first : (a b : ℕ) → a ≤ a + b
        first a b = omega arith

    all : (kept own takes rest mark : ℕ) → mark ≤ own → takes ≤ rest → kept + own + used + (extra + rest) ≤ by → used + (extra + takes) + mark ≤ by
    all kept own takes rest mark l t enough = omega (arith, l, t, enough)

-- no task that was told all and has not ended well is one whose swap was made
pub unmade : (e : Errand) (t : AnyTask) (o : Outcome) (P : Type 0) → end_of t ≡ Some o → o ≢ Done → IsMade e t 0 → P
unmade e t o P ended other made = absurd (elim made.told [ inl one ↦ absurd (omega (arith, one)) | inr done ↦ other (same ended done) ])
  where
    same : end_of t ≡ Some o → end_of t ≡ Some Done → o ≡ Done
    same a b = cc

-- a task that makes no swap before its end is alone in a clean round
pub undisturbed-yet : (e : Errand) (t : AnyTask) (round : Round) (p : Past) → may_swap_twice (kind_of t) ≡ false → IsIn (In round) e t 0 p → round ≡ Clean → IsUndisturbed 0 p
undisturbed-yet e t Disturbed p once h is = absurd (cc)
undisturbed-yet e t Clean p once h is = subst (λ (made : ℕ). IsUndisturbed made p) (h.none once) h.alone

-- in whichever round, what it leaves is spared
ended-in : (r : Resource) (m : SwapMemory) (w : ℕ) (e : Errand) (t : AnyTask) (o : Outcome) (used by : ℕ) (p : Past) → end_of t ≡ Some o → o ≢ Done → may_swap_twice (kind_of t) ≡ false → IsThawed e →
    (state : State) → IsIn state e t 0 p → Affords r m w e used by (0 + left_in r state e t p) → Spares r m w e used by p (λ q. coming r q e (kind_of t))
ended-in r m w e t o used by p ended other once thawed (In round) h a = record {
  round = round;
  alone = undisturbed-yet e t round p once h;
  thawed = thawed;
  affords = less-afforded r m w e used by (0 + left_in r (In round) e t p) (reserve r round + coming r (prices_of r round e p) e (kind_of t)) (rest (reserve r round) (weigh r t) (coming r (prices_of r round e p) e (kind_of t))) a;
}
  where
    rest : (kept own price : ℕ) → kept + price ≤ 0 + (kept + (own + price))
    rest kept own price = omega arith
ended-in r m w e t o used by p ended other once thawed Made h a = unmade e t o _ ended other h

pub ends-paid : (r : Resource) → EndsArePaid r
ends-paid r m w e t o used by p ended other once paid = ended-in r m w e t o used by p ended other once paid.thawed paid.state paid.holds paid.affords
