-- How many fences may still be made.
use Rattle.std.proofs.Common.{◌≡◌, ◌≤◌, ℕ, zero, suc, ◌+◌, ◌-◌, Bool, true, false, List, refl, arith, Option, Some, None}
use Rattle.bz_ring.specs.declared.marks.QMark.{QMark}
use Rattle.bz_qsched.specs.Points.{fences_of}
use Rattle.bz_qsched.specs.Plans.{IsBefore}
use Rattle.bz_qsched.specs.Fuses.{lets, burnt, Burns}
use Rattle.bz_script.specs.declared.cut_plan.CutPlan.{CutPlan}
use Rattle.bz_qsched.proofs.PowerLemmas.{one_fence}

-- no fence was made
pub burns_none : (past new : List QMark) (fuse : Option ℕ) → fences_of new ≡ fences_of past → Burns past fuse new fuse
burns_none past new None same = refl
burns_none past new (Some some) same = omega (arith, same)

pub burns_same : (past new : List QMark) (fuse left : Option ℕ) → left ≡ fuse → fences_of new ≡ fences_of past → Burns past fuse new left
burns_same past new fuse left is same = rw is (burns_none past new fuse same)

pub burns_both : (a b c : List QMark) (p q r : Option ℕ) → Burns a p b q → Burns b q c r → Burns a p c r
burns_both a b c None None r h k = k
burns_both a b c None (Some n) r h k = absurd (cc h)
burns_both a b c (Some m) None r h k = absurd h
burns_both a b c (Some m) (Some n) None h k = absurd k
burns_both a b c (Some m) (Some n) (Some l) h k = omega (arith, h, k)

-- an act was made that might be
pub burns_act : (past new : List QMark) (fuse left : Option ℕ) (flush : Bool) → lets fuse flush ≡ true → fences_of new ≡ one_fence flush (fences_of past) → left ≡ burnt flush fuse → Burns past fuse new left
burns_act past new fuse left false may made is = rw is (burns_none past new fuse made)
burns_act past new None left true may made is = is
burns_act past new (Some zero) left true may made is = absurd (cc may)
burns_act past new (Some (suc few)) left true may made is = rw is (omega (arith, made))

-- one that might not is the fence at which the power is cut
pub due_is : (fuse : Option ℕ) (flush : Bool) → lets fuse flush ≡ false → (flush ≡ true) × (fuse ≡ Some 0)
due_is None flush never = absurd (cc never)
due_is (Some (suc few)) flush never = absurd (cc never)
due_is (Some zero) true never = (refl, refl)
due_is (Some zero) false never = absurd (cc never)

-- before the cut fewer fences were made than it waits for
pub before_cut : (cut : CutPlan) (past new : List QMark) (fuse left : Option ℕ) → 1 ≤ cut.flush → fuse ≡ Some (cut.flush - 1) → Burns past fuse new left → IsBefore (Some cut) past new
before_cut cut past new None left some is burns = absurd (cc is)
before_cut cut past new (Some few) None some is burns = absurd burns
before_cut cut past new (Some few) (Some fewer) some is burns =
    let same : few ≡ cut.flush - 1 = cc is in
    omega (arith, burns, same, some)

-- and where none may be made any more, all but that one were
pub due_fences : (cut : CutPlan) (past new : List QMark) (fuse left : Option ℕ) → 1 ≤ cut.flush → fuse ≡ Some (cut.flush - 1) → left ≡ Some 0 → Burns past fuse new left → fences_of new + 1 ≡ fences_of past + cut.flush
due_fences cut past new None left some is none burns = absurd (cc is)
due_fences cut past new (Some few) None some is none burns = absurd burns
due_fences cut past new (Some few) (Some fewer) some is none burns =
    let same : few ≡ cut.flush - 1 = cc is in
    let zeroed : fewer ≡ 0 = cc none in
    omega (arith, burns, same, zeroed, some)

-- without a cut no fence is due
pub never_due : (past new : List QMark) (fuse left : Option ℕ) → fuse ≡ None → left ≡ Some 0 → Burns past fuse new left → ⊥
never_due past new None left is none burns = cc (burns, none)
never_due past new (Some few) left is none burns = absurd (cc is)
