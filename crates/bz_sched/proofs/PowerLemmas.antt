-- What the marks of a run leave: the power, and how many fences were made.
use Rattle.std.proofs.Common.{◌≡◌, inl, inr, ℕ, ◌+◌, Bool, List, ◌∷◌, refl, ap}
use Rattle.std.specs.Prelude.{if◌then◌else◌}
use Rattle.bz_swap_acts.specs.Rule.{is_fence_act}
use Rattle.bz_swap_acts.specs.declared.acted.Act.{Act}
use Rattle.bz_swap_acts.specs.declared.acted.Act.TheVariants as act
use Rattle.bz_mark.specs.declared.marks.Mark.{Mark}
use Rattle.bz_mark.specs.declared.power.Power.{Power}
use Rattle.bz_mark.specs.Times.{power_of}
use Rattle.bz_world.specs.WorldView.{IsStruck, mark_of}
use Rattle.bz_sched.specs.Points.{fences_of}

pub act_power : (at_start : Power) (made : Act) (w : ℕ) (past : List Mark) → power_of at_start (mark_of w made ∷ past) ≡ power_of at_start past
act_power at_start (act.Load a v) w past = refl
act_power at_start (act.Store a v) w past = refl
act_power at_start (act.Cas a old new found) w past = refl
act_power at_start (act.Ask line) w past = refl
act_power at_start act.Fence w past = refl

pub struck_power : (at_start : Power) (first : Mark) (past struck : List Mark) → IsStruck (first ∷ past) struck → power_of at_start struck ≡ power_of at_start (first ∷ past)
struck_power at_start first past struck (inl same) = ap (power_of at_start) same
struck_power at_start first past struck (inr (w, (n, is))) = ap (power_of at_start) is

-- one fence more, if the act was one
abbrev pub one_fence : Bool → ℕ → ℕ
one_fence flush count = if flush then count + 1 else count

pub act_fences : (made : Act) (w : ℕ) (past : List Mark) → fences_of (mark_of w made ∷ past) ≡ one_fence (is_fence_act made) (fences_of past)
act_fences (act.Load a v) w past = refl
act_fences (act.Store a v) w past = refl
act_fences (act.Cas a old new found) w past = refl
act_fences (act.Ask line) w past = refl
act_fences act.Fence w past = refl

pub struck_fences : (first : Mark) (past struck : List Mark) → IsStruck (first ∷ past) struck → fences_of struck ≡ fences_of (first ∷ past)
struck_fences first past struck (inl same) = ap fences_of same
struck_fences first past struck (inr (w, (n, is))) = ap fences_of is
