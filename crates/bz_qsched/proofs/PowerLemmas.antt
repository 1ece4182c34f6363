-- What the marks of a run leave: the power, and how many fences were made.
use Rattle.std.proofs.Common.{◌≡◌, inl, inr, ℕ, ◌+◌, Bool, List, ◌∷◌, refl, ap}
use Rattle.std.specs.Prelude.{if◌then◌else◌}
use Rattle.bz_swap_acts.specs.Rule.{is_fence_act}
use Rattle.bz_swap_acts.specs.declared.acted.Act.{Act}
use Rattle.bz_swap_acts.specs.declared.acted.Act.TheVariants as act
use Rattle.bz_swap_marks.specs.Marks.{mark_of}
use Rattle.bz_ring.specs.Follows.{power_after}
use Rattle.bz_ring.specs.declared.marks.QMark.{QMark}
use Rattle.bz_ring.specs.declared.marks.QMark.TheVariants.{Memory}
use Rattle.bz_queue.specs.QueueView.{IsStruck}
use Rattle.bz_qsched.specs.Points.{fences_of}

pub act_power : (made : Act) (w : ℕ) (past : List QMark) → power_after (Memory (mark_of w made) ∷ past) ≡ power_after past
act_power (act.Load a v) w past = refl
act_power (act.Store a v) w past = refl
act_power (act.Cas a old new found) w past = refl
act_power (act.Ask line) w past = refl
act_power act.Fence w past = refl

pub struck_power : (first : QMark) (past struck : List QMark) → IsStruck (first ∷ past) struck → power_after struck ≡ power_after (first ∷ past)
struck_power first past struck (inl same) = ap power_after same
struck_power first past struck (inr (w, (n, is))) = ap power_after is

-- one fence more, if the act was one
abbrev pub one_fence : Bool → ℕ → ℕ
one_fence flush count = if flush then count + 1 else count

pub act_fences : (made : Act) (w : ℕ) (past : List QMark) → fences_of (Memory (mark_of w made) ∷ past) ≡ one_fence (is_fence_act made) (fences_of past)
act_fences (act.Load a v) w past = refl
act_fences (act.Store a v) w past = refl
act_fences (act.Cas a old new found) w past = refl
act_fences (act.Ask line) w past = refl
act_fences act.Fence w past = refl

pub struck_fences : (first : QMark) (past struck : List QMark) → IsStruck (first ∷ past) struck → fences_of struck ≡ fences_of (first ∷ past)
struck_fences first past struck (inl same) = ap fences_of same
struck_fences first past struck (inr (w, (n, is))) = ap fences_of is
