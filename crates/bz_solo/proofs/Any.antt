-- Whatever a call has come to, it ends within what the configuration tells.
use Rattle.std.proofs.Common.{◌≡◌, ℕ, zero, suc, ◌+◌, ◌-◌, ◌*◌, ◌<◌, ◌≤◌, if◌then◌else◌, Bool, true, false, arith, refl, sym, subst, max, length, mul-le-mul_left}
use Rattle.bz_costs.specs.Resources.{Marks}
use Rattle.bz_costs.specs.Laws.{TasksWeighLittle}
use Rattle.bz_costs.specs.Solo.{rest_of_round, own_marks}
use Rattle.bz_costs.specs.Most.{most_of, most_of_seek, most_of_find, most_of_leaf, most_of_insert, most_of_update, most_of_delete, most_of_freeze, most_of_copy, most_of_merge, most_of_joining, most_of_lowering, most_of_root, most_of_below, most_of_inner, most_of_inner_root}
use Rattle.bz_costs.specs.Stretches.{cost_of_change, solo_stretch}
use Rattle.bz_costs.specs.Weights.{weigh}
use Rattle.bz_swap_machine.specs.Allowed.{for_worker, sum_below}
use Rattle.bz_rivals.specs.Laws.{RivalsAreFew}
use Rattle.bz_rivals.specs.Rivals.{rivals}
use Rattle.bz_costs.specs.FromRunning.Kinds as kinds
use Rattle.bz_costs.specs.FromRunning.Kinds.{Kind, kind_of}
use Rattle.bz_costs.specs.FromRunning.AnyTask.{AnyTask}
use Rattle.bz_costs.specs.FromRunning.AnyTask.TheVariants.{Seeking}
use Rattle.bz_swap.specs.Solo.{allowed_while, left_to}
use Rattle.bz_swap.specs.SoloRuns.{SoloStepsAreAllowed}
use Rattle.bz_swap.specs.SwapMemory.{SwapMemory, Doing, Idle, doing_of}
use Rattle.bz_solo.specs.Errands.{Errand, is_read}
use Rattle.bz_solo.specs.declared.rest.Rest.{Rest}
use Rattle.bz_solo.specs.declared.rest.Rest.TheVariants as rest
use Rattle.bz_solo.specs.Prices.{disturbed_prices, coming_to_read, coming_to_write, coming_after, coming}
use Rattle.bz_solo.specs.Steps.{AnyCallIsPaid, AnyRoundIsPaid}
use Rattle.bz_solo.specs.Sum.{In, Disturbed, own_left}
use Rattle.bz_solo.proofs.Leaving.{pays}
use Rattle.bz_solo.proofs.Pricing as pricing
use Rattle.bz_solo.proofs.Rises.{by_tests}

-- the laws on which it rests
pub record Laws : Type 0 where
  pub few : RivalsAreFew
  pub allowed : SoloStepsAreAllowed
  pub little : TasksWeighLittle Marks

-- the greatest weight of a task, by its kind
abbrev most_for : Kind → ℕ
most_for kinds.Seek = most_of_seek Marks
most_for kinds.Find = most_of_find Marks
most_for kinds.ReadWhole = most_of_leaf Marks
most_for kinds.Insert = most_of_insert Marks
most_for kinds.Update = most_of_update Marks
most_for kinds.Delete = most_of_delete Marks
most_for kinds.Freeze = most_of_freeze Marks
most_for kinds.Copy = most_of_copy Marks
most_for kinds.SplitRootLeaf = most_of_root Marks
most_for (kinds.SplitLeaf a) = most_of_below Marks
most_for (kinds.SplitNode a) = most_of_inner Marks
most_for (kinds.SplitRootNode a) = most_of_inner_root Marks
most_for kinds.Merge = most_of_merge Marks
most_for kinds.MergeNodes = most_of_joining Marks
most_for kinds.LowerRoot = most_of_lowering Marks

most-is : (t : AnyTask) → most_of Marks t ≡ most_for (kind_of t)
unfolding kind_of
most-is (Seeking t) = refl
most-is t = refl

-- a task and what may come after it are no more than the rest of a round
last-fits : (left : Rest) (k : Kind) → most_for k + coming_after Marks left k ≤ rest_of_round Marks
last-fits rest.Leaf kinds.Seek = omega arith
last-fits left kinds.Seek = omega arith
last-fits left k = omega arith

read-fits : (k : Kind) → most_for k + coming_to_read Marks k ≤ rest_of_round Marks
read-fits kinds.Seek = omega arith
read-fits k = omega arith

way-fits : (froze : Bool) (seek leaf find change v : ℕ) → seek + (if froze then leaf + v else (find + max change (leaf + v))) ≤ seek + find + max change (leaf + v)
way-fits true seek leaf find change v = omega arith
way-fits false seek leaf find change v = omega arith

write-fits : (e : Errand) (k : Kind) → most_for k + coming_to_write Marks (disturbed_prices Marks) e k ≤ rest_of_round Marks
write-fits e kinds.Seek = way-fits e.froze (most_of_seek Marks) (most_of_leaf Marks) (most_of_find Marks) (cost_of_change Marks) (disturbed_prices Marks).read
write-fits e k = omega arith

by-fits : (effected reads : Bool) (most last read write rest : ℕ) → most + last ≤ rest → most + read ≤ rest → most + write ≤ rest → most + by_tests effected reads last read write ≤ rest
by-fits true reads most last read write rest l m n = l
by-fits false true most last read write rest l m n = m
by-fits false false most last read write rest l m n = n

fits : (e : Errand) (k : Kind) → most_for k + coming Marks (disturbed_prices Marks) e k ≤ rest_of_round Marks
fits e k = by-fits e.effected (is_read e.call) (most_for k) (coming_after Marks e.rest k) (coming_to_read Marks k) (coming_to_write Marks (disturbed_prices Marks) e k) (rest_of_round Marks) (last-fits e.rest k) (read-fits k) (write-fits e k)

-- what all workers allow
sum-few : (f : ℕ → ℕ) (each n : ℕ) → ((v : ℕ) → f v ≤ each) → sum_below f n ≤ each * n
sum-few f each zero l = omega arith
sum-few f each (suc n) l = omega (arith, sum-few f each n l, l n)

each-few : (d : Doing) → allowed_while d ≤ for_worker
each-few Idle = omega arith
each-few d = omega arith

own-few : (b : Bool) → (if b then 2 else 3) ≤ 3
own-few true = omega arith
own-few false = omega arith

-- all together
sums : (k rivals workers size left own now stretch weigh coming most rest by : ℕ) → size ≡ workers + 1 → rivals + 2 ≤ size → left ≤ for_worker * size → own ≤ 3 → weigh ≤ most → most + coming ≤ rest →
    now + (k * (workers - 1) + (rest + stretch) + for_worker * (workers + 1) + own_marks Marks) ≤ by → k * rivals + own + (now + left) + (0 + (stretch + (weigh + coming))) ≤ by
sums k rivals workers size left own now stretch weigh coming most rest by s few l o w m h =
    let r : k * rivals ≤ k * (workers - 1) = mul-le-mul_left k (omega (arith, s, few)) in
    omega (arith, r, s, few, l, o, w, m, h)

both : (a b c : ℕ) → a ≤ b → b ≤ c → a ≤ c
both a b c l m = omega (arith, l, m)

inside : (w workers size : ℕ) → w ≤ workers → size ≡ workers + 1 → w < size
inside w workers size l s = omega (arith, l, s)

all-allowed : Laws → (m : SwapMemory) (w : ℕ) → left_to m w ≤ for_worker * length m.workers
all-allowed b m w = both _ _ _ (b.allowed.most m w) (sum-few (λ v. allowed_while (doing_of m v)) for_worker (length m.workers) (λ v. each-few (doing_of m v)))

pub any-paid : Laws → AnyCallIsPaid
any-paid b c m w e t untold by p crew within look thawed enough = record {
  look = look;
  thawed = thawed;
  state = In Disturbed;
  holds = tt;
  affords = record {
    enough = sums (solo_stretch Marks + 1) (rivals m w) c.workers (length m.workers) (left_to m w) (own_left Marks e) p.now (solo_stretch Marks) (weigh Marks t) (coming Marks (disturbed_prices Marks) e (kind_of t)) (most_of Marks t) (rest_of_round Marks) by crew.size
        (b.few.others m w crew.worker (inside w c.workers (length m.workers) crew.within crew.size) crew.zero)
        (all-allowed b m w) (own-few e.effected) (b.little t within) (task-fits e t) enough;
  };
}
  where
    task-fits : (e : Errand) (t : AnyTask) → most_of Marks t + coming Marks (disturbed_prices Marks) e (kind_of t) ≤ rest_of_round Marks
    task-fits e t = subst (λ n. n + coming Marks (disturbed_prices Marks) e (kind_of t) ≤ rest_of_round Marks) (sym (most-is t)) (fits e (kind_of t))

-- a round takes no more than a stretch
whole : (k rivals own used stretch by : ℕ) → k * rivals + own + used + (0 + (stretch + (0 + 0))) ≤ by → k * rivals + own + used + stretch ≤ by
whole k rivals own used stretch by l = omega (arith, l)

none-more : (n : ℕ) → 0 + 0 ≤ n
none-more n = omega arith

pub any-round-paid : Laws → pricing.Laws Marks → AnyRoundIsPaid
any-round-paid b d c m w e by p crew thawed enough = pays Marks m w e e (p.now + left_to m w) by p (solo_stretch Marks) refl thawed (pricing.round-within Marks d p.config (p.at p.now).image e) (record {
  enough = whole (solo_stretch Marks + 1) (rivals m w) (own_left Marks e) (p.now + left_to m w) (solo_stretch Marks) by
      (sums (solo_stretch Marks + 1) (rivals m w) c.workers (length m.workers) (left_to m w) (own_left Marks e) p.now (solo_stretch Marks) 0 0 0 (rest_of_round Marks) by crew.size
      (b.few.others m w crew.worker (inside w c.workers (length m.workers) crew.within crew.size) crew.zero)
      (all-allowed b m w) (own-few e.effected) (omega arith) (none-more (rest_of_round Marks)) enough);
})
