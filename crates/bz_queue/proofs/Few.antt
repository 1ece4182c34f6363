-- An open call has at most so many marks left for each worker and for two more, whatever the others have come to.
use Rattle.std.proofs.Common.{◌≡◌, ◌≤◌, ◌+◌, ◌*◌, ℕ, zero, suc, Bool, true, false, length, get_or, sym, ap, subst, arith, Option, Some, None}
use Rattle.bz_swap_machine.specs.Allowed.{counted, for_worker, sum_below}
use Rattle.bz_rivals.specs.Rivals.{rivals}
use Rattle.bz_rivals.proofs.Proved.{rivals_are_few}
use Rattle.bz_swap.specs.Solo.{allowed_while, allowed_to_all}
use Rattle.bz_swap.specs.SwapMemory.{Doing, Idle, doing_of}
use Rattle.bz_swap.proofs.Proved.{solo_steps_are_allowed}
use Rattle.bz_queue.specs.Inside.Kept.{IsAwake}
use Rattle.bz_queue.specs.Inside.Left.{for_place, is_stale, left_of, marks_left, may_move, own_left}
use Rattle.bz_queue.specs.Inside.Serving.{IsSlot}
use Rattle.bz_queue.specs.declared.parts.Parts.{Parts}
use Rattle.bz_queue.specs.declared.serving.OpenCall.{OpenCall}
use Rattle.bz_queue.specs.declared.serving.Place.{Place}
use Rattle.bz_queue.specs.declared.serving.Place.TheVariants.{Counter, Cell, Again, Swap}
use Rattle.bz_change.specs.Changes as change

one-at-most : (b : Bool) → counted b 1 ≤ 1
one-at-most true = omega arith
one-at-most false = omega arith

place-few : (place : Place) → for_place place ≤ 129
place-few Counter = omega arith
place-few (Cell counter) = omega arith
place-few (Again counter at) = omega arith
place-few (Swap counter word) = omega arith

own-few : (effect : Option ℕ) → own_left effect ≤ 1
own-few None = omega arith
own-few (Some at) = omega arith

-- what a worker allows
while-few : (doing : Doing) → allowed_while doing ≤ for_worker
while-few Idle = omega arith
while-few doing = omega arith

-- worker 0 allows nothing, since it does nothing
sum-few : (f : ℕ → ℕ) (n : ℕ) → f 0 ≡ 0 → ((v : ℕ) → f v ≤ for_worker) → sum_below f (suc n) ≤ for_worker * n
sum-few f zero none each = omega (arith, none)
sum-few f (suc n) none each = omega (arith, sum-few f n none each, each (suc n))

zero-idle : (p : Parts) (slot : Option OpenCall) → IsSlot p.numbers.ring p.access p.journal.past p.owners.items p.numbers.workers 0 slot → doing_of p.access 0 ≡ Idle
zero-idle p None h = h.idle
zero-idle p (Some x) h = absurd (omega (arith, h.opened.worker))

all-few : (p : Parts) → IsAwake p → allowed_to_all p.access ≤ for_worker * p.numbers.workers
all-few p k =
    let crew : length p.access.workers ≡ suc p.numbers.workers = omega (arith, k.tabled.crew) in
    let none : allowed_while (doing_of p.access 0) ≡ 0 = ap allowed_while (zero-idle p (get_or p.workers.items 0 None) (k.slots 0)) in
    subst (λ (n : ℕ). sum_below (λ v. allowed_while (doing_of p.access v)) n ≤ for_worker * p.numbers.workers) (sym crew)
    (sum-few (λ v. allowed_while (doing_of p.access v)) p.numbers.workers none (λ v. while-few (doing_of p.access v)))

rivals-few : (p : Parts) (w : ℕ) (x : OpenCall) → IsAwake p → w ≤ p.numbers.workers → rivals p.access w ≤ p.numbers.workers
rivals-few p w x k within = omega (arith, rivals_are_few.all p.access w (omega (arith, k.tabled.crew)), k.tabled.crew)

slot-few : (p : Parts) (w : ℕ) (slot : Option OpenCall) → IsAwake p → IsSlot p.numbers.ring p.access p.journal.past p.owners.items p.numbers.workers w slot → left_of p.access w slot ≤ for_worker * (p.numbers.workers + 2)
slot-few p w None k h = omega arith
slot-few p w (Some x) k h = omega (
  arith,
  solo_steps_are_allowed.most p.access w,
  all-few p k,
  rivals-few p w x k h.opened.within,
  place-few x.place,
  one-at-most (is_stale p.access w x.call x.effect x.place),
  one-at-most (may_move p.access w (change.counter_of x.call)),
  own-few x.effect,
  k.tabled.numbers.workers.at_most,
)

pub few-left : (p : Parts) (w : ℕ) → IsAwake p → marks_left p w ≤ for_worker * (p.numbers.workers + 2)
few-left p w k = slot-few p w (get_or p.workers.items w None) k (k.slots w)
