-- Each step of a worker that steps alone is paid for, of each resource, and what its task is told and starts.
use Rattle.std.proofs.Common.{◌≡◌, ◌≢◌, ℕ, ◌+◌, ◌-◌, ◌≤◌, ◌<◌, List, ◌∷◌, length, arith, refl, sym, subst, inl, inr, Some, None}
use Rattle.std.specs.Prelude.{get_or}
use Rattle.bz_layout.specs.Slots.{FreeSlots}
use Rattle.bz_layout.specs.declared.config.Config.{Config}
use Rattle.bz_layout.specs.declared.thresholds.TheConstants.{LEAF_RECORD_WORDS, SLOTS_PER_CALL, SWAPS_PER_CALL}
use Rattle.bz_solo.specs.Errands.{Errand, words_asked}
use Rattle.bz_solo.specs.FromAlone.Undisturbed.{IsUndisturbed}
use Rattle.bz_solo.specs.FromCosts.Solo.{one_mark}
use Rattle.bz_solo.specs.FromCosts.Resources.{Resource, Marks, Descriptors, Slots}
use Rattle.bz_solo.specs.FromCosts.Weights.{slots_gone, start_allows, start_takes, weigh}
use Rattle.bz_solo.specs.Steps.{IsNext, IsOwnEffect, IsServing, effected_by, mark_of_effect}
use Rattle.bz_solo.specs.Sum.{IsPaid}
use Rattle.bz_mark.specs.declared.marks.Mark.{Mark}
use Rattle.bz_rivals.specs.Rivals.{rivals}
use Rattle.bz_any_task.specs.Duties.{asks_of, end_of, made_of, publishing_of}
use Rattle.bz_any_task.specs.Hearing.{HasHeard}
use Rattle.bz_any_task.specs.Laws.{AreLaws}
use Rattle.bz_any_task.specs.declared.running.AnyTask.{AnyTask}
use Rattle.bz_swap.specs.Solo.{left_to}
use Rattle.bz_swap.specs.SwapMemory.{SwapMemory}
use Rattle.bz_task.specs.Instant.{Instant}
use Rattle.bz_task.specs.Requests.{Hears, effects_in, swaps_in}
use Rattle.bz_task.specs.Scene.{Past, Scene, IsScene}
use Rattle.bz_task.specs.declared.todo.Outcome.TheVariants.{Restart}
use Rattle.bz_task.specs.declared.todo.Seen.{Seen}
use Rattle.bz_task.specs.declared.todo.Todo.{Todo}
use Rattle.bz_task.specs.declared.todo.Todo.TheVariants.{Finish}
use Rattle.bz_word.specs.declared.entry.Entry.{Entry}
use Rattle.bz_world.specs.Inside.Laws.{PaidLaws, RoundLaws}
use Rattle.bz_world.specs.Inside.Beginning.{supply_of}
use Rattle.bz_world.specs.Inside.Going.{HasRoomForEnd}
use Rattle.bz_world.specs.Inside.Kept.{IsAwake}
use Rattle.bz_world.specs.Inside.Paid.{Stock, begun_with, bound_in, bound_of, errand_of, no_extra, runner, stock_of, used_in, used_of, IsPaidFor, IsPaidIn}
use Rattle.bz_world.specs.Inside.Serving.{IsServing as Serves, IsSlot}
use Rattle.bz_world.specs.WorldView.{stepper, KeepsSupply, RunsWhole}
use Rattle.bz_world.specs.declared.parts.Parts.{Parts}
use Rattle.bz_world.specs.declared.serving.OpenCall.{OpenCall}
use Rattle.bz_world.proofs.Paid.{affords-room, bound-on, counted-on, not-whole, steps-or}

-- a step of the worker, which takes no descriptor: the swap memory allows it a mark less than it has added
pub record StepsFurther (m n : SwapMemory) (w : ℕ) : Type 0 where
  pub left : left_to n w < left_to m w
  pub taken : n.taken ≡ m.taken

used-steps : (r : Resource) (m n : SwapMemory) (past : List Mark) (mark : Mark) (stock : Stock) (w : ℕ) → StepsFurther m n w → used_of r n (mark ∷ past) stock w ≤ used_of r m past stock w
used-steps Marks m n past mark stock w h = omega (arith, h.left)
used-steps Descriptors m n past mark stock w h = omega (arith, h.taken)
used-steps Slots m n past mark stock w h = omega arith

-- one without effect
pub quiet-in : PaidLaws → (c : Config) (m n : SwapMemory) (past : List Mark) (mark : Mark) (stock : Stock) (w : ℕ) (e : Errand) (t : AnyTask) (untold : ℕ) (p : Past) (s : Scene) → IsScene s → IsNext 0 p s.past → stepper (mark ∷ past) ≡ Some w → StepsFurther m n w
    → rivals n w ≤ rivals m w → IsPaidIn c m past stock w e t untold no_extra p → IsPaidIn c n (mark ∷ past) stock w e t untold no_extra s.past
quiet-in b c m n past mark stock w e t untold p s good next steps further few h r counted =
    subst (λ by. IsPaid r n w e t untold 0 (used_of r n (mark ∷ past) stock w) by s.past) (sym (bound-on r c w mark past steps))
    (b.quiet r m n w e t untold (used_of r m past stock w) (used_of r n (mark ∷ past) stock w) (bound_of r c past w) p s good next (record { less = used-steps r m n past mark stock w further; rivals = few }) (h r (counted-on r c w mark past steps counted)))

-- one at which another's swap takes effect
pub foreign-in : PaidLaws → (c : Config) (m n : SwapMemory) (past : List Mark) (mark : Mark) (stock : Stock) (w : ℕ) (e : Errand) (t : AnyTask) (untold : ℕ) (p q : Past) → IsNext 1 p q → stepper (mark ∷ past) ≡ Some w → StepsFurther m n w
    → rivals n w + 1 ≤ rivals m w → IsPaidIn c m past stock w e t untold no_extra p → IsPaidIn c n (mark ∷ past) stock w e t untold one_mark q
foreign-in b c m n past mark stock w e t untold p q next steps further gone h r counted =
    subst (λ by. IsPaid r n w e t untold (one_mark r) (used_of r n (mark ∷ past) stock w) by q) (sym (bound-on r c w mark past steps))
    (b.foreign r m n w e t untold (used_of r m past stock w) (used_of r n (mark ∷ past) stock w) (bound_of r c past w) p q next (used-steps r m n past mark stock w further) gone (h r (counted-on r c w mark past steps counted)))

-- one at which its own does
pub own-in : PaidLaws → (c : Config) (m n : SwapMemory) (past : List Mark) (mark : Mark) (stock : Stock) (w : ℕ) (e : Errand) (t : AnyTask) (entries : List Entry) (s : Scene) (y : Instant) (q : Past) → IsOwnEffect t s entries y → IsServing e t s.past → words_asked e.call ≤ LEAF_RECORD_WORDS + 1
    → IsNext 1 s.past q → q.at q.now ≡ y → stepper (mark ∷ past) ≡ Some w → StepsFurther m n w → rivals n w ≤ rivals m w → IsPaidIn c m past stock w e t 0 no_extra s.past
    → IsPaidIn c n (mark ∷ past) stock w (effected_by (publishing_of t) e) t 1 (λ r. mark_of_effect r (publishing_of t)) q
own-in b c m n past mark stock w e t entries s y q own serves words next at steps further few h r counted =
    subst (λ by. IsPaid r n w (effected_by (publishing_of t) e) t 1 (mark_of_effect r (publishing_of t)) (used_of r n (mark ∷ past) stock w) by q) (sym (bound-on r c w mark past steps))
    (b.own r m n w e t entries (used_of r m past stock w) (used_of r n (mark ∷ past) stock w) (bound_of r c past w) s y q own serves words next at (record { less = used-steps r m n past mark stock w further; rivals = few }) (h r (counted-on r c w mark past steps counted)))

-- the mark of an effect
used-marked : (r : Resource) (m : SwapMemory) (past : List Mark) (mark : Mark) (stock : Stock) (w : ℕ) → used_of r m (mark ∷ past) stock w ≤ used_of r m past stock w + one_mark r
used-marked Marks m past mark stock w = omega arith
used-marked Descriptors m past mark stock w = omega arith
used-marked Slots m past mark stock w = omega arith

pub marks-in : PaidLaws → (c : Config) (m : SwapMemory) (past : List Mark) (mark : Mark) (stock : Stock) (w : ℕ) (e : Errand) (t : AnyTask) (untold : ℕ) (p : Past) (s : Scene) → IsScene s → IsNext 0 p s.past → stepper (mark ∷ past) ≡ Some w
    → IsPaidIn c m past stock w e t untold one_mark p → IsPaidIn c m (mark ∷ past) stock w e t untold no_extra s.past
marks-in b c m past mark stock w e t untold p s good next steps h r counted =
    subst (λ by. IsPaid r m w e t untold 0 (used_of r m (mark ∷ past) stock w) by s.past) (sym (bound-on r c w mark past steps))
    (b.marks r m w e t untold (used_of r m past stock w) (used_of r m (mark ∷ past) stock w) (bound_of r c past w) p s good next (used-marked r m past mark stock w) (h r (counted-on r c w mark past steps counted)))

pub less-in : PaidLaws → (c : Config) (m : SwapMemory) (past : List Mark) (stock : Stock) (w : ℕ) (e : Errand) (t : AnyTask) (untold : ℕ) (extra : Resource → ℕ) (p : Past) → IsPaidIn c m past stock w e t untold extra p → IsPaidIn c m past stock w e t untold no_extra p
less-in b c m past stock w e t untold extra p h r counted = b.less r m w e t untold (extra r) 0 (used_of r m past stock w) (bound_of r c past w) p (none (extra r)) (h r counted)
  where
    none : (n : ℕ) → 0 ≤ n
    none n = omega arith

-- an end starts nothing
pub finished-in : (c : Config) (m : SwapMemory) (past : List Mark) (stock : Stock) (w : ℕ) (e : Errand) (t : AnyTask) (untold : ℕ) (p : Past) → IsPaidIn c m past stock w e t untold (λ r. start_takes r Finish) p → IsPaidIn c m past stock w e t untold no_extra p
finished-in c m past stock w e t untold p h r counted = subst (λ n. IsPaid r m w e t untold n (used_of r m past stock w) (bound_of r c past w) p) (none r) (h r counted)
  where
    none : (r : Resource) → start_takes r Finish ≡ 0
    none Marks = refl
    none Descriptors = refl
    none Slots = refl

pub finished-for : (p : Parts) (w : ℕ) (x : OpenCall) (past : Past) → IsPaidFor p w x 0 (λ r. start_takes r Finish) past → IsPaidFor p w x 0 no_extra past
finished-for p w x past h = finished-in p.config p.access p.journal.past (stock_of p) w (errand_of x) x.task 0 past h

-- a start: of steps so many more are allowed, and of descriptors one more is taken where it is one of a swap
pub record StartsNearby (m n : SwapMemory) (w : ℕ) (todo : Todo) : Type 0 where
  pub left : left_to n w ≤ left_to m w + start_allows todo
  pub taken : n.taken ≤ m.taken + swaps_in (Some todo)
  pub rivals : rivals n w ≡ rivals m w

used-started : (r : Resource) (m n : SwapMemory) (past : List Mark) (stock : Stock) (w : ℕ) (todo : Todo) → StartsNearby m n w todo → used_of r n past stock w ≤ used_of r m past stock w + start_takes r todo
used-started Marks m n past stock w todo h = omega (arith, h.left)
used-started Descriptors m n past stock w todo h = omega (arith, h.taken)
used-started Slots m n past stock w todo h = omega arith

pub starts-in : PaidLaws → (c : Config) (m n : SwapMemory) (past : List Mark) (stock : Stock) (w : ℕ) (e : Errand) (t : AnyTask) (untold : ℕ) (todo : Todo) (p : Past) → StartsNearby m n w todo → IsPaidIn c m past stock w e t untold (λ r. start_takes r todo) p
    → IsPaidIn c n past stock w e t untold no_extra p
starts-in b c m n past stock w e t untold todo p near h r counted =
    b.starts r m n w e t untold (used_of r m past stock w) (used_of r n past stock w) (bound_of r c past w) todo p (used-started r m n past stock w todo near) near.rivals (h r counted)

-- what its task is told, which may have taken slots
used-heard : (r : Resource) (m : SwapMemory) (past : List Mark) (free left : FreeSlots) (stock : Stock) (w : ℕ) → stock.left ≡ length free.free → used_of r m past (record stock { left = length left.free }) w ≤ used_of r m past stock w + slots_gone r free left
used-heard Marks m past free left stock w is = omega arith
used-heard Descriptors m past free left stock w is = omega arith
used-heard Slots m past free left stock w is = omega (arith, is)

pub heard-in : PaidLaws → (c : Config) (m : SwapMemory) (past : List Mark) (stock : Stock) (w : ℕ) (e : Errand) (old new : AnyTask) (seen : Seen) (moment : ℕ) (free left : FreeSlots) (todo : Todo) (p : Past) → stock.left ≡ length free.free → HasHeard old seen moment free todo new left
    → AreLaws old → AreLaws new → Hears (asks_of old) seen → (IsUndisturbed (made_of old + effects_in seen) p → end_of new ≢ Some Restart) → IsPaidIn c m past stock w e old (effects_in seen) no_extra p
    → IsPaidIn c m past (record stock { left = length left.free }) w e new 0 (λ r. start_takes r todo) p
heard-in b c m past stock w e old new seen moment free left todo p is heard before now hears stands h r counted =
    b.heard r m w e old new seen moment free left todo (used_of r m past stock w) (used_of r m past (record stock { left = length left.free }) w) (bound_of r c past w) p heard before now hears stands (used-heard r m past free left stock w is) (h r counted)

-- so no more is used than may be, and a mark is left for the end of its call
pub room-of : RoundLaws → (p : Parts) (w : ℕ) (x : OpenCall) (untold : ℕ) (extra : Resource → ℕ) (past : Past) → IsPaidFor p w x untold extra past → HasRoomForEnd p w
room-of b p w x untold extra past h r counted = drops (used_in r p w) (extra r + weigh r x.task) (one_mark r) (bound_in r p w) (b.afforded r p.access w (errand_of x) x.task untold (extra r) (used_in r p w) (bound_in r p w) past (h r counted))
  where
    drops : (used more mark by : ℕ) → used + more + mark ≤ by → used + mark ≤ by
    drops used more mark by l = omega (arith, l)

-- a worker whose run follows directly the begin of its call is one of which that is known
pub whole-runs : (c : Config) (w : ℕ) (past : List Mark) → RunsWhole c w past → runner c past ≡ Some w
whole-runs c w past whole = elim (steps-or w (runner c past)) [ inl is ↦ is | inr ne ↦ absurd (not-whole c w past ne whole) ]

-- and its call has taken no more than is promised for it
pub keeps-supply : (p : Parts) (w : ℕ) → HasRoomForEnd p w → RunsWhole p.config w p.journal.past → KeepsSupply (begun_with p) (supply_of p)
keeps-supply p w room whole = record { swaps = descriptors (room Descriptors whole); slots = slots (room Slots whole) }
  where
    descriptors : p.access.taken - p.taken_then + 0 ≤ SWAPS_PER_CALL → p.access.taken ≤ p.taken_then + SWAPS_PER_CALL
    descriptors l = omega (arith, l)

    slots : p.left_then - length p.slots.free + 0 ≤ SLOTS_PER_CALL → p.left_then ≤ length p.slots.free + SLOTS_PER_CALL
    slots l = omega (arith, l)

-- as long as that is served
pub kept-supply : (p : Parts) (k : IsAwake p) (w : ℕ) (x : OpenCall) → get_or p.workers.items w None ≡ Some x → RunsWhole p.config w p.journal.past → KeepsSupply (begun_with p) (supply_of p)
kept-supply p k w x is whole = keeps-supply p w room whole
  where
    s : Serves p.config p.access p.journal k.story p.owners.items (stock_of p) w x
    s = subst (IsSlot p.config p.access p.journal k.story p.owners.items (stock_of p) w) is (k.workers w)

    room : HasRoomForEnd p w
    room r counted = affords-room r p.access w (errand_of x) (used_in r p w) (bound_in r p w) _ (s.paid (whole-runs p.config w p.journal.past whole) r counted).affords
