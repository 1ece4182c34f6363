-- While the power is on and no call is open, a world tells of descriptors and slots what its journal shows.
use Rattle.std.proofs.Common.{◌≡◌, ℕ, zero, suc, ◌+◌, ◌<◌, ◌≤◌, Bool, true, false, List, length, arith, sym, ap, ◌∙◌, inl, inr, Option, Some, None}
use Rattle.std.specs.Prelude.{count_by, filter, get_or}
use Rattle.std.specs.List.{range_with_len}
use Rattle.std.proofs.lemmas.Bool.{false_from_ne_true, or_from, or_left, or_right, true_from_ne_false, true≢false}
use Rattle.std.proofs.lemmas.List.Sums.{length-filter}
use Rattle.bz_layout.specs.Slots.{FreeSlots, IsInOrder}
use Rattle.bz_layout.specs.declared.config.Config.{Config}
use Rattle.bz_mark.specs.declared.marks.Mark.{Mark}
use Rattle.bz_tree.specs.Walk.{is_among}
use Rattle.bz_mark.specs.Counts.{is_taken, count_taken}
use Rattle.bz_sound.specs.Memory.Spent.{is_stored_into, is_reached_in}
use Rattle.bz_sound.specs.Power.Spent.{is_used, count_used}
use Rattle.bz_mark.specs.Times.{since_on}
use Rattle.bz_sound.specs.Power.Times.{image_at_on}
use Rattle.bz_mark.specs.declared.power.Power.TheVariants as power
use Rattle.bz_swap.specs.SwapMemory.{Idle, Swapping}
use Rattle.bz_swap.specs.TakenStatuses.{IsTaken}
use Rattle.bz_world.specs.Inside.Beginning.{world_view}
use Rattle.bz_world.specs.Inside.Kept.{AreFree, AreTaken, IsAwake, IsKept}
use Rattle.bz_world.specs.Inside.Paid.{stock_of}
use Rattle.bz_world.specs.Inside.Serving.{IsAtRest, IsSlot}
use Rattle.bz_world.specs.Taken.{NoneOpen, TellsAsShown}
use Rattle.bz_world.specs.WorldView.{Supply}
use Rattle.bz_world.specs.declared.parts.Parts.{Parts}
use Rattle.bz_world.specs.declared.serving.OpenCall.{OpenCall}
use Rattle.bz_world.proofs.LeftSlots.{count-left, count-more}
use Rattle.bz_world.proofs.Powered.{awake-in}
use Rattle.bz_world.proofs.Supplies.{shown-on}

-- where the first numbers of a range pass and no others, so many do
front-passes : (f : ℕ → Bool) (a n t : ℕ) → t ≤ n → ((s : ℕ) → a ≤ s → s < a + t → f s ≡ true) → ((s : ℕ) → a + t ≤ s → s < a + n → f s ≡ false) → length (filter f (range_with_len a n)) ≡ t
front-passes f a zero t few passes fails = omega (arith, few)
front-passes f a (suc n) zero few passes fails = rw (fails a (omega arith) (omega arith)) (front-passes f (a + 1) n 0 (omega arith) (λ s from below. absurd (omega (arith, from, below))) (λ s from below. fails s (omega (arith, from)) (omega (arith, below))))
front-passes f a (suc n) (suc t) few passes fails =
    let rest : length (filter f (range_with_len (a + 1) n)) ≡ t = front-passes f (a + 1) n t (omega (arith, few)) (λ s from below. passes s (omega (arith, from)) (omega (arith, below))) (λ s from below. fails s (omega (arith, from)) (omega (arith, below))) in
    rw (passes a (omega arith) (omega arith)) (ap suc rest)

count-front : (f : ℕ → Bool) (n t : ℕ) → t ≤ n → ((s : ℕ) → s < t → f s ≡ true) → ((s : ℕ) → t ≤ s → s < n → f s ≡ false) → count_by f (range_with_len 0 n) ≡ t
count-front f n t few passes fails =
    sym (length-filter f (range_with_len 0 n)) ∙ front-passes f 0 n t few (λ s from below. passes s (omega (arith, below))) (λ s from below. fails s (omega (arith, from)) (omega (arith, below)))

-- where no descriptor that is taken has the status free, they are those that are shown begun
module _ (p : Parts) (t : AreTaken p) (held : (s : ℕ) → s < p.access.taken → IsTaken p.access s) where
  not-begun : (s : ℕ) → p.access.taken ≤ s → s < p.config.swaps → is_taken s (since_on p.journal.past) ≡ false
  not-begun s from below = false_from_ne_true (is_taken s (since_on p.journal.past)) (λ seen. absurd (omega (arith, t.only s below seen, from)))

  pub as-taken : p.access.taken ≡ count_taken p.config (since_on p.journal.past)
  as-taken = sym (count-front (λ swap. is_taken swap (since_on p.journal.past)) p.config.swaps p.access.taken t.few (λ s few. t.shown s (omega (arith, few, t.few)) (held s few)) not-begun)

-- where a store went into each slot that a worker took, each that is not free is shown used
module _ (c : Config) (start : List ℕ) (past : List Mark) (slots : FreeSlots) (took : ℕ → ℕ → Bool) (f : AreFree c (image_at_on start past) slots took) (stored : (v j : ℕ) → took v j ≡ true → is_stored_into c j (since_on past) ≡ true) where
  used : (j : ℕ) → j < c.nodes → is_among slots.free j ≡ false → is_used c start past j ≡ true
  used j below held = elim (f.others j below held) [
    | inl reached ↦ or_left (is_reached_in c (image_at_on start past) j) (is_stored_into c j (since_on past)) reached
    | inr some ↦ or_right (is_reached_in c (image_at_on start past) j) (is_stored_into c j (since_on past)) (stored some.0 j some.1)
  ]

  pub none-lost : c.nodes ≤ length slots.free + count_used c start past
  none-lost = count-more (λ slot. is_used c start past slot) c.nodes slots.free used

  -- and the free ones are those that are not, where none of them was stored into
  free : (j : ℕ) → j < c.nodes → is_used c start past j ≡ false → is_among slots.free j ≡ true
  free j below unused = true_from_ne_false (is_among slots.free j) (λ held. true≢false (sym (used j below held) ∙ unused))

  pub as-left : ((j : ℕ) → is_among slots.free j ≡ true → is_stored_into c j (since_on past) ≡ false) → IsInOrder slots → length slots.free + count_used c start past ≡ c.nodes
  as-left unstored order = count-left (λ slot. is_used c start past slot) 0 c.nodes slots.free (record {
    rising = order.rising;
    from = λ j h. omega arith;
    below = λ j h. omega (arith, f.within j h);
    fails = λ j h. or_from (is_reached_in c (image_at_on start past) j) (is_stored_into c j (since_on past)) (f.fresh j h) (unstored j h);
    all = λ j from below fails. free j (omega (arith, below)) fails;
  })

-- so it is while no call is open
module _ (p : Parts) (k : IsAwake p) (none : NoneOpen p.journal.past) where
  -- as every worker is at rest
  rest : (v : ℕ) → IsAtRest p.access p.journal k.story v
  rest v = by (get_or p.workers.items v None) (k.workers v)
    where
      by : (slot : Option OpenCall) → IsSlot p.config p.access p.journal k.story p.owners.items (stock_of p) v slot → IsAtRest p.access p.journal k.story v
      by None r = r
      by (Some x) s = absurd (let never : None ≡ Some s.opened = sym (none v) ∙ s.call_open.is_open in cc never)

  all-begun : (s : ℕ) → s < p.access.taken → IsTaken p.access s
  all-begun s few = elim (k.taken.held s few) [
    | inl doing ↦ absurd (let never : Idle ≡ Swapping s = sym (rest doing.0).idle ∙ doing.1 in cc never)
    | inr taken ↦ taken
  ]

  all-stored : (v j : ℕ) → k.story.took v j ≡ true → is_stored_into p.config j (since_on p.journal.past) ≡ true
  all-stored v j took = k.living.stored v j ((rest v).filled j took)

pub tells-as-shown : (p : Parts) → IsKept p → IsInOrder p.slots → TellsAsShown (world_view p)
tells-as-shown p k order on none =
    let is : p.power ≡ power.On = sym k.tabled.power ∙ on in
    let awake : IsAwake p = awake-in p k is in
    record {
      taken = ap (λ (s : Supply). s.taken) (shown-on p is) ∙ as-taken p awake.taken (all-begun p awake none);
      left = ap (λ (n : ℕ). n + count_used p.config p.journal.start p.journal.past) (ap (λ (s : Supply). s.left) (shown-on p is))
          ∙ as-left p.config p.journal.start p.journal.past p.slots awake.story.took awake.free (all-stored p awake none) awake.taken.unstored order;
    }
