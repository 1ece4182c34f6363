-- What an open call has left, over an act of its worker or an eviction: it falls by what that costs, and by the mark of an effect.
use Rattle.std.proofs.Common.{◌≡◌, ◌≢◌, ◌≤◌, ◌<◌, ◌+◌, ◌*◌, inl, inr, not, ℕ, Bool, false, List, length, get_or, refl, sym, ap, subst, ◌∙◌, arith, Option, Some, None}
use Rattle.std.specs.Prelude.{slice_set}
use Rattle.std.proofs.lemmas.Bool.{cases_eq, ne_eqb}
use Rattle.bz_swap_acts.specs.declared.acted.Act.{Act}
use Rattle.bz_swap_machine.specs.Allowed.{counted}
use Rattle.bz_swap_machine.specs.declared.done.Done.{Done}
use Rattle.bz_rivals.specs.Rivals.{foreign, is_own, rivals}
use Rattle.bz_rivals.proofs.Proved.{rivals_fall}
use Rattle.bz_swap.specs.Effects.{TakesEffect}
use Rattle.bz_swap.specs.Evictions.{IsEviction}
use Rattle.bz_swap.specs.Solo.{left_to}
use Rattle.bz_swap.specs.Steps.{IsStep}
use Rattle.bz_swap.specs.SwapMemory.{SwapMemory, Doing, Swapping, has_effect, doing_of}
use Rattle.bz_swap.specs.declared.phase.Phase.TheVariants.{Recovering}
use Rattle.bz_swap.proofs.Proved.{solo_steps_are_allowed}
use Rattle.bz_ring.specs.Calls.{open_call}
use Rattle.bz_ring.specs.declared.calls.QCall.{QCall}
use Rattle.bz_ring.specs.declared.marks.QMark.{QMark}
use Rattle.bz_ring.specs.declared.ring.Ring.{Ring}
use Rattle.bz_change.specs.Values.{SameValues, IsChanged, IsSwapOf}
use Rattle.bz_queue.specs.Inside.Acted.{HasMarked}
use Rattle.bz_queue.specs.Inside.Kept.{IsAwake}
use Rattle.bz_queue.specs.Inside.Left.{for_place, for_round, left_of, marks_left, own_left, rounds_left, starts_left}
use Rattle.bz_queue.specs.Inside.Serving.{IsServed, with_moment}
use Rattle.bz_queue.specs.declared.parts.Parts.{Parts}
use Rattle.bz_queue.specs.declared.serving.OpenCall.{OpenCall}
use Rattle.bz_queue.proofs.Acting.{IsServing, is-serving}
use Rattle.bz_queue.proofs.Moved.{foreign-rounds, own-none, own-rounds}
use Rattle.bz_queue.proofs.Rounds.{LeavesSwaps, step-leaves, eviction-leaves, quiet-rounds}
use Rattle.bz_queue.proofs.Went.{set-here, set-other}

-- the sum, part by part
sum-less : (l l' k k' v v' o o' cost marks : ℕ) → l' + cost ≤ l → k' ≤ k → v' + o' + marks ≤ v + o → (l' + k' + v' + o' + 1) + (cost + marks) ≤ l + k + v + o + 1
sum-less l l' k k' v v' o o' cost marks one two three = omega arith

rounds-cost : (p n n' : ℕ) → n' ≤ n → p + for_round * n' ≤ p + for_round * n
rounds-cost p n n' le = omega arith

is-foreign : (d : Doing) (s : ℕ) → (d ≡ Swapping s → ⊥) → is_own d s ≡ false
is-foreign (Swapping t) s other = ne_eqb t s (λ same. other (ap Swapping same))
is-foreign d s other = refl

-- so much of what the swap memory allows a worker is spent, and its rivals are no more, and with a foreign effect one fewer
pub record Spends (old new : SwapMemory) (w cost : ℕ) (told : Option ℕ) : Type 0 where
  pub leaves : LeavesSwaps old new w
  pub allowed : left_to new w + cost ≤ left_to old w
  pub fewer : rivals new w + foreign old w told ≤ rivals old w

pub step-spends : (old new : SwapMemory) (w : ℕ) (made : Act) (ended : Done) (told : Option ℕ) → IsStep old w made ended told new → Spends old new w 1 told
step-spends old new w made ended told step = record {
  leaves = step-leaves old new w made ended told step;
  allowed = omega (arith, step.one.spent);
  fewer = rivals_fall.step old new w made ended told step;
}

pub eviction-spends : (old new : SwapMemory) (w a : ℕ) (told : Option ℕ) → old.phase ≢ Recovering → IsEviction old a told new → Spends old new w 0 told
eviction-spends old new w a told calm e = record {
  leaves = eviction-leaves old new w a told calm e;
  allowed = omega (arith, solo_steps_are_allowed.eviction old new w a told e);
  fewer = rivals_fall.eviction old new w a told calm e;
}

-- without an effect
pub quiet-left : (r : Ring) (old new : SwapMemory) (past : List QMark) (owners : List ℕ) (crew w cost : ℕ) (x : OpenCall) → Spends old new w cost None → ((s : ℕ) → has_effect new s ≡ has_effect old s) → SameValues old new → IsServed r old past owners crew w x
    → left_of new w (Some x) + cost ≤ left_of old w (Some x)
quiet-left r old new past owners crew w cost x spends none same served =
    let whole = sum-less (left_to old w) (left_to new w) (starts_left old w x.call x.effect x.place) (starts_left new w x.call x.effect x.place) (rivals old w) (rivals new w) (own_left x.effect) (own_left x.effect) cost 0 spends.allowed
    (rounds-cost (for_place x.place) (rounds_left old w x.call x.effect x.place) (rounds_left new w x.call x.effect x.place)
    (quiet-rounds r old new past owners w spends.leaves none same x.call served.opened.begun x.effect x.place served.place))
    (omega (arith, spends.fewer)) in
    omega (arith, whole)

-- where a swap has had its effect, which was marked
module _ (old mid new : Parts) (w cost s : ℕ) (k : IsAwake old) (open_is : open_call w old.journal.past ≢ None) (spends : Spends old.access mid.access w cost (Some s)) (takes : TakesEffect old.access mid.access s)
    (changed : (called : QCall) (counter word : ℕ) → IsSwapOf old.numbers.ring old.access s called counter word → IsChanged old.numbers.ring old.access mid.access called counter word)
    (still : (v : ℕ) → doing_of mid.access v ≡ doing_of old.access v) (slots-same : mid.workers.items ≡ old.workers.items) (marked : HasMarked mid s new) (access : new.access ≡ mid.access) where
  abbrev served-by : IsServing old.numbers.ring old.access old.journal.past old.owners.items old.numbers.workers w (get_or old.workers.items w None)
  served-by = is-serving old.numbers.ring old.access old.journal.past old.owners.items old.numbers.workers w (get_or old.workers.items w None) open_is (k.slots w)

  abbrev y : OpenCall
  y = served-by.x

  -- the effect is of the call that is marked
  same-worker : takes.worker ≡ marked.v
  same-worker = k.memory.owned.one takes.worker marked.v s takes.pending (sym (still marked.v) ∙ marked.doing)

  -- what is left before and after, of its call before and after
  fewer : (z : OpenCall) → get_or new.workers.items w None ≡ Some z → left_of mid.access w (Some z) + (cost + 1) ≤ left_of old.access w (Some y) → marks_left new w + (cost + 1) ≤ marks_left old w
  fewer z is less =
      let now : marks_left new w ≡ left_of mid.access w (Some z) = ap (λ (m : SwapMemory). left_of m w (get_or new.workers.items w None)) access ∙ ap (left_of mid.access w) is in
      let before : marks_left old w ≡ left_of old.access w (Some y) = ap (left_of old.access w) served-by.is in
      omega (arith, now, before, less)

  -- another's call
  foreign-left : takes.worker ≢ w → left_of mid.access w (Some y) + (cost + 1) ≤ left_of old.access w (Some y)
  foreign-left other =
      let not_own : is_own (doing_of old.access w) s ≡ false = is-foreign (doing_of old.access w) s (λ own. other (k.memory.owned.one takes.worker w s takes.pending own)) in
      let fall : rivals mid.access w + counted (not false) 1 ≤ rivals old.access w = subst (λ (b : Bool). rivals mid.access w + counted (not b) 1 ≤ rivals old.access w) not_own spends.fewer in
      sum-less (left_to old.access w) (left_to mid.access w) (starts_left old.access w y.call y.effect y.place) (starts_left mid.access w y.call y.effect y.place)
      (rivals old.access w) (rivals mid.access w) (own_left y.effect) (own_left y.effect) cost 1 spends.allowed
      (rounds-cost (for_place y.place) (rounds_left old.access w y.call y.effect y.place) (rounds_left mid.access w y.call y.effect y.place)
      (foreign-rounds old.numbers.ring old.access mid.access old.journal.past old.owners.items old.numbers.workers w s spends.leaves takes k.tabled.swaps (λ u. get_or old.workers.items u None) k.slots k.memory.owned.one changed
      other y.call served-by.served.opened.begun y.effect y.place served-by.served.place))
      (omega (arith, fall))

  foreign-fewer : takes.worker ≢ w → marks_left new w + (cost + 1) ≤ marks_left old w
  foreign-fewer other =
      fewer y
      (ap (λ (all : List (Option OpenCall)). get_or all w None) marked.table ∙ set-other mid.workers.items marked.v w (Some (with_moment (length mid.journal.past) marked.x)) None (λ same. other (same-worker ∙ sym same))
      ∙ ap (λ (all : List (Option OpenCall)). get_or all w None) slots-same ∙ served-by.is)
      (foreign-left other)

  -- its own
  module _ (same : takes.worker ≡ w) where
    is-here : get_or old.workers.items takes.worker None ≡ Some y
    is-here = ap (λ (v : ℕ). get_or old.workers.items v None) same ∙ served-by.is

    abbrev moment : ℕ
    moment = length mid.journal.past

    no-rounds : rounds_left mid.access w y.call (Some moment) y.place ≡ 0
    no-rounds = own-rounds old.numbers.ring old.access mid.access old.journal.past old.owners.items old.numbers.workers w s spends.leaves takes k.tabled.swaps (λ u. get_or old.workers.items u None) k.slots k.memory.owned.one changed y is-here moment

    none-before : y.effect ≡ None
    none-before = own-none old.numbers.ring old.access mid.access old.journal.past old.owners.items old.numbers.workers w s spends.leaves takes k.tabled.swaps (λ u. get_or old.workers.items u None) k.slots k.memory.owned.one changed y is-here

    starts-fewer : starts_left mid.access w y.call (Some moment) y.place ≤ starts_left old.access w y.call y.effect y.place
    starts-fewer = rounds-cost (for_place y.place) (rounds_left old.access w y.call y.effect y.place) (rounds_left mid.access w y.call (Some moment) y.place) (omega (arith, no-rounds))

    own-less : left_of mid.access w (Some (with_moment moment y)) + (cost + 1) ≤ left_of old.access w (Some y)
    own-less = sum-less (left_to old.access w) (left_to mid.access w) (starts_left old.access w y.call y.effect y.place) (starts_left mid.access w y.call (Some moment) y.place)
        (rivals old.access w) (rivals mid.access w) (own_left y.effect) 0 cost 1 spends.allowed starts-fewer
        (omega (arith, spends.fewer, ap own_left none-before))

    here : marked.v ≡ w
    here = sym same-worker ∙ same

    the-call : marked.x ≡ y
    the-call = (
        let both : Some marked.x ≡ Some y = sym marked.was ∙ ap (λ (v : ℕ). get_or mid.workers.items v None) here ∙ ap (λ (all : List (Option OpenCall)). get_or all w None) slots-same ∙ served-by.is in
        cc)

    inside : w < length mid.workers.items
    inside = omega (arith, served-by.served.opened.within, k.tabled.places, k.tabled.numbers.workers.at_most, ap length slots-same)

    own-fewer : marks_left new w + (cost + 1) ≤ marks_left old w
    own-fewer =
        fewer (with_moment moment y)
        (ap (λ (all : List (Option OpenCall)). get_or all w None) marked.table ∙ ap (λ (v : ℕ). get_or (slice_set mid.workers.items v (Some (with_moment moment marked.x))) w None) here
        ∙ set-here mid.workers.items w (Some (with_moment moment marked.x)) None inside ∙ ap (λ (z : OpenCall). let it : Option OpenCall = Some (with_moment moment z) in it) the-call)
        own-less

  pub struck-left : marks_left new w + (cost + 1) ≤ marks_left old w
  struck-left = elim (cases_eq takes.worker w) [
    | inl same ↦ own-fewer same
    | inr other ↦ foreign-fewer other
  ]
