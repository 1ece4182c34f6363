-- What an act without effect leads to: all is as it was, or the worker's read or swap has answered.
use Rattle.std.proofs.Common.{◌≡◌, ◌≢◌, ◌≤◌, inl, inr, ℕ, Bool, true, false, List, [], ◌∷◌, get_or, refl, sym, ap, subst, ◌∙◌, arith, Option, Some, None}
use Rattle.bz_swap_acts.specs.declared.acted.Act.{Act}
use Rattle.bz_swap_cells.specs.Store.{IsOutside}
use Rattle.bz_swap_machine.specs.declared.done.Done.{Done}
use Rattle.bz_swap_machine.specs.declared.done.Done.TheVariants as done
use Rattle.bz_swap.specs.Held.{IsHeld}
use Rattle.bz_swap.specs.Steps.{IsStep, IsAnswer, doing_after}
use Rattle.bz_swap.specs.SwapMemory.{SwapMemory, Doing, Working, Idle, Reading, Swapping, value_at, doing_of}
use Rattle.bz_word.specs.declared.entry.Entry.{Entry}
use Rattle.bz_ring.specs.declared.calls.QCall.{QCall}
use Rattle.bz_ring.specs.declared.calls.QCall.TheVariants as call
use Rattle.bz_ring.specs.declared.marks.QMark.{QMark}
use Rattle.bz_ring.specs.declared.marks.QMark.TheVariants.{Memory}
use Rattle.bz_ring.specs.declared.ring.Ring.{Ring}
use Rattle.bz_ring.specs.declared.ring.TheConstants.{HEAD_AT, TAIL_AT}
use Rattle.bz_ring.specs.Calls.{open_call}
use Rattle.bz_ring.specs.Content.{cell_of}
use Rattle.bz_ring.specs.Growth.{Happens}
use Rattle.bz_ring.specs.Journal.{QLog, with_mark, memory_of}
use Rattle.bz_ring.specs.Replies.{IsAfterLoad}
use Rattle.bz_ring.specs.Sound.{IsSound, Decodes}
use Rattle.bz_ring.proofs.EachMoment.{at_moment-earlier}
use Rattle.bz_ring.proofs.Proved.{sound_journals_grow, other_words_do_not_matter}
use Rattle.bz_change.specs.Changes as change
use Rattle.bz_change.specs.Values.{SameValues, StoresNothing}
use Rattle.bz_change.proofs.Proved.{reads_tell}
use Rattle.bz_swap_marks.specs.Marks.{mark_of}
use Rattle.bz_queue.specs.Inside.Going.{HasRead, HasReadAt, HasSwapped, HasSwappedAt, IsAnswered}
use Rattle.bz_queue.specs.Inside.Kept.{IsMemory}
use Rattle.bz_queue.specs.Inside.Serving.{counter_now, IsChanged, IsReading, IsAt, IsOpened, IsServed, IsSlot}
use Rattle.bz_queue.specs.declared.serving.OpenCall.{OpenCall}
use Rattle.bz_queue.specs.declared.serving.Place.{Place}
use Rattle.bz_queue.specs.declared.serving.Place.TheVariants.{Counter, Cell, Again, Swap}
use Rattle.bz_queue.proofs.Contents.{holds-now, decodes-now}
use Rattle.bz_queue.proofs.Marks.{act-found, act-follows, act-plain, plain-calls}
use Rattle.bz_queue.proofs.Memories.{quiet-memory}
use Rattle.bz_queue.proofs.Slots.{Extends, Leaves, replies-stay, did-not-suit-still, opened-still}

-- a worker whose call is open reads or swaps
pub stores-nothing : (r : Ring) (m : SwapMemory) (past : List QMark) (owners : List ℕ) (w : ℕ) (called : QCall) (begun : ℕ) (effect : Option ℕ) (place : Place) → IsAt r m past owners w called begun effect place → StoresNothing m w
stores-nothing r m past owners w called begun effect Counter h a v is = cc (is, h.doing)
stores-nothing r m past owners w called begun effect (Cell counter) h a v is = cc (is, h.0.doing)
stores-nothing r m past owners w called begun effect (Again counter at) h a v is = cc (is, h.0.doing)
stores-nothing r m past owners w called begun effect (Swap counter word) h a v is = cc (is, h.doing)

pub busy-at : (r : Ring) (m : SwapMemory) (past : List QMark) (owners : List ℕ) (w : ℕ) (called : QCall) (begun : ℕ) (effect : Option ℕ) (place : Place) → IsAt r m past owners w called begun effect place → doing_of m w ≢ Idle
busy-at r m past owners w called begun effect Counter h is = cc (is, h.doing)
busy-at r m past owners w called begun effect (Cell counter) h is = cc (is, h.0.doing)
busy-at r m past owners w called begun effect (Again counter at) h is = cc (is, h.0.doing)
busy-at r m past owners w called begun effect (Swap counter word) h is = cc (is, h.doing)

-- a call that is served is open, and its worker may act
pub record IsServing (r : Ring) (m : SwapMemory) (past : List QMark) (owners : List ℕ) (crew w : ℕ) (slot : Option OpenCall) : Type 0 where
  pub x : OpenCall
  pub is : slot ≡ Some x
  pub served : IsServed r m past owners crew w x

pub is-serving : (r : Ring) (m : SwapMemory) (past : List QMark) (owners : List ℕ) (crew w : ℕ) (slot : Option OpenCall) → open_call w past ≢ None → IsSlot r m past owners crew w slot → IsServing r m past owners crew w slot
is-serving r m past owners crew w None open_is h = absurd (open_is h.none)
is-serving r m past owners crew w (Some x) open_is h = record { x = x; is = refl; served = h }

counter-outside : (swaps : ℕ) (called : QCall) → IsOutside swaps (change.counter_of called)
counter-outside swaps (call.Put item) = inl (omega arith)
counter-outside swaps call.Take = inl (omega arith)

module _ (r : Ring) (old new : SwapMemory) (log : QLog) (owners : List ℕ) (crew w : ℕ) (made : Act) (ended : Done) (swaps : old.swaps ≡ r.swaps) (k : IsMemory old log) (sound : IsSound r log.start log.past)
    (x : OpenCall) (h : IsServed r old log.past owners crew w x) (held : IsHeld new) (step : IsStep old w made ended None new) where
  abbrev acted : List QMark
  acted = Memory (mark_of w made) ∷ log.past

  none : StoresNothing old w
  none = stores-nothing r old log.past owners w x.call h.opened.begun x.effect x.place h.place

  pub quiet : IsMemory new (with_mark log (Memory (mark_of w made))) × SameValues old new
  quiet = quiet-memory old new log w made ended h.opened.worker k none held step

  pub quiet-sound : IsSound r log.start acted
  quiet-sound =
      let happens : Happens log.start log.past (mark_of w made) = record {
        may = act-follows log.past w made h.opened.worker (record { opened = _; is_open = h.opened.is_open });
        found = act-found w old new log.start (memory_of log.past) made k.words step.one.act.found step.one.within;
      } in
      let holds = holds-now r old log.start log.past k.words swaps sound.durable.0 in
      let after = other_words_do_not_matter r (value_at old) (value_at new) _ (quiet.1 HEAD_AT) (quiet.1 TAIL_AT) (λ counter. quiet.1 (cell_of r counter)) holds in
      let decodes : Decodes r log.start acted = decodes-now r new log.start acted quiet.0.words (step.one.others.swaps ∙ swaps) after in
      (sound_journals_grow r log.start log.past).quiet (mark_of w made) sound happens (decodes ∙ sym sound.durable.0)

  pub extends : Extends log.past acted
  extends = record { longer = omega arith; earlier = λ at within. at_moment-earlier at (Memory (mark_of w made)) log.past within }

  same-rises : (called : QCall) → counter_now old called ≤ counter_now new called
  same-rises called = let same : counter_now new called ≡ counter_now old called = quiet.1 (change.counter_of called) in omega arith

  pub quiet-leaves : (v : ℕ) → doing_of new v ≡ doing_of old v → Leaves old new log.past acted owners owners v
  quiet-leaves v doing = record {
    extends = extends;
    doing = doing;
    is_open = plain-calls v log.past (mark_of w made) (act-plain w made);
    numbers = refl;
    rises = same-rises;
    swap = λ s is. record { entries = ap (λ (all : List (List Entry)). get_or all s []) step.one.others.begun; effect = step.effect.swaps s; owner = refl };
  }

  pub others-do : (v : ℕ) → v ≢ w → doing_of new v ≡ doing_of old v
  others-do v other = ap (λ (it : Working). it.doing) (step.one.others.workers v other)

  abbrev pub still-opened : IsOpened acted crew w x
  still-opened = opened-still log.past acted crew w x extends (plain-calls w log.past (mark_of w made) (act-plain w made)) refl h.opened

  answer-at : (doing : Doing) → doing_of old w ≡ doing → IsAnswer new doing made ended
  answer-at doing is = subst (λ (it : Doing). IsAnswer new it made ended) is step.one.answer

  -- a read has answered
  has-read : (a v : ℕ) → ended ≡ done.Read v → IsOutside old.swaps a → IsReading old w a x.effect → (value_at new a ≡ v) × IsAfterLoad w acted
  has-read a v is outside reading =
      let step-read : IsStep old w made (done.Read v) None new = subst (λ (it : Done). IsStep old w made it None new) is step in
      let told = reads_tell old new w a v made None k.calm quiet.0.calm outside step-read reading.doing in
      (told.1, subst (λ (it : Act). IsAfterLoad w (Memory (mark_of w it) ∷ log.past)) (sym told.0) refl)

  cell-outside : (counter : ℕ) → IsOutside old.swaps (cell_of r counter)
  cell-outside counter = subst (λ (n : ℕ). IsOutside n (cell_of r counter)) (sym swaps) (inr (omega arith))

  -- the swap of a call that has had its effect was answered with true, and no other one
  swapped : (begun word s : ℕ) (won : Bool) (effect : Option ℕ) → ended ≡ done.Swapped won → doing_of old w ≡ Swapping s → IsChanged r old log.past x.call begun word s effect → HasSwapped r acted x.call begun word won effect
  swapped begun word s true None is doing changed =
      let answer = subst (λ (it : Done). IsAnswer new (Swapping s) made it) is (answer-at (Swapping s) doing) in
      absurd (let both : true ≡ false = sym answer ∙ step.effect.swaps s ∙ changed in cc)
  swapped begun word s true (Some at) is doing changed =
      ((changed.1.0, omega (arith, changed.1.1)), replies-stay r log.past acted x.call at (change.change_reply x.call word) extends (omega (arith, changed.1.1)) changed.2)
  swapped begun word s false None is doing changed = tt
  swapped begun word s false (Some at) is doing changed =
      let answer = subst (λ (it : Done). IsAnswer new (Swapping s) made it) is (answer-at (Swapping s) doing) in
      absurd (let both : true ≡ false = sym changed.0 ∙ sym (step.effect.swaps s) ∙ answer.0 in cc)

  read-hears : (a v begun : ℕ) → ended ≡ done.Read v → IsOutside old.swaps a → IsReading old w a x.effect → HasRead new acted w a v x.effect
  read-hears a v begun is outside reading = let told = has-read a v is outside reading in record { none = reading.none; value = told.0; plain = (subst (λ (it : Done). IsAnswer new (Reading a) made it) is (answer-at (Reading a) reading.doing)).plain; loaded = told.1 }

  -- a swap answers no read, and a read no swap
  not-read : (s v : ℕ) → ended ≡ done.Read v → doing_of old w ≡ Swapping s → ⊥
  not-read s v is doing = subst (λ (it : Done). IsAnswer new (Swapping s) made it) is (answer-at (Swapping s) doing)

  not-swapped : (a : ℕ) (won : Bool) → ended ≡ done.Swapped won → doing_of old w ≡ Reading a → ⊥
  not-swapped a won is doing = subst (λ (it : Done). IsAnswer new (Reading a) made it) is (answer-at (Reading a) doing)

  answered-read : (begun v : ℕ) (place : Place) → ended ≡ done.Read v → IsAt r old log.past owners w x.call begun x.effect place → HasReadAt r new acted w x.call begun v x.effect place
  answered-read begun v Counter is at = read-hears (change.counter_of x.call) v begun is (counter-outside old.swaps x.call) at
  answered-read begun v (Cell counter) is at = (read-hears (cell_of r counter) v begun is (cell-outside counter) at.0, (let rose : counter ≤ counter_now old x.call = at.1 in let rises = same-rises x.call in omega arith))
  answered-read begun v (Again counter moment) is at =
      (read-hears (change.counter_of x.call) v begun is (counter-outside old.swaps x.call) at.0, did-not-suit-still r old new log.past acted w x.call begun counter moment extends (same-rises x.call) at.1)
  answered-read begun v (Swap counter word) is at = not-read at.s v is at.doing

  answered-swap : (begun : ℕ) (won : Bool) (place : Place) → ended ≡ done.Swapped won → IsAt r old log.past owners w x.call begun x.effect place → HasSwappedAt r acted x.call begun won x.effect place
  answered-swap begun won Counter is at = not-swapped (change.counter_of x.call) won is at.doing
  answered-swap begun won (Cell counter) is at = not-swapped (cell_of r counter) won is at.0.doing
  answered-swap begun won (Again counter moment) is at = not-swapped (change.counter_of x.call) won is at.0.doing
  answered-swap begun won (Swap counter word) is at = swapped begun word at.s won x.effect is at.doing at.changed

  -- neither a store nor a flush was asked for
  not-stored : (place : Place) (begun : ℕ) → ended ≡ done.Stored → IsAt r old log.past owners w x.call begun x.effect place → ⊥
  not-stored Counter begun is at = subst (λ (it : Done). IsAnswer new (Reading (change.counter_of x.call)) made it) is (answer-at _ at.doing)
  not-stored (Cell counter) begun is at = subst (λ (it : Done). IsAnswer new (Reading (cell_of r counter)) made it) is (answer-at _ at.0.doing)
  not-stored (Again counter moment) begun is at = subst (λ (it : Done). IsAnswer new (Reading (change.counter_of x.call)) made it) is (answer-at _ at.0.doing)
  not-stored (Swap counter word) begun is at = subst (λ (it : Done). IsAnswer new (Swapping at.s) made it) is (answer-at _ at.doing)

  not-flushed : (place : Place) (begun : ℕ) → ended ≡ done.Flushed → IsAt r old log.past owners w x.call begun x.effect place → ⊥
  not-flushed Counter begun is at = subst (λ (it : Done). IsAnswer new (Reading (change.counter_of x.call)) made it) is (answer-at _ at.doing)
  not-flushed (Cell counter) begun is at = subst (λ (it : Done). IsAnswer new (Reading (cell_of r counter)) made it) is (answer-at _ at.0.doing)
  not-flushed (Again counter moment) begun is at = subst (λ (it : Done). IsAnswer new (Reading (change.counter_of x.call)) made it) is (answer-at _ at.0.doing)
  not-flushed (Swap counter word) begun is at = subst (λ (it : Done). IsAnswer new (Swapping at.s) made it) is (answer-at _ at.doing)

  -- what the call hears, where the act has ended something
  pub answered : (it : Done) → ended ≡ it → it ≢ done.Busy → IsAnswered r new acted w x h.opened.begun it
  answered done.Busy is other = absurd (other refl)
  answered (done.Read v) is other = answered-read h.opened.begun v x.place is h.place
  answered (done.Swapped won) is other = answered-swap h.opened.begun won x.place is h.place
  answered done.Stored is other = not-stored x.place h.opened.begun is h.place
  answered done.Flushed is other = not-flushed x.place h.opened.begun is h.place

  idle-after : (doing : Doing) (it : Done) → it ≢ done.Busy → doing_after doing it ≡ Idle
  idle-after doing done.Busy other = absurd (other refl)
  idle-after doing (done.Read v) other = refl
  idle-after doing (done.Swapped won) other = refl
  idle-after doing done.Stored other = refl
  idle-after doing done.Flushed other = refl

  pub now-idle : ended ≢ done.Busy → doing_of new w ≡ Idle
  now-idle other = step.one.doing ∙ idle-after (doing_of old w) ended other

  -- or goes on with what it does
  pub goes-on : ended ≡ done.Busy → doing_of new w ≡ doing_of old w
  goes-on is = step.one.doing ∙ ap (doing_after (doing_of old w)) is
