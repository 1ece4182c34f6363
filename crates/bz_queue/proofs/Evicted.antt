-- An eviction without effect leaves all as it was.
use Rattle.std.proofs.Common.{◌≡◌, ◌<◌, ◌≤◌, ℕ, List, ◌∷◌, length, get_or, refl, sym, ap, subst, ◌∙◌, arith, Option, Some, None}
use Rattle.bz_mark.specs.declared.marks.Mark.TheVariants.{Evict}
use Rattle.bz_rivals.proofs.Proved.{notes_are_of_begun}
use Rattle.bz_mark.specs.WordsAfter.{state_after_marks}
use Rattle.bz_swap_marks.proofs.Pasts.{evict-past}
use Rattle.bz_swap.specs.Effects.{NoneTakesEffect}
use Rattle.bz_swap.specs.Held.{IsHeld}
use Rattle.bz_swap.specs.SwapMemory.{SwapMemory, value_at, entries_of, doing_of}
use Rattle.bz_swap.proofs.Proved.{owned_stay}
use Rattle.bz_ring.specs.declared.marks.QMark.{QMark}
use Rattle.bz_ring.specs.declared.marks.QMark.TheVariants.{Memory}
use Rattle.bz_ring.specs.declared.ring.TheConstants.{HEAD_AT, TAIL_AT}
use Rattle.bz_ring.specs.Content.{cell_of}
use Rattle.bz_ring.specs.Growth.{Happens}
use Rattle.bz_ring.specs.Journal.{memory_of, with_mark}
use Rattle.bz_ring.specs.Sound.{IsSound, Decodes}
use Rattle.bz_ring.proofs.EachMoment.{at_moment-earlier}
use Rattle.bz_ring.proofs.Proved.{sound_journals_grow, other_words_do_not_matter}
use Rattle.bz_change.specs.Changes as change
use Rattle.bz_change.specs.Laws.{IsCalm}
use Rattle.bz_change.specs.Values.{SameValues}
use Rattle.bz_change.proofs.Proved.{quiet_acts_leave}
use Rattle.bz_queue.specs.Inside.Acted.{IsEvicted}
use Rattle.bz_queue.specs.Inside.Kept.{IsTabled, IsMemory, IsAwake}
use Rattle.bz_queue.specs.Inside.Serving.{counter_now, IsSlot}
use Rattle.bz_queue.specs.Inside.Sparing.{IsSparingSlot}
use Rattle.bz_queue.specs.declared.parts.Parts.{Parts}
use Rattle.bz_queue.specs.declared.serving.OpenCall.{OpenCall}
use Rattle.bz_queue.proofs.Acted.{holds-held}
use Rattle.bz_queue.proofs.Contents.{holds-now, decodes-now}
use Rattle.bz_queue.proofs.Rounds.{eviction-leaves}
use Rattle.bz_queue.proofs.Shown.{shown-eviction}
use Rattle.bz_queue.proofs.Slots.{Leaves, slot-still}
use Rattle.bz_queue.proofs.Sparing.{alone-quiet}
use Rattle.bz_queue.proofs.Striking.{eviction-marked, evicts-effect, not-off}
use Rattle.bz_queue.proofs.Sweepable.{sweepable-eviction}
use Rattle.bz_queue.proofs.Tables.{tabled-still}

module _ (old new : Parts) (a : ℕ) (k : IsAwake old) (room : length old.journal.past < old.journal.most) (e : IsEvicted old a None new) where
  abbrev past : List QMark
  past = Memory (Evict a) ∷ old.journal.past

  abbrev p : Parts
  p = record old { access = new.access; journal = with_mark old.journal (Memory (Evict a)) }

  held : IsHeld new.access
  held = holds-held new.access.phase new.access (λ is. k.memory.calm.phase (sym (ap (λ (m : SwapMemory). m.phase) e.eviction.is) ∙ is)) e.held

  pub quiet : IsCalm new.access × SameValues old.access new.access
  quiet = quiet_acts_leave.eviction old.access new.access a k.memory.calm held e.eviction

  pub none : NoneTakesEffect old.access new.access
  none = evicts-effect old.access new.access a None k.memory.calm.phase e.eviction

  memory : IsMemory new.access (with_mark old.journal (Memory (Evict a)))
  memory = record {
    words = eviction-marked old.access new.access a None old.journal.start old k.memory.words e.eviction;
    past = evict-past old.access new.access (state_after_marks old.journal.start (memory_of old.journal.past)) a None e.eviction k.memory.past;
    calm = quiet.0;
    owned = owned_stay.eviction old.access new.access a None e.eviction k.memory.owned;
    noted = notes_are_of_begun.eviction old.access new.access a None e.eviction k.memory.noted;
    shown = shown-eviction old.access new.access a None old.journal.past e.eviction k.memory.shown;
    sweepable = sweepable-eviction old.access new.access a None e.eviction k.memory.sweepable;
    unused = λ s from. none.swaps s ∙ k.memory.unused s (subst (λ (t : ℕ). t ≤ s) (ap (λ (m : SwapMemory). m.taken) e.eviction.is) from);
    low = omega (arith, quiet.1 TAIL_AT, k.memory.low);
  }

  swaps : new.access.swaps ≡ old.numbers.ring.swaps
  swaps = ap (λ (m : SwapMemory). m.swaps) e.eviction.is ∙ k.tabled.swaps

  sound : IsSound old.numbers.ring old.journal.start past
  sound =
      let happens : Happens old.journal.start old.journal.past (Evict a) = record { may = not-off old k; found = tt } in
      let holds = holds-now old.numbers.ring old.access old.journal.start old.journal.past k.memory.words k.tabled.swaps k.sound.durable.0 in
      let after = other_words_do_not_matter old.numbers.ring (value_at old.access) (value_at new.access) _ (quiet.1 HEAD_AT) (quiet.1 TAIL_AT) (λ counter. quiet.1 (cell_of old.numbers.ring counter)) holds in
      let decodes : Decodes old.numbers.ring old.journal.start past = decodes-now old.numbers.ring new.access old.journal.start past memory.words swaps after in
      (sound_journals_grow old.numbers.ring old.journal.start old.journal.past).quiet (Evict a) k.sound happens (decodes ∙ sym k.sound.durable.0)

  leaves : (v : ℕ) → Leaves old.access new.access old.journal.past past old.owners.items old.owners.items v
  leaves v = record {
    extends = record { longer = omega arith; earlier = λ at within. at_moment-earlier at (Memory (Evict a)) old.journal.past within };
    doing = ap (λ (m : SwapMemory). doing_of m v) e.eviction.is;
    is_open = refl;
    numbers = refl;
    rises = λ called. (let same : counter_now new.access called ≡ counter_now old.access called = quiet.1 (change.counter_of called) in omega arith);
    swap = λ s doing. record { entries = ap (λ (m : SwapMemory). entries_of m s) e.eviction.is; effect = none.swaps s; owner = refl };
  }

  tabled : IsTabled p
  tabled = tabled-still old p k.tabled (record {
    numbers = refl;
    start = refl;
    most = refl;
    places = refl;
    last = refl;
    owner_places = refl;
    begun = refl;
    count = ap (λ (m : SwapMemory). length m.workers) e.eviction.is;
    swaps = ap (λ (m : SwapMemory). m.swaps) e.eviction.is;
    size = ap (λ (m : SwapMemory). length m.cached) e.eviction.is;
    calls = λ v. refl;
    begins = refl;
    steps = omega (arith, ap (λ (m : SwapMemory). m.steps) e.eviction.is, k.tabled.steps);
    room = omega arith;
    power = k.tabled.powered;
  })

  alone : (v : ℕ) (slot : Option OpenCall) → IsSlot old.numbers.ring old.access old.journal.past old.owners.items old.numbers.workers v slot → IsSparingSlot old.numbers.ring old.access old.journal.past v slot → IsSparingSlot old.numbers.ring new.access past v slot
  alone v None h was = tt
  alone v (Some x) h was =
      alone-quiet old.numbers.ring old.access new.access old.journal.past old.owners.items old.numbers.workers v (Evict a) x (eviction-leaves old.access new.access v a None k.memory.calm.phase e.eviction) none.swaps quiet.1
      (ap (λ (m : SwapMemory). m.taken) e.eviction.is) tt h was

  pub kept-evicted : IsAwake new
  kept-evicted = subst IsAwake (sym e.rest) (record {
    on = k.on;
    tabled = tabled;
    memory = memory;
    sound = sound;
    slots = λ v. slot-still old.numbers.ring old.access new.access old.journal.past past old.owners.items old.owners.items old.numbers.workers v (get_or old.workers.items v None) (leaves v) (k.slots v);
    sparing = (tt, k.sparing);
    alone = λ v. alone v (get_or old.workers.items v None) (k.slots v) (k.alone v);
  })
