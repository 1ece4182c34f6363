-- What an act of a worker leads to, of all parts.
use Rattle.std.proofs.Common.{◌≡◌, ◌≢◌, ◌<◌, inl, inr, ℕ, zero, suc, List, length, get_or, refl, sym, ap, subst, ◌∙◌, arith, Option, Some, None}
use Rattle.std.proofs.lemmas.Bool.{cases_eq}
use Rattle.bz_swap_acts.specs.declared.acted.Act.{Act}
use Rattle.bz_swap_machine.specs.declared.done.Done.{Done}
use Rattle.bz_swap_machine.specs.declared.done.Done.TheVariants as done
use Rattle.bz_swap.specs.declared.phase.Phase.{Phase}
use Rattle.bz_swap.specs.declared.phase.Phase.TheVariants.{Opened, Running, Recovering}
use Rattle.bz_swap.specs.Held.{IsHeld, Holds, HoldsIn}
use Rattle.bz_word.specs.declared.entry.Entry.{Entry}
use Rattle.bz_swap.specs.Starts.{started, swapping}
use Rattle.bz_swap.specs.SwapMemory.{SwapMemory, Doing, Idle, doing_of, worker_of}
use Rattle.bz_ring.specs.declared.marks.QMark.{QMark}
use Rattle.bz_ring.specs.declared.marks.QMark.TheVariants.{Memory}
use Rattle.bz_ring.specs.Calls.{open_call}
use Rattle.bz_ring.specs.Journal.{with_mark}
use Rattle.bz_ring.specs.Sound.{IsSound}
use Rattle.bz_swap_marks.specs.Marks.{mark_of}
use Rattle.bz_queue.specs.Inside.Acted.{IsActed, HasActed, HasEnded}
use Rattle.bz_queue.specs.Inside.Going.{MustGoOn}
use Rattle.bz_queue.specs.Inside.Kept.{IsTabled, IsAwake}
use Rattle.bz_queue.specs.Inside.Left.{PaysFor}
use Rattle.bz_queue.specs.Inside.Serving.{IsSlot}
use Rattle.bz_queue.specs.Inside.Sparing.{IsSparingSlot}
use Rattle.bz_queue.specs.QueueView.{IsStruck}
use Rattle.bz_queue.specs.declared.parts.Parts.{Parts}
use Rattle.bz_queue.proofs.Acting.{IsServing, is-serving, busy-at, quiet, quiet-sound, quiet-leaves, others-do, still-opened, answered, now-idle, goes-on}
use Rattle.bz_queue.proofs.Marks.{act-plain, plain-calls, plain-power}
use Rattle.bz_queue.proofs.Rounds.{step-leaves}
use Rattle.bz_queue.proofs.Slots.{slot-still}
use Rattle.bz_queue.proofs.Sparing.{alone-quiet, beside}
use Rattle.bz_queue.proofs.Tables.{tabled-still}

pub holds-held : (phase : Phase) (m : SwapMemory) → phase ≢ Recovering → HoldsIn phase m → IsHeld m
holds-held Opened m calm held = held
holds-held Running m calm held = held
holds-held Recovering m calm held = absurd (calm refl)

pub phase-after : (m : SwapMemory) (w : ℕ) (doing : Doing) → 0 < w → (started m w doing).phase ≡ Running
phase-after m zero doing some = absurd (omega arith)
phase-after m (suc w) doing some = refl

-- so the memory is held after a start
pub started-held : (m : SwapMemory) (w : ℕ) (doing : Doing) → 0 < w → Holds (started m w doing) → IsHeld (started m w doing)
started-held m w doing some holds = holds-held (started m w doing).phase (started m w doing) (λ is. (let both : Running ≡ Recovering = sym (phase-after m w doing some) ∙ is in cc)) holds

pub swapping-held : (m : SwapMemory) (w : ℕ) (entries : List Entry) → 0 < w → Holds (swapping m w entries) → IsHeld (swapping m w entries)
swapping-held m w entries some holds = holds-held (swapping m w entries).phase (swapping m w entries) (λ is. (let both : Running ≡ Recovering = sym (phase-after m w Idle some) ∙ is in cc)) holds

-- the worker of an open call does something
pub is-busy : (p : Parts) (w : ℕ) → IsAwake p → open_call w p.journal.past ≢ None → doing_of p.access w ≢ Idle
is-busy p w k open_is =
    let s = is-serving p.numbers.ring p.access p.journal.past p.owners.items p.numbers.workers w (get_or p.workers.items w None) open_is (k.slots w) in
    busy-at p.numbers.ring p.access p.journal.past p.owners.items w s.x.call s.served.opened.begun s.x.effect s.x.place s.served.place

pub worker-inside : (p : Parts) (w : ℕ) → IsAwake p → open_call w p.journal.past ≢ None → w < length p.access.workers
worker-inside p w k open_is =
    let s = is-serving p.numbers.ring p.access p.journal.past p.owners.items p.numbers.workers w (get_or p.workers.items w None) open_is (k.slots w) in
    omega (arith, s.served.opened.within, k.tabled.crew)

-- with the mark of an effect, or none
pub struck-acted : (old mid new : Parts) (w : ℕ) (made : Act) (ended : Done) (told : Option ℕ) → IsActed old w made ended told mid → IsStruck mid.journal.past new.journal.past
    → new ≡ record mid { journal = record mid.journal { past = new.journal.past }; workers = new.workers } → PaysFor old new w → HasActed old w new
struck-acted old mid new w made ended told a struck rest pays = record {
  made = made;
  flush = a.step.one.flush;
  struck = subst (λ (past : List QMark). IsStruck past new.journal.past) (ap (λ (q : Parts). q.journal.past) a.rest) struck;
  rest =
      rest
      ∙ ap (λ (z : Parts). let after : Parts = record z { journal = record z.journal { past = new.journal.past }; workers = new.workers } in after) a.rest
      ∙ ap (λ (m : SwapMemory). let after : Parts = record old { access = m; journal = record old.journal { past = new.journal.past }; workers = new.workers } in after) (sym (ap (λ (q : Parts). q.access) rest));
  others = λ v other. ap (λ (q : Parts). worker_of q.access v) rest ∙ a.step.one.others.workers v other;
  count = ap (λ (q : Parts). length q.access.workers) rest ∙ a.step.one.others.count;
  pays = pays;
}

module _ (old new : Parts) (w : ℕ) (made : Act) (ended : Done) (k : IsAwake old) (open_is : open_call w old.journal.past ≢ None) (room : length old.journal.past < old.journal.most) (a : IsActed old w made ended None new) where
  abbrev p : Parts
  p = record old { access = new.access; journal = with_mark old.journal (Memory (mark_of w made)) }

  s : IsServing old.numbers.ring old.access old.journal.past old.owners.items old.numbers.workers w (get_or old.workers.items w None)
  s = is-serving old.numbers.ring old.access old.journal.past old.owners.items old.numbers.workers w (get_or old.workers.items w None) open_is (k.slots w)

  held : IsHeld new.access
  held = holds-held new.access.phase new.access (λ is. k.memory.calm.phase (sym a.step.one.others.phase ∙ is)) a.held

  tabled : IsTabled p
  tabled = tabled-still old p k.tabled (record {
    numbers = refl;
    start = refl;
    most = refl;
    places = refl;
    last = refl;
    owner_places = refl;
    begun = refl;
    count = a.step.one.others.count;
    swaps = a.step.one.others.swaps;
    size = a.step.one.others.size;
    calls = λ v. refl;
    begins = refl;
    steps = omega (arith, a.step.one.steps, k.tabled.steps);
    room = omega arith;
    power = plain-power old.journal.past (mark_of w made) (act-plain w made) ∙ k.tabled.powered;
  })

  sound : IsSound old.numbers.ring old.journal.start p.journal.past
  sound = quiet-sound old.numbers.ring old.access new.access old.journal old.owners.items old.numbers.workers w made ended k.tabled.swaps k.memory k.sound s.x s.served held a.step

  slot : (v : ℕ) → doing_of new.access v ≡ doing_of old.access v → IsSlot old.numbers.ring new.access p.journal.past old.owners.items old.numbers.workers v (get_or old.workers.items v None)
  slot v doing =
      slot-still old.numbers.ring old.access new.access old.journal.past p.journal.past old.owners.items old.owners.items old.numbers.workers v (get_or old.workers.items v None)
      (quiet-leaves old.numbers.ring old.access new.access old.journal old.owners.items old.numbers.workers w made ended k.tabled.swaps k.memory k.sound s.x s.served held a.step v doing) (k.slots v)

  other-slot : (v : ℕ) → v ≢ w → IsSlot old.numbers.ring new.access p.journal.past old.owners.items old.numbers.workers v (get_or old.workers.items v None)
  other-slot v other = slot v (others-do old.numbers.ring old.access new.access old.journal old.owners.items old.numbers.workers w made ended k.tabled.swaps k.memory k.sound s.x s.served held a.step v other)

  still-open : open_call w p.journal.past ≢ None
  still-open none = open_is (sym (plain-calls w old.journal.past (mark_of w made) (act-plain w made)) ∙ none)

  own-alone : IsSparingSlot old.numbers.ring new.access p.journal.past w (Some s.x)
  own-alone =
      alone-quiet old.numbers.ring old.access new.access old.journal.past old.owners.items old.numbers.workers w (mark_of w made) s.x (step-leaves old.access new.access w made ended None a.step) a.step.effect.swaps
      (quiet old.numbers.ring old.access new.access old.journal old.owners.items old.numbers.workers w made ended k.tabled.swaps k.memory k.sound s.x s.served held a.step).1 a.step.one.others.taken (act-plain w made) s.served
      (subst (IsSparingSlot old.numbers.ring old.access old.journal.past w) s.is (k.alone w))

  pub kept-on : ended ≡ done.Busy → IsAwake new
  kept-on is = subst IsAwake (sym a.rest) (record {
    on = k.on;
    tabled = tabled;
    memory = (quiet old.numbers.ring old.access new.access old.journal old.owners.items old.numbers.workers w made ended k.tabled.swaps k.memory k.sound s.x s.served held a.step).0;
    sound = sound;
    slots = λ v. elim (cases_eq v w) [
      | inl own ↦ slot v (ap (doing_of new.access) own ∙ goes-on old.numbers.ring old.access new.access old.journal old.owners.items old.numbers.workers w made ended k.tabled.swaps k.memory k.sound s.x s.served held a.step is ∙ ap (doing_of old.access) (sym own))
      | inr other ↦ other-slot v other
    ];
    sparing = (tt, k.sparing);
    alone = λ v. elim (cases_eq v w) [
      | inl own ↦
          subst (λ (u : ℕ). IsSparingSlot old.numbers.ring new.access p.journal.past u (get_or old.workers.items u None)) (sym own) (subst (IsSparingSlot old.numbers.ring new.access p.journal.past w) (sym s.is) own-alone)
      | inr other ↦ beside old.numbers.ring new.access p.journal.past w v (get_or old.workers.items v None) other still-open
    ];
  })

  must : ended ≢ done.Busy → MustGoOn p w s.x ended
  must other = record {
    between = record {
      on = k.on;
      tabled = tabled;
      memory = (quiet old.numbers.ring old.access new.access old.journal old.owners.items old.numbers.workers w made ended k.tabled.swaps k.memory k.sound s.x s.served held a.step).0;
      sound = sound;
      opened = still-opened old.numbers.ring old.access new.access old.journal old.owners.items old.numbers.workers w made ended k.tabled.swaps k.memory k.sound s.x s.served held a.step;
      is = s.is;
      idle = now-idle old.numbers.ring old.access new.access old.journal old.owners.items old.numbers.workers w made ended k.tabled.swaps k.memory k.sound s.x s.served held a.step other;
      others = other-slot;
      sparing = (tt, k.sparing);
      alone = own-alone;
    };
    answered = answered old.numbers.ring old.access new.access old.journal old.owners.items old.numbers.workers w made ended k.tabled.swaps k.memory k.sound s.x s.served held a.step ended refl other;
  }

  pub has-ended : ended ≢ done.Busy → HasEnded new w ended
  has-ended other = record {
    x = s.x;
    is = ap (λ (q : Parts). get_or q.workers.items w None) a.rest ∙ s.is;
    must = subst (λ (q : Parts). MustGoOn q w s.x ended) (sym a.rest) (must other);
  }

  pub has-acted : PaysFor old new w → HasActed old w new
  has-acted pays = record {
    made = made;
    flush = a.step.one.flush;
    struck = inl (ap (λ (q : Parts). q.journal.past) a.rest);
    rest = a.rest ∙ ap (λ (q : Parts). let after : Parts = record old { access = new.access; journal = record old.journal { past = q.journal.past }; workers = q.workers } in after) (sym a.rest);
    others = a.step.one.others.workers;
    count = a.step.one.others.count;
    pays = pays;
  }
