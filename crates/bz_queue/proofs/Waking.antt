-- A recovery begins when the power comes on, and when it has ended the memory is given back to the workers.
use Rattle.std.proofs.Common.{◌≡◌, ◌<◌, ◌≤◌, ◌+◌, ℕ, false, ◌∷◌, length, map, get_or, refl, sym, ap, subst, ◌∙◌, arith, Option, Some, None}
use Rattle.std.specs.Prelude.{replicate, slice_set}
use Rattle.std.proofs.lemmas.Bool.{true≢false}
use Rattle.std.proofs.lemmas.List.{length-set, map-set}
use Rattle.bz_mark.specs.WordsAfter.{state_after_marks}
use Rattle.bz_mark.specs.declared.marks.Mark.TheVariants.{On, Ready}
use Rattle.bz_mark.specs.declared.power.Power.TheVariants as power
use Rattle.bz_rivals.proofs.Proved.{notes_are_of_begun}
use Rattle.bz_swap.proofs.Proved.{begun_stay_taken, owned_stay}
use Rattle.bz_swap.specs.Held.{Holds, IsHeld}
use Rattle.bz_swap.specs.Power.{MayRenew, renewed}
use Rattle.bz_swap.specs.Starts.{started}
use Rattle.bz_swap.specs.SwapMemory.{SwapMemory, Loading, Working, value_at}
use Rattle.bz_swap_marks.proofs.Pasts.{renewed-past}
use Rattle.bz_swap_recovery.proofs.Proved.{sweeps_begin, sweeps_go_on, sweeps_revive, values_stay}
use Rattle.bz_swap_recovery.specs.Laws.{Begins, IsRevived}
use Rattle.bz_swap_recovery.specs.Recovering as recovery
use Rattle.bz_sweep.specs.declared.ask.Answer.TheVariants.{Start}
use Rattle.bz_sweep.specs.declared.sweep.Sweep.{Sweep}
use Rattle.bz_ring.specs.Journal.{QLog, memory_of, with_mark}
use Rattle.bz_ring.specs.declared.marks.QMark.TheVariants.{Memory}
use Rattle.bz_queue.proofs.Dark.{Marks, darkens, listed-dark, same-tail, sound-after, tabled-after}
use Rattle.bz_queue.specs.Inside.Kept.{IsAwake, IsDark, IsMemory, IsOff, IsSwept, area_of, view_of}
use Rattle.bz_queue.specs.Inside.Left.{lefts_of}
use Rattle.bz_queue.specs.Inside.Powering.{MustWake, Wakes}
use Rattle.bz_queue.specs.Inside.Serving.{IsSlot}
use Rattle.bz_queue.specs.Inside.Sparing.{IsSparingSlot}
use Rattle.bz_queue.specs.QueueView as seen
use Rattle.bz_queue.specs.declared.parts.Parts.{Parts}
use Rattle.bz_queue.specs.declared.serving.OpenCall.{OpenCall}
use Rattle.bz_queue.proofs.Recovering.{dark-beside}
use Rattle.bz_queue.proofs.Resting.{lefts-none}

-- the power is on, and the sweep has asked for its first act
module _ (p : Parts) (k : IsOff p) (off : p.power ≡ power.Off) (room : length p.journal.past + 3 ≤ p.journal.most) (first next : Sweep) (new : recovery.IsNew (area_of p.numbers.ring) first) (on : recovery.IsNext first Start next) where
  on-marks : Marks p k.dark.values p.access On power.Recovering
  on-marks = record {
    happens = record { may = k.dark.tabled.powered ∙ off; found = tt };
    words = k.dark.words;
    past = record { count = k.dark.past.count; since = k.dark.past.since; asks = k.dark.past.asks; workers = k.dark.past.workers };
    stays = λ a shared. values_stay.off (area_of p.numbers.ring) k.dark.values p.access a k.memory shared;
    count = refl;
    swaps = refl;
    size = refl;
    steps = omega arith;
    power = refl;
    room = omega (arith, room);
  }

  begins : Begins (area_of p.numbers.ring) k.dark.values p.access first
  begins = sweeps_begin (area_of p.numbers.ring) k.dark.values p.access first k.memory new

  abbrev turned : Parts
  turned = record p { journal = with_mark p.journal (Memory On); power = power.Recovering }

  dark-turned : IsDark turned
  unfolding darkens
  dark-turned = darkens p k.dark.values (listed-dark p k.dark) p.access On power.Recovering on-marks p.workers refl k.dark.none k.dark.calls

  pub begun : IsSwept (record turned { sweep = next }) recovery.Asked
  unfolding dark-turned darkens dark-beside
  begun = record {
    dark = dark-beside turned dark-turned p.access next refl refl refl refl refl;
    memory = sweeps_go_on (area_of p.numbers.ring) k.dark.values p.access first next Start begins.sweeping on begins.tells;
    untaken = λ s. refl;
    spent = omega (arith, on.sooner k.dark.values (recovery.words_in p.access) begins.sweeping.knows, new.left (recovery.words_in p.access));
  }

pub begun-on : (p : Parts) (k : IsOff p) → p.power ≡ power.Off → length p.journal.past + 3 ≤ p.journal.most → (first next : Sweep) → recovery.IsNew (area_of p.numbers.ring) first → recovery.IsNext first Start next → (journal : QLog) → journal ≡ with_mark p.journal (Memory On)
    → IsSwept (record p { journal = journal; power = power.Recovering; sweep = next }) recovery.Asked
begun-on p k off room first next new on journal is = subst (λ (j : QLog). IsSwept (record p { journal = j; power = power.Recovering; sweep = next }) recovery.Asked) (sym is) (begun p k off room first next new on)

-- power on as it is seen: worker 0's first act is no fence
pub seen-on : (p q : Parts) (journal : QLog) (next : Sweep) → IsOff p → journal ≡ with_mark p.journal (Memory On) → q ≡ record p { access = q.access; journal = journal; power = power.Recovering; sweep = next } → q.access ≡ started p.access 0 (Loading 0)
    → view_of q ≡ seen.after_on (view_of p)
seen-on p q journal next k marked rest is = ap view_of whole ∙ (λ t. record { numbers = p.numbers; log = with_mark p.journal (Memory On); flushes = flushes t; left = left t })
  where
    whole : q ≡ record p { access = started p.access 0 (Loading 0); journal = with_mark p.journal (Memory On); power = power.Recovering; sweep = next }
    whole = rest ∙ (λ t. record p { access = is t; journal = marked t; power = power.Recovering; sweep = next })

    flushes : map (λ (worker : Working). worker.flush_next) (started p.access 0 (Loading 0)).workers ≡ slice_set (map (λ (worker : Working). worker.flush_next) p.access.workers) 0 false
    flushes = map-set (λ (worker : Working). worker.flush_next) p.access.workers 0 (record { doing = Loading 0; flush_next = false })

    left : lefts_of (record p { access = started p.access 0 (Loading 0); journal = with_mark p.journal (Memory On); power = power.Recovering; sweep = next }) ≡ lefts_of p
    left =
        lefts-none (record p { access = started p.access 0 (Loading 0); journal = with_mark p.journal (Memory On); power = power.Recovering; sweep = next }) k.dark.none
        ∙ ap (λ (n : ℕ). replicate n 0) (length-set p.access.workers 0 (record { doing = Loading 0; flush_next = false }))
        ∙ sym (lefts-none p k.dark.none)

module _ (p : Parts) (k : MustWake p) (room : length p.journal.past < p.journal.most) where
  pub revived : IsRevived (area_of p.numbers.ring) p.access
  revived = sweeps_revive (area_of p.numbers.ring) k.swept.dark.values p.access p.sweep k.swept.memory k.asks

  ready-marks : Marks p k.swept.dark.values (renewed p.access) Ready power.On
  ready-marks = record {
    happens = record { may = k.after; found = tt };
    words = k.swept.dark.words;
    past = renewed-past p.access (state_after_marks p.journal.start (memory_of p.journal.past)) k.swept.dark.past;
    stays = λ a shared. values_stay.sweeping (area_of p.numbers.ring) k.swept.dark.values p.access recovery.Asked p.sweep a k.swept.memory shared;
    count = refl;
    swaps = refl;
    size = refl;
    steps = omega arith;
    power = refl;
    room = room;
  }

  abbrev waked : Parts
  waked = record p { access = renewed p.access; journal = with_mark p.journal (Memory Ready); power = power.On }

  memory : IsHeld (renewed p.access) → IsMemory (renewed p.access) (with_mark p.journal (Memory Ready))
  memory held = record {
    words = k.swept.dark.words;
    past = ready-marks.past;
    calm = record { phase = λ is. cc; held = held; settled = λ a outside none. revived.settled a outside };
    owned = owned_stay.renewal p.access revived.may_renew;
    noted = notes_are_of_begun.renewal p.access;
    shown = record {
      begun = begun_stay_taken.renewal p.access;
      shown = λ s within taken. absurd (revived.untaken s (omega (arith, within, k.swept.dark.tabled.swaps)) taken);
      only = λ s within is. absurd (true≢false (sym is ∙ k.swept.untaken s));
    };
    unused = λ s from. revived.unused s;
    sweepable = record { fields = revived.fields; targets = λ s j d within. absurd (omega arith) };
    low = omega (arith, same-tail p.numbers.ring k.swept.dark.values (value_at (renewed p.access)) ready-marks.stays, k.swept.dark.low);
  }

  slot-by : (w : ℕ) (slot : Option OpenCall) → slot ≡ None → IsSlot p.numbers.ring (renewed p.access) (Memory Ready ∷ p.journal.past) p.owners.items p.numbers.workers w slot
  slot-by w None e = record { none = k.swept.dark.calls w; idle = revived.may_renew.idle w }
  slot-by w (Some x) e = absurd (cc e)

  alone-by : (w : ℕ) (slot : Option OpenCall) → slot ≡ None → IsSparingSlot p.numbers.ring (renewed p.access) (Memory Ready ∷ p.journal.past) w slot
  alone-by w None e = tt
  alone-by w (Some x) e = absurd (cc e)

  pub woken : IsHeld (renewed p.access) → IsAwake waked
  woken held = record {
    on = refl;
    tabled = tabled-after p k.swept.dark.values (listed-dark p k.swept.dark) (renewed p.access) Ready power.On ready-marks p.workers refl;
    memory = memory held;
    sound = sound-after p k.swept.dark.values (listed-dark p k.swept.dark) (renewed p.access) Ready power.On ready-marks;
    slots = λ w. slot-by w (get_or p.workers.items w None) (k.swept.dark.none w);
    sparing = (tt, k.swept.dark.sparing);
    alone = λ w. alone-by w (get_or p.workers.items w None) (k.swept.dark.none w);
  }

pub may-renew : (p : Parts) → MustWake p → length p.journal.past < p.journal.most → MayRenew p.access
may-renew p k room = (revived p k room).may_renew

pub wakes : (p : Parts) → MustWake p → length p.journal.past < p.journal.most → (access : SwapMemory) (journal : QLog) → access ≡ renewed p.access → Holds access → journal ≡ with_mark p.journal (Memory Ready)
    → Wakes p (record p { access = access; journal = journal; power = power.On })
wakes p k room access journal is holds marked = subst (λ (j : QLog). Wakes p (record p { access = access; journal = j; power = power.On })) (sym marked)
    (subst (λ (m : SwapMemory). Wakes p (record p { access = m; journal = with_mark p.journal (Memory Ready); power = power.On })) (sym is)
    (record { awake = woken p k room (subst Holds is holds); rest = refl }))
