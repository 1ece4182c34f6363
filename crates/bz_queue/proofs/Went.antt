-- How a call goes on: the next read, or its end.
use Rattle.std.proofs.Common.{◌≡◌, ◌≢◌, ◌<◌, inl, inr, ℕ, false, List, length, get_or, refl, sym, ap, subst, ◌∙◌, arith, Option, Some, None}
use Rattle.std.specs.Prelude.{slice_set}
use Rattle.std.proofs.lemmas.Bool.{cases_eq}
use Rattle.std.proofs.lemmas.Grind.{common_steps}
use Rattle.bz_swap.specs.Held.{IsHeld}
use Rattle.bz_swap.specs.Starts.{IsAddress, MayWork, MayRead, started}
use Rattle.bz_swap.specs.SwapMemory.{SwapMemory, Working, Reading, idle, doing_of, worker_of}
use Rattle.bz_ring.specs.declared.calls.QCall.{QCall}
use Rattle.bz_ring.specs.declared.calls.QCall.TheVariants as call
use Rattle.bz_ring.specs.declared.marks.QMark.{QMark}
use Rattle.bz_ring.specs.declared.ring.Ring.{Ring}
use Rattle.bz_ring.specs.Content.{cell_of, size_of}
use Rattle.bz_ring.specs.Fresh.{IsRing}
use Rattle.bz_change.specs.Changes as change
use Rattle.bz_queue.specs.Inside.Going.{IsBetween, MustRead, ReadsAt, WentOn}
use Rattle.bz_queue.specs.Inside.Kept.{IsTabled, IsAwake}
use Rattle.bz_queue.specs.Inside.Left.{PaysFor}
use Rattle.bz_queue.specs.Inside.Serving.{IsAt, IsServed, IsSlot}
use Rattle.bz_queue.specs.Inside.Sparing.{IsSparingSlot}
use Rattle.bz_queue.specs.declared.answers.QApplied.TheVariants.{Stepped}
use Rattle.bz_queue.specs.declared.parts.Parts.{Parts}
use Rattle.bz_queue.specs.declared.serving.OpenCall.{OpenCall}
use Rattle.bz_queue.specs.declared.serving.Place.{Place}
use Rattle.bz_queue.specs.declared.serving.Place.TheVariants.{Counter, Cell, Again, Swap}
use Rattle.bz_queue.proofs.Memories.{started-memory}
use Rattle.bz_queue.proofs.Slots.{Extends, Leaves, slot-still}
use Rattle.bz_queue.proofs.Sparing.{beside}
use Rattle.bz_queue.proofs.Tables.{tabled-still, ring-of}

pub set-here : {A : Type 0} (xs : List A) (i : ℕ) (x d : A) → i < length xs → get_or (slice_set xs i x) i d ≡ x
set-here xs i x d within = grind (arith, common_steps)

pub set-other : {A : Type 0} (xs : List A) (i j : ℕ) (x d : A) → j ≢ i → get_or (slice_set xs i x) j d ≡ get_or xs j d
set-other xs i j x d other = grind (arith, common_steps)

pub set-length : {A : Type 0} (xs : List A) (i : ℕ) (x : A) → length (slice_set xs i x) ≡ length xs
set-length xs i x = grind (arith, common_steps)

-- the addresses that a call reads
pub counter-address : (r : Ring) (m : SwapMemory) (called : QCall) → m.swaps ≡ r.swaps → length m.cached ≡ size_of r → IsAddress m (change.counter_of called)
counter-address r m (call.Put item) swaps size = record { outside = inl (omega arith); within = omega arith }
counter-address r m call.Take swaps size = record { outside = inl (omega arith); within = omega arith }

pub cell-address : (r : Ring) (m : SwapMemory) (counter : ℕ) → IsRing r → m.swaps ≡ r.swaps → length m.cached ≡ size_of r → IsAddress m (cell_of r counter)
cell-address r m counter ring swaps size = record { outside = inr (omega arith); within = omega (arith, ring.some) }

-- a worker whose call waits may work
pub may-work : (p : Parts) (w : ℕ) (x : OpenCall) → IsBetween p w x → MayWork p.access w
may-work p w x b = record {
  some = b.opened.worker;
  within = omega (arith, b.opened.within, b.tabled.crew);
  idle = b.idle;
  phase = b.memory.calm.phase;
}

pub may-read : (p : Parts) (w : ℕ) (x : OpenCall) (place : Place) (a : ℕ) → MustRead p w x place a → MayRead p.access w a
may-read p w x place a h = record { work = may-work p w x h.between; address = by place h.reads }
  where
    by : (it : Place) → ReadsAt p.numbers.ring p.access p.journal.past w x.call h.between.opened.begun it a → IsAddress p.access a
    by Counter is = subst (IsAddress p.access) (sym is) (counter-address p.numbers.ring p.access x.call h.between.tabled.swaps h.between.tabled.size)
    by (Cell counter) is = subst (IsAddress p.access) (sym is.0) (cell-address p.numbers.ring p.access counter (ring-of p.numbers h.between.tabled.numbers) h.between.tabled.swaps h.between.tabled.size)
    by (Again counter at) is = subst (IsAddress p.access) (sym is.0) (counter-address p.numbers.ring p.access x.call h.between.tabled.swaps h.between.tabled.size)
    by (Swap counter word) is = absurd is

-- nothing was marked
pub same-past : (past : List QMark) → Extends past past
same-past past = record { longer = omega arith; earlier = λ at within. refl }

module _ (old new : Parts) (w : ℕ) (x : OpenCall) (place : Place) (a : ℕ) (h : MustRead old w x place a) (held : IsHeld (started old.access w (Reading a)))
    (rest : new ≡ record old { access = started old.access w (Reading a); workers = new.workers }) (table : new.workers.items ≡ slice_set old.workers.items w (Some (record x { place = place }))) (pays : PaysFor old new w)
    (own_alone : IsSparingSlot old.numbers.ring (started old.access w (Reading a)) old.journal.past w (Some (record x { place = place }))) where
  abbrev b : IsBetween old w x
  b = h.between

  abbrev m : SwapMemory
  m = started old.access w (Reading a)

  abbrev p : Parts
  p = record old { access = m; workers = new.workers }

  within : w < length old.access.workers
  within = omega (arith, b.opened.within, b.tabled.crew)

  place-within : w < length old.workers.items
  place-within = omega (arith, b.opened.within, b.tabled.places, b.tabled.numbers.workers.at_most)

  own-doing : doing_of m w ≡ Reading a
  own-doing = ap (λ (it : Working). it.doing) (set-here old.access.workers w (record { doing = Reading a; flush_next = false }) idle within)

  pub others-same : (v : ℕ) → v ≢ w → worker_of m v ≡ worker_of old.access v
  others-same v other = set-other old.access.workers w v (record { doing = Reading a; flush_next = false }) idle other

  leaves : (v : ℕ) → v ≢ w → Leaves old.access m old.journal.past old.journal.past old.owners.items old.owners.items v
  leaves v other = record {
    extends = same-past old.journal.past;
    doing = ap (λ (it : Working). it.doing) (others-same v other);
    is_open = refl;
    numbers = refl;
    rises = λ called. omega arith;
    swap = λ s doing. record { entries = refl; effect = refl; owner = refl };
  }

  at : (it : Place) → ReadsAt old.numbers.ring old.access old.journal.past w x.call b.opened.begun it a → IsAt old.numbers.ring m old.journal.past old.owners.items w x.call b.opened.begun x.effect it
  at Counter is = record { doing = own-doing ∙ ap Reading is; none = h.none }
  at (Cell counter) is = (record { doing = own-doing ∙ ap Reading is.0; none = h.none }, is.1)
  at (Again counter moment) is = (
    record { doing = own-doing ∙ ap Reading is.0; none = h.none },
    record { after_begin = is.1.after_begin; before_now = is.1.before_now; loaded = is.1.loaded; then = is.1.then; rose = is.1.rose; since = is.1.since; replies = is.1.replies },
  )
  at (Swap counter word) is = absurd is

  slot : (v : ℕ) → IsSlot old.numbers.ring m old.journal.past old.owners.items old.numbers.workers v (get_or new.workers.items v None)
  slot v = elim (cases_eq v w) [
    | inl own ↦
        subst (λ (u : ℕ). IsSlot old.numbers.ring m old.journal.past old.owners.items old.numbers.workers u (get_or new.workers.items u None)) (sym own)
        (subst (IsSlot old.numbers.ring m old.journal.past old.owners.items old.numbers.workers w) (sym (ap (λ (all : List (Option OpenCall)). get_or all w None) table ∙ set-here old.workers.items w (Some (record x { place = place })) None place-within))
        (let served : IsServed old.numbers.ring m old.journal.past old.owners.items old.numbers.workers w (record x { place = place }) = record {
          opened = record { worker = b.opened.worker; within = b.opened.within; fits = b.opened.fits; begun = b.opened.begun; is_open = b.opened.is_open; before = b.opened.before };
          place = at place h.reads;
        } in served))
    | inr other ↦
        subst (IsSlot old.numbers.ring m old.journal.past old.owners.items old.numbers.workers v) (sym (ap (λ (all : List (Option OpenCall)). get_or all v None) table ∙ set-other old.workers.items w v (Some (record x { place = place })) None other))
        (slot-still old.numbers.ring old.access m old.journal.past old.journal.past old.owners.items old.owners.items old.numbers.workers v (get_or old.workers.items v None) (leaves v other) (b.others v other))
  ]

  tabled : IsTabled p
  tabled = tabled-still old p b.tabled (record {
    numbers = refl;
    start = refl;
    most = refl;
    places = ap length table ∙ set-length old.workers.items w (Some (record x { place = place }));
    last = refl;
    owner_places = refl;
    begun = refl;
    count = set-length old.access.workers w (record { doing = Reading a; flush_next = false });
    swaps = refl;
    size = refl;
    calls = λ v. refl;
    begins = refl;
    steps = b.tabled.steps;
    room = omega (arith, b.tabled.marks, b.tabled.most);
    power = b.tabled.powered;
  })

  alone : (v : ℕ) → IsSparingSlot old.numbers.ring m old.journal.past v (get_or new.workers.items v None)
  alone v = elim (cases_eq v w) [
    | inl own ↦
        subst (λ (u : ℕ). IsSparingSlot old.numbers.ring m old.journal.past u (get_or new.workers.items u None)) (sym own)
        (subst (IsSparingSlot old.numbers.ring m old.journal.past w) (sym (ap (λ (all : List (Option OpenCall)). get_or all w None) table ∙ set-here old.workers.items w (Some (record x { place = place })) None place-within)) own_alone)
    | inr other ↦ beside old.numbers.ring m old.journal.past w v (get_or new.workers.items v None) other (λ none. cc (none, b.opened.is_open))
  ]

  pub read-next : WentOn old w Stepped new
  read-next = record {
    kept = subst IsAwake (sym rest) (record {
      on = b.on;
      tabled = tabled;
      memory = started-memory old.access old.journal w (Reading a) b.memory b.opened.worker b.idle (λ s is. cc) held;
      sound = b.sound;
      slots = slot;
      sparing = b.sparing;
      alone = alone;
    });
    numbers = ap (λ (q : Parts). q.numbers) rest;
    start = ap (λ (q : Parts). q.journal.start) rest;
    most = ap (λ (q : Parts). q.journal.most) rest;
    ends = ap (λ (q : Parts). q.journal.past) rest;
    others = λ v other. ap (λ (q : Parts). worker_of q.access v) rest ∙ others-same v other;
    count = ap (λ (q : Parts). length q.access.workers) rest ∙ set-length old.access.workers w (record { doing = Reading a; flush_next = false });
    pays = pays;
  }
