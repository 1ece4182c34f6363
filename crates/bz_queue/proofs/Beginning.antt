-- A call begins.
use Rattle.std.proofs.Common.{◌≡◌, ◌≢◌, ◌<◌, ◌≤◌, inl, inr, ◌+◌, ◌==◌, ◌||◌, ◌-◌, ◌^◌, ℕ, Bool, true, false, List, [], ◌∷◌, length, get_or, slice_index, refl, sym, ap, subst, ◌∙◌, arith, Option, Some, None}
use Rattle.std.specs.Prelude.{slice_set, if◌then◌else◌, nat_lt, nat_le, is_some}
use Rattle.std.proofs.lemmas.List.{map-set}
use Rattle.std.proofs.lemmas.Bool.{cases_eq, eq-eqb, ne_eqb, le-ltb, lt-leb}
use Rattle.bz_swap.specs.Held.{IsHeld}
use Rattle.bz_swap.specs.Starts.{MayRead, started}
use Rattle.bz_swap.specs.SwapMemory.{SwapMemory, Working, Idle, Reading, Swapping, doing_of, idle, worker_of}
use Rattle.bz_mark.specs.declared.power.Power.TheVariants as power
use Rattle.bz_ring.specs.declared.calls.QCall.{QCall}
use Rattle.bz_ring.specs.declared.calls.QCall.TheVariants as call
use Rattle.bz_ring.specs.declared.marks.QMark.{QMark}
use Rattle.bz_ring.specs.declared.marks.QMark.TheVariants.{Begin, End, Effect, Memory}
use Rattle.bz_ring.specs.Calls.{Open, open_call, begun_calls, count_begins}
use Rattle.bz_ring.specs.Journal.{at_moment, with_mark}
use Rattle.bz_ring.specs.Solitary.{taken_in}
use Rattle.bz_ring.specs.Sound.{IsSound}
use Rattle.bz_ring.proofs.EachMoment.{at_moment-earlier, at_moment-now}
use Rattle.bz_ring.proofs.Proved.{sound_journals_grow}
use Rattle.bz_change.specs.Changes as change
use Rattle.bz_queue.specs.Inside.Begun.{MayBegin}
use Rattle.bz_queue.specs.Inside.Kept.{IsTabled, IsMemory, IsAwake, view_of}
use Rattle.bz_queue.specs.Inside.Left.{lefts_of}
use Rattle.bz_queue.specs.Inside.Serving.{IsFree, IsServed, IsSlot}
use Rattle.bz_queue.specs.Inside.Sparing.{IsAlone, IsSparingSlot}
use Rattle.bz_queue.specs.QueueView.{QueueView, IsCall, begin_answer, after_begin, power_in}
use Rattle.bz_queue.specs.declared.answers.QBegun.TheVariants.{Begun}
use Rattle.bz_queue.specs.declared.parts.Parts.{Parts}
use Rattle.bz_queue.specs.declared.serving.OpenCall.{OpenCall}
use Rattle.bz_queue.specs.declared.serving.Place.TheVariants.{Counter}
use Rattle.bz_queue.proofs.Memories.{started-memory}
use Rattle.bz_queue.proofs.Slots.{Leaves, slot-still}
use Rattle.bz_queue.proofs.Sparing.{idle-slot, no-rounds, taken-told}
use Rattle.bz_queue.proofs.Went.{set-here, set-other, set-length, counter-address}

fits-word : (called : QCall) → IsCall called → change.word_after called ≤ 2 ^ 60
fits-word (call.Put item) is = omega arith
fits-word call.Take is = omega arith

-- a call that begins
abbrev pub first-of : QCall → OpenCall
first-of called = record { call = called; place = Counter; effect = None }

-- its worker has none
pub is-free : (p : Parts) (w : ℕ) (called : QCall) → IsAwake p → MayBegin p w called → IsFree p.access p.journal.past w
is-free p w called k may = by (get_or p.workers.items w None) may.free (k.slots w)
  where
    by : (slot : Option OpenCall) → slot ≡ None → IsSlot p.numbers.ring p.access p.journal.past p.owners.items p.numbers.workers w slot → IsFree p.access p.journal.past w
    by None none h = h
    by (Some x) none h = absurd (cc none)

pub may-read : (p : Parts) (w : ℕ) (called : QCall) → IsAwake p → MayBegin p w called → MayRead p.access w (change.counter_of called)
may-read p w called k may = record {
  work = record { some = may.worker; within = omega (arith, may.within, k.tabled.crew); idle = (is-free p w called k may).idle; phase = k.memory.calm.phase };
  address = counter-address p.numbers.ring p.access called k.tabled.swaps k.tabled.size;
}

module _ (old new : Parts) (w : ℕ) (called : QCall) (n : ℕ) (k : IsAwake old) (may : MayBegin old w called) (number : n ≡ begun_calls w old.journal.past + 1) (held : IsHeld (started old.access w (Reading (change.counter_of called))))
    (rest : new ≡ record old { access = started old.access w (Reading (change.counter_of called)); journal = with_mark old.journal (Begin w n called); workers = new.workers; last = new.last; begun = old.begun + 1 })
    (table : new.workers.items ≡ slice_set old.workers.items w (Some (first-of called))) (numbers : new.last.items ≡ slice_set old.last.items w n) where
  abbrev m : SwapMemory
  m = started old.access w (Reading (change.counter_of called))

  abbrev past : List QMark
  past = Begin w n called ∷ old.journal.past

  abbrev p : Parts
  p = record old { access = m; journal = with_mark old.journal (Begin w n called); workers = new.workers; last = new.last; begun = old.begun + 1 }

  free : IsFree old.access old.journal.past w
  free = is-free old w called k may

  place-within : w < length old.workers.items
  place-within = omega (arith, may.within, k.tabled.places, k.tabled.numbers.workers.at_most)

  others-same : (v : ℕ) → v ≢ w → worker_of m v ≡ worker_of old.access v
  others-same v other = set-other old.access.workers w v (record { doing = Reading (change.counter_of called); flush_next = false }) idle other

  sound : IsSound old.numbers.ring old.journal.start past
  sound = (sound_journals_grow old.numbers.ring old.journal.start old.journal.past).begin w n called k.sound (record { worker = may.worker; powered = k.tabled.powered ∙ k.on; begins = record { numbered = number; none_open = free.none } })

  leaves : (v : ℕ) → v ≢ w → Leaves old.access m old.journal.past past old.owners.items old.owners.items v
  leaves v other = record {
    extends = record { longer = omega arith; earlier = λ at within. at_moment-earlier at (Begin w n called) old.journal.past within };
    doing = ap (λ (it : Working). it.doing) (others-same v other);
    is_open = ap (λ (test : Bool). let opened : Option Open = if test then Some (record { number = n; call = called; begun = length old.journal.past; effect = None }) else open_call v old.journal.past in opened) (ne_eqb w v (λ same. other (sym same)));
    numbers = ap (λ (test : Bool). if test then begun_calls v old.journal.past + 1 else begun_calls v old.journal.past) (ne_eqb w v (λ same. other (sym same)));
    rises = λ called. omega arith;
    swap = λ s doing. record { entries = refl; effect = refl; owner = refl };
  }

  counted-now : begun_calls w past ≡ n
  counted-now = ap (λ (test : Bool). if test then begun_calls w old.journal.past + 1 else begun_calls w old.journal.past) (eq-eqb w w refl) ∙ sym number

  own : IsServed old.numbers.ring m past old.owners.items old.numbers.workers w (first-of called)
  own = record {
    opened = record {
      worker = may.worker;
      within = may.within;
      fits = fits-word called may.call;
      begun = length old.journal.past;
      is_open =
          ap (λ (test : Bool). let opened : Option Open = if test then Some (record { number = n; call = called; begun = length old.journal.past; effect = None }) else open_call w old.journal.past in opened) (eq-eqb w w refl)
          ∙ ap (λ (k : ℕ). let opened : Option Open = Some (record { number = k; call = called; begun = length old.journal.past; effect = None }) in opened) (sym counted-now);
      before = omega arith;
    };
    place = record {
      doing = ap (λ (it : Working). it.doing) (set-here old.access.workers w (record { doing = Reading (change.counter_of called); flush_next = false }) idle (omega (arith, may.within, k.tabled.crew)));
      none = refl;
    };
  }

  slot : (v : ℕ) → IsSlot old.numbers.ring m past old.owners.items old.numbers.workers v (get_or new.workers.items v None)
  slot v = elim (cases_eq v w) [
    | inl same ↦
        subst (λ (u : ℕ). IsSlot old.numbers.ring m past old.owners.items old.numbers.workers u (get_or new.workers.items u None)) (sym same)
        (subst (IsSlot old.numbers.ring m past old.owners.items old.numbers.workers w) (sym (ap (λ (all : List (Option OpenCall)). get_or all w None) table ∙ set-here old.workers.items w (Some (first-of called)) None place-within)) own)
    | inr other ↦
        subst (IsSlot old.numbers.ring m past old.owners.items old.numbers.workers v) (sym (ap (λ (all : List (Option OpenCall)). get_or all v None) table ∙ set-other old.workers.items w v (Some (first-of called)) None other))
        (slot-still old.numbers.ring old.access m old.journal.past past old.owners.items old.owners.items old.numbers.workers v (get_or old.workers.items v None) (leaves v other) (k.slots v))
  ]

  counted : (v : ℕ) → v < 65 → slice_index new.last.items v ≡ begun_calls v past
  counted v within = elim (cases_eq v w) [
    | inl same ↦
        ap (λ (all : List ℕ). slice_index all v) numbers ∙ ap (λ (u : ℕ). slice_index (slice_set old.last.items w n) u) same
        ∙ set-here old.last.items w n 0 (omega (arith, may.within, k.tabled.number_places, k.tabled.numbers.workers.at_most)) ∙ sym counted-now ∙ ap (λ (u : ℕ). begun_calls u past) (sym same)
    | inr other ↦ ap (λ (all : List ℕ). slice_index all v) numbers ∙ set-other old.last.items w v n 0 other ∙ k.tabled.counted v within ∙ sym (leaves v other).numbers
  ]

  tabled : IsTabled p
  tabled = record {
    numbers = k.tabled.numbers;
    start = k.tabled.start;
    most = k.tabled.most;
    marks = omega (arith, may.room, k.tabled.most);
    places = ap length table ∙ set-length old.workers.items w (Some (first-of called)) ∙ k.tabled.places;
    number_places = ap length numbers ∙ set-length old.last.items w n ∙ k.tabled.number_places;
    owner_places = k.tabled.owner_places;
    crew = set-length old.access.workers w (record { doing = Reading (change.counter_of called); flush_next = false }) ∙ k.tabled.crew;
    swaps = k.tabled.swaps;
    size = k.tabled.size;
    counted = counted;
    begins = ap (λ (b : ℕ). b + 1) k.tabled.begins;
    few = omega (arith, may.few);
    steps = omega (arith, k.tabled.steps);
    powered = k.tabled.powered;
  }

  memory : IsMemory m (with_mark old.journal (Begin w n called))
  memory =
      let it = started-memory old.access old.journal w (Reading (change.counter_of called)) k.memory may.worker free.idle (λ s is. cc) held in
      record { words = it.words; past = it.past; calm = it.calm; owned = it.owned; noted = it.noted; shown = record { begun = it.shown.begun; shown = it.shown.shown; only = it.shown.only }; unused = it.unused; sweepable = it.sweepable; low = omega (arith, it.low) }

  -- where no other call is open nobody does anything
  idle-before : ((u : ℕ) → open_call u old.journal.past ≡ None) → (v : ℕ) → doing_of old.access v ≡ Idle
  idle-before none v = idle-slot old.numbers.ring old.access old.journal.past old.owners.items old.numbers.workers v (get_or old.workers.items v None) (none v) (k.slots v)

  now-open : open_call w past ≡ Some (record { number = n; call = called; begun = length old.journal.past; effect = None })
  now-open = ap (λ (test : Bool). let opened : Option Open = if test then Some (record { number = n; call = called; begun = length old.journal.past; effect = None }) else open_call w old.journal.past in opened) (eq-eqb w w refl)

  own-alone : IsSparingSlot old.numbers.ring m past w (Some (first-of called))
  own-alone opened is solitary =
      let first : Open = record { number = n; call = called; begun = length old.journal.past; effect = None } in
      let same : opened ≡ first = (let both : Some opened ≡ Some first = sym is ∙ now-open in cc) in
      let idle = idle-before solitary.1 in
      let nobody : (v s : ℕ) → doing_of old.access v ≡ Swapping s → ⊥ = λ v s doing. (let both : Swapping s ≡ Idle = sym doing ∙ idle v in cc) in
      let shown : taken_in old.numbers.ring old.journal.past ≡ old.access.taken = taken-told old.numbers.ring old.access old.journal.past k.tabled.swaps k.memory.calm.held.taken k.memory.shown nobody in
      let earlier : at_moment (length old.journal.past) past ≡ old.journal.past = at_moment-earlier (length old.journal.past) (Begin w n called) old.journal.past (omega arith) ∙ at_moment-now old.journal.past in
      let its : IsAlone old.numbers.ring m past w (length old.journal.past) (first-of called) = record {
        rounds = no-rounds m w called None Counter (λ v other. ap (λ (it : Working). it.doing) (others-same v other) ∙ idle v) refl;
        taken = (let now : old.access.taken ≡ taken_in old.numbers.ring (at_moment (length old.journal.past) past) = sym shown ∙ ap (taken_in old.numbers.ring) (sym earlier) in omega (arith, now));
      } in
      subst (λ (b : ℕ). IsAlone old.numbers.ring m past w b (first-of called)) (sym (ap (λ (o : Open). o.begun) same)) its

  other-alone : (v : ℕ) (slot : Option OpenCall) → v ≢ w → IsSparingSlot old.numbers.ring m past v slot
  other-alone v None other = tt
  other-alone v (Some x) other = λ opened is solitary. absurd (other (sym solitary.0))

  alone : (v : ℕ) → IsSparingSlot old.numbers.ring m past v (get_or new.workers.items v None)
  alone v = elim (cases_eq v w) [
    | inl same ↦
        subst (λ (u : ℕ). IsSparingSlot old.numbers.ring m past u (get_or new.workers.items u None)) (sym same)
        (subst (IsSparingSlot old.numbers.ring m past w) (sym (ap (λ (all : List (Option OpenCall)). get_or all w None) table ∙ set-here old.workers.items w (Some (first-of called)) None place-within)) own-alone)
    | inr other ↦ other-alone v (get_or new.workers.items v None) other
  ]

  pub kept-begun : IsAwake new
  kept-begun = subst IsAwake (sym rest) (record { on = k.on; tabled = tabled; memory = memory; sound = sound; slots = slot; sparing = (tt, k.sparing); alone = alone })

-- no worker has begun more calls than all have
pub few-calls : (w : ℕ) (past : List QMark) → begun_calls w past ≤ count_begins past
few-calls w [] = omega arith
few-calls w (Begin v n called ∷ past) = by (v == w) (few-calls w past)
  where
    by : (test : Bool) → begun_calls w past ≤ count_begins past → (if test then begun_calls w past + 1 else begun_calls w past) ≤ count_begins past + 1
    by true h = omega arith
    by false h = omega arith
few-calls w (End v n answer at ∷ past) = few-calls w past
few-calls w (Effect v n ∷ past) = few-calls w past
few-calls w (Memory memory ∷ past) = few-calls w past

pub number-of : (p : Parts) (w : ℕ) (called : QCall) → IsAwake p → MayBegin p w called → slice_index p.last.items w ≡ begun_calls w p.journal.past
number-of p w called k may = k.tabled.counted w (omega (arith, may.within, k.tabled.numbers.workers.at_most))

pub number-within : (p : Parts) (w : ℕ) (called : QCall) → IsAwake p → MayBegin p w called → w < length p.last.items
number-within p w called k may = omega (arith, may.within, k.tabled.number_places, k.tabled.numbers.workers.at_most)

pub number-fits : (p : Parts) (w : ℕ) (called : QCall) → IsAwake p → MayBegin p w called → begun_calls w p.journal.past < 65536
number-fits p w called k may = omega (arith, few-calls w p.journal.past, k.tabled.begins, may.few, k.tabled.numbers.calls.at_most)

not-either : (a b : Bool) → a ≡ false → b ≡ false → (a || b) ≡ false
not-either false b one two = two
not-either true b one two = absurd (cc)

pub answer-is : (p : Parts) (w : ℕ) (called : QCall) (n : ℕ) → IsAwake p → MayBegin p w called → n ≡ begun_calls w p.journal.past + 1 → begin_answer (view_of p) w ≡ Begun n
answer-is p w called n k may number =
    let worker : ((w == 0) || nat_lt p.numbers.workers w) ≡ false = not-either (w == 0) (nat_lt p.numbers.workers w) (ne_eqb w 0 (λ zero. absurd (omega (arith, may.worker)))) (le-ltb p.numbers.workers w may.within) in
    let room : nat_lt (p.journal.most - length p.journal.past) 3 ≡ false = le-ltb (p.journal.most - length p.journal.past) 3 (omega (arith, may.room)) in
    let none : is_some (open_call w p.journal.past) ≡ false = ap is_some (is-free p w called k may).none in
    let few : nat_le p.numbers.calls (count_begins p.journal.past) ≡ false = lt-leb p.numbers.calls (count_begins p.journal.past) (omega (arith, k.tabled.begins, may.few)) in
    let powered : power_in (view_of p) ≡ power.On = k.tabled.powered ∙ k.on in
    rw (worker, room, powered, none, few) (ap Begun (sym number))

pub after-is : (old new : Parts) (w : ℕ) (called : QCall) (n : ℕ)
    → new ≡ record old { access = started old.access w (Reading (change.counter_of called)); journal = with_mark old.journal (Begin w n called); workers = new.workers; last = new.last; begun = old.begun + 1 }
    → view_of new ≡ after_begin (view_of old) w called (view_of new).left (Begun n)
after-is old new w called n rest =
    ap (λ (q : Parts). let after : QueueView = record (view_of q) { left = lefts_of new } in after) rest
    ∙ ap (λ (flushes : List Bool). let after : QueueView = record { numbers = old.numbers; log = with_mark old.journal (Begin w n called); flushes = flushes; left = lefts_of new } in after) (map-set (λ (it : Working). it.flush_next) old.access.workers w (record { doing = Reading (change.counter_of called); flush_next = false }))
