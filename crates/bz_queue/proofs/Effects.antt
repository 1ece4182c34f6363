-- The mark of an effect: the parts are kept again.
use Rattle.std.proofs.Common.{◌≡◌, ◌≢◌, ◌<◌, inl, inr, ℕ, Bool, false, List, [], ◌∷◌, length, get_or, slice_index, refl, sym, ap, subst, ◌∙◌, arith, Option, Some, None}
use Rattle.std.specs.Prelude.{slice_set, if◌then◌else◌, option_map}
use Rattle.std.proofs.lemmas.Bool.{cases_eq, eq-eqb}
use Rattle.std.proofs.lemmas.Grind.{common_steps}
use Rattle.bz_ring.specs.declared.marks.QMark.{QMark}
use Rattle.bz_ring.specs.declared.marks.QMark.TheVariants.{Effect, Memory}
use Rattle.bz_swap.specs.SwapMemory.{Idle, doing_of}
use Rattle.bz_ring.specs.Calls.{Open, begun_calls, open_call, with_effect}
use Rattle.bz_ring.specs.Journal.{at_moment, with_mark}
use Rattle.bz_ring.specs.Sound.{first_items}
use Rattle.bz_ring.proofs.EachMoment.{at_moment-earlier}
use Rattle.bz_ring.proofs.Proved.{none_is_open_beside}
use Rattle.bz_queue.specs.Inside.Acted.{IsStriking}
use Rattle.bz_queue.specs.Inside.Kept.{IsTabled, IsAwake}
use Rattle.bz_queue.specs.Inside.Left.{is_stale}
use Rattle.bz_queue.specs.Inside.Serving.{IsSlot, with_moment}
use Rattle.bz_queue.specs.Inside.Sparing.{IsAlone, IsSparingSlot}
use Rattle.bz_queue.specs.declared.parts.Parts.{Parts}
use Rattle.bz_queue.specs.declared.serving.OpenCall.{OpenCall}
use Rattle.bz_queue.specs.declared.serving.Place.{Place}
use Rattle.bz_queue.proofs.Contents.{begins-empty}
use Rattle.bz_queue.proofs.Marks.{plain-calls, plain-power}
use Rattle.bz_queue.proofs.Slots.{slot-still}
use Rattle.bz_queue.proofs.Sparing.{beside, idle-slot, no-rounds, still-alone}
use Rattle.bz_queue.proofs.Struck.{HasSwap, has-swap, struck-sound, struck-memory, struck-leaves, struck-slot}
use Rattle.bz_queue.proofs.Tables.{tabled-still, ring-of}

module _ (p : Parts) (s : ℕ) (h : IsStriking p s) where
  abbrev o : Parts
  o = h.before

  abbrev v : ℕ
  v = h.strikes.takes.worker

  pub swap-of : HasSwap o.numbers.ring o.access o.journal.past o.owners.items o.numbers.workers v s (get_or o.workers.items v None)
  swap-of =
      has-swap o.numbers.ring o.access o.journal.past o.owners.items o.numbers.workers v s (get_or o.workers.items v None) h.strikes.takes.pending h.strikes.takes.before (h.kept.slots v)

  first : first_items o.numbers.ring o.journal.start ≡ []
  first = begins-empty o.numbers.ring o.journal.start (ring-of o.numbers h.kept.tabled.numbers) h.kept.tabled.start

  pub owner : slice_index p.owners.items s ≡ v
  owner = ap (λ (q : Parts). slice_index q.owners.items s) h.rest ∙ ap (slice_index o.owners.items) (sym swap-of.same) ∙ swap-of.swapping.owner

  pub swap-inside : s < length p.owners.items
  swap-inside = omega (arith, ap (λ (q : Parts). length q.owners.items) h.rest, h.kept.tabled.owner_places, h.kept.tabled.swaps, h.kept.memory.calm.held.taken, h.kept.memory.owned.begun v s h.strikes.takes.pending)

  worker-inside : v < 65
  worker-inside = omega (arith, swap-of.opened.within, h.kept.tabled.numbers.workers.at_most)

  pub place-inside : v < length p.workers.items
  place-inside = omega (arith, worker-inside, h.kept.tabled.places, ap (λ (q : Parts). length q.workers.items) h.rest)

  pub number-inside : v < length p.last.items
  number-inside = omega (arith, worker-inside, h.kept.tabled.number_places, ap (λ (q : Parts). length q.last.items) h.rest)

  pub serves : get_or p.workers.items v None ≡ Some swap-of.x
  serves = ap (λ (q : Parts). get_or q.workers.items v None) h.rest ∙ swap-of.is

  pub number : slice_index p.last.items v ≡ begun_calls v o.journal.past
  number = ap (λ (q : Parts). slice_index q.last.items v) h.rest ∙ h.kept.tabled.counted v worker-inside

  past-is : p.journal.past ≡ Memory h.memory ∷ o.journal.past
  past-is = ap (λ (q : Parts). q.journal.past) h.rest

  abbrev struck : List QMark
  struck = Effect v (begun_calls v o.journal.past) ∷ Memory h.memory ∷ o.journal.past

  module _ (new : Parts) (room : length p.journal.past < p.journal.most) (rest : new ≡ record p { journal = with_mark p.journal (Effect v (begun_calls v o.journal.past)); workers = new.workers })
      (table : new.workers.items ≡ slice_set p.workers.items v (Some (with_moment (length p.journal.past) swap-of.x))) where
    abbrev q : Parts
    q = record o { access = p.access; journal = record o.journal { past = struck }; workers = new.workers }

    is : new ≡ q
    is = rest ∙ ap (λ (z : Parts). let after : Parts = record z { access = p.access; journal = with_mark z.journal (Effect v (begun_calls v o.journal.past)); workers = new.workers } in after) h.rest

    table-is : new.workers.items ≡ slice_set o.workers.items v (Some (with_moment (length (Memory h.memory ∷ o.journal.past)) swap-of.x))
    table-is = table ∙ ap (λ (z : Parts). slice_set z.workers.items v (Some (with_moment (length z.journal.past) swap-of.x))) h.rest

    inside : v < length o.workers.items
    inside = omega (arith, worker-inside, h.kept.tabled.places)

    own : get_or new.workers.items v None ≡ Some (with_moment (length (Memory h.memory ∷ o.journal.past)) swap-of.x)
    own = ap (λ (all : List (Option OpenCall)). get_or all v None) table-is ∙ (let within = inside in grind (arith, common_steps))

    other : (u : ℕ) → u ≢ v → get_or new.workers.items u None ≡ get_or o.workers.items u None
    other u differs = ap (λ (all : List (Option OpenCall)). get_or all u None) table-is ∙ grind (arith, common_steps)

    tabled : IsTabled q
    tabled = tabled-still o q h.kept.tabled (record {
      numbers = refl;
      start = refl;
      most = refl;
      places = ap length table-is ∙ grind (arith, common_steps);
      last = refl;
      owner_places = refl;
      begun = refl;
      count = h.moves.count;
      swaps = h.strikes.swaps;
      size = h.moves.size;
      calls = λ w. refl;
      begins = refl;
      steps = omega (arith, h.moves.steps, h.kept.tabled.steps);
      room = omega (arith, room, ap length past-is, ap (λ (z : Parts). z.journal.most) h.rest);
      power = plain-power o.journal.past h.memory h.strikes.plain ∙ h.kept.tabled.powered;
    })

    slot : (u : ℕ) → IsSlot o.numbers.ring p.access struck o.owners.items o.numbers.workers u (get_or new.workers.items u None)
    slot u = elim (cases_eq u v) [
      | inl same ↦
          subst (λ (w : ℕ). IsSlot o.numbers.ring p.access struck o.owners.items o.numbers.workers w (get_or new.workers.items w None)) (sym same)
          (subst (IsSlot o.numbers.ring p.access struck o.owners.items o.numbers.workers v) (sym own)
          (struck-slot o.numbers.ring (ring-of o.numbers h.kept.tabled.numbers) o.access p.access o.journal o.owners.items o.numbers.workers s h.memory h.kept.tabled.swaps h.kept.memory h.kept.sound first h.strikes (get_or o.workers.items v None) swap-of))
      | inr differs ↦
          subst (IsSlot o.numbers.ring p.access struck o.owners.items o.numbers.workers u) (sym (other u differs))
          (slot-still o.numbers.ring o.access p.access o.journal.past struck o.owners.items o.owners.items o.numbers.workers u (get_or o.workers.items u None)
          (struck-leaves o.numbers.ring (ring-of o.numbers h.kept.tabled.numbers) o.access p.access o.journal o.owners.items o.numbers.workers s h.memory h.kept.tabled.swaps h.kept.memory h.kept.sound first h.strikes (get_or o.workers.items v None) swap-of u differs)
          (h.kept.slots u))
    ]

    abbrev acted : List QMark
    acted = Memory h.memory ∷ o.journal.past

    abbrev before : Open
    before = record { number = begun_calls v o.journal.past; call = swap-of.x.call; begun = swap-of.opened.begun; effect = swap-of.x.effect }

    now-open : open_call v struck ≡ Some (with_effect (length acted) before)
    now-open =
        ap (λ (test : Bool). if test then option_map (with_effect (length acted)) (open_call v acted) else open_call v acted) (eq-eqb v v refl)
        ∙ ap (option_map (with_effect (length acted))) (plain-calls v o.journal.past h.memory h.strikes.plain ∙ swap-of.opened.is_open)

    -- it has had its effect, and nobody else does anything
    own-alone : IsSparingSlot o.numbers.ring p.access struck v (Some (with_moment (length acted) swap-of.x))
    own-alone opened is solitary =
        let same : opened ≡ with_effect (length acted) before = (let both : Some opened ≡ Some (with_effect (length acted) before) = sym is ∙ now-open in cc) in
        let begun : opened.begun ≡ swap-of.opened.begun = ap (λ (it : Open). it.begun) same in
        let its : IsSparingSlot o.numbers.ring o.access o.journal.past v (Some swap-of.x) = subst (IsSparingSlot o.numbers.ring o.access o.journal.past v) swap-of.is (h.kept.alone v) in
        let was = its before swap-of.opened.is_open solitary in
        let earlier : at_moment swap-of.opened.begun struck ≡ at_moment swap-of.opened.begun o.journal.past =
        at_moment-earlier swap-of.opened.begun (Effect v (begun_calls v o.journal.past)) acted (omega (arith, swap-of.opened.before)) ∙ at_moment-earlier swap-of.opened.begun (Memory h.memory) o.journal.past (omega (arith, swap-of.opened.before)) in
        let idle : (u : ℕ) → u ≢ v → doing_of p.access u ≡ Idle =
        λ u other. h.strikes.doing u ∙ idle-slot o.numbers.ring o.access o.journal.past o.owners.items o.numbers.workers u (get_or o.workers.items u None) (none_is_open_beside v u o.journal.past solitary other) (h.kept.slots u) in
        let fresh : is_stale p.access v swap-of.x.call (Some (length acted)) swap-of.x.place ≡ false = subst (λ (place : Place). is_stale p.access v swap-of.x.call (Some (length acted)) place ≡ false) (sym swap-of.place) refl in
        subst (λ (n : ℕ). IsAlone o.numbers.ring p.access struck v n (with_moment (length acted) swap-of.x)) (sym begun)
        (still-alone o.numbers.ring o.access p.access o.journal.past struck v swap-of.opened.begun swap-of.x (with_moment (length acted) swap-of.x) earlier
        (no-rounds p.access v swap-of.x.call (Some (length acted)) swap-of.x.place idle fresh) h.strikes.taken refl was)

    alone : (u : ℕ) → IsSparingSlot o.numbers.ring p.access struck u (get_or new.workers.items u None)
    alone u = elim (cases_eq u v) [
      | inl same ↦ subst (λ (w : ℕ). IsSparingSlot o.numbers.ring p.access struck w (get_or new.workers.items w None)) (sym same) (subst (IsSparingSlot o.numbers.ring p.access struck v) (sym own) own-alone)
      | inr differs ↦ beside o.numbers.ring p.access struck v u (get_or new.workers.items u None) differs (λ none. (let both : Some (with_effect (length acted) before) ≡ None = sym now-open ∙ none in cc))
    ]

    pub kept-struck : IsAwake new
    kept-struck = subst IsAwake (sym is) (record {
      on = h.kept.on;
      tabled = tabled;
      memory = struck-memory o.numbers.ring (ring-of o.numbers h.kept.tabled.numbers) o.access p.access o.journal o.owners.items o.numbers.workers s h.memory h.kept.tabled.swaps h.kept.memory h.kept.sound first h.strikes (get_or o.workers.items v None) swap-of;
      sound = struck-sound o.numbers.ring (ring-of o.numbers h.kept.tabled.numbers) o.access p.access o.journal o.owners.items o.numbers.workers s h.memory h.kept.tabled.swaps h.kept.memory h.kept.sound first h.strikes (get_or o.workers.items v None) swap-of;
      slots = slot;
      sparing = (tt, (tt, h.kept.sparing));
      alone = alone;
    })
