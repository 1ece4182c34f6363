-- The end of a call.
use Rattle.std.proofs.Common.{◌≡◌, ◌≢◌, ◌<◌, ◌+◌, inl, inr, ℕ, Bool, List, ◌∷◌, length, get_or, slice_index, refl, sym, ap, subst, ◌∙◌, arith, Option, None}
use Rattle.std.specs.Prelude.{slice_set, if◌then◌else◌}
use Rattle.std.proofs.lemmas.Bool.{cases_eq, eq-eqb, ne_eqb}
use Rattle.bz_swap.specs.SwapMemory.{Idle, Swapping, doing_of, worker_of}
use Rattle.bz_ring.specs.declared.calls.QReply.{QReply}
use Rattle.bz_ring.specs.declared.marks.QMark.{QMark}
use Rattle.bz_ring.specs.declared.marks.QMark.TheVariants.{End}
use Rattle.bz_ring.specs.Calls.{Open, open_call, begun_calls}
use Rattle.bz_ring.specs.Journal.{at_moment, with_mark}
use Rattle.bz_ring.specs.Replies.{Told}
use Rattle.bz_ring.specs.Solitary.{EndTakes, IsSolitary, one_with, taken_in}
use Rattle.bz_ring.specs.Sound.{IsSound}
use Rattle.bz_ring.proofs.EachMoment.{at_moment-earlier}
use Rattle.bz_ring.proofs.Proved.{none_is_open_beside, sound_journals_grow}
use Rattle.bz_queue.specs.Inside.Going.{IsBetween, MustEnd, WentOn}
use Rattle.bz_queue.specs.Inside.Kept.{IsTabled, IsMemory, IsAwake}
use Rattle.bz_queue.specs.Inside.Left.{PaysFor}
use Rattle.bz_queue.specs.Inside.Serving.{IsSlot}
use Rattle.bz_queue.specs.Inside.Sparing.{IsSparingSlot}
use Rattle.bz_queue.specs.declared.answers.QApplied.TheVariants.{Ended}
use Rattle.bz_queue.specs.declared.parts.Parts.{Parts}
use Rattle.bz_queue.specs.declared.serving.OpenCall.{OpenCall}
use Rattle.bz_queue.proofs.Slots.{Leaves, slot-still}
use Rattle.bz_queue.proofs.Sparing.{beside-ended, idle-slot, same-effect, taken-told}
use Rattle.bz_queue.proofs.Tables.{tabled-still}
use Rattle.bz_queue.proofs.Went.{set-here, set-other, set-length}

pub place-of : (p : Parts) (w : ℕ) (x : OpenCall) → IsBetween p w x → w < length p.workers.items
place-of p w x b = omega (arith, b.opened.within, b.tabled.places, b.tabled.numbers.workers.at_most)

pub number-of : (p : Parts) (w : ℕ) (x : OpenCall) → IsBetween p w x → w < length p.last.items
number-of p w x b = omega (arith, b.opened.within, b.tabled.number_places, b.tabled.numbers.workers.at_most)

pub last-of : (p : Parts) (w : ℕ) (x : OpenCall) → IsBetween p w x → slice_index p.last.items w ≡ begun_calls w p.journal.past
last-of p w x b = b.tabled.counted w (omega (arith, b.opened.within, b.tabled.numbers.workers.at_most))

module _ (old new : Parts) (w : ℕ) (x : OpenCall) (answer : QReply) (moment n : ℕ) (h : MustEnd old w x answer moment) (room : length old.journal.past < old.journal.most) (number : n ≡ begun_calls w old.journal.past)
    (rest : new ≡ record old { journal = with_mark old.journal (End w n answer moment); workers = new.workers }) (table : new.workers.items ≡ slice_set old.workers.items w None) (pays : PaysFor old new w) where
  abbrev b : IsBetween old w x
  b = h.between

  abbrev past : List QMark
  past = End w n answer moment ∷ old.journal.past

  abbrev p : Parts
  p = record old { journal = with_mark old.journal (End w n answer moment); workers = new.workers }

  told : Told
  told = record { worker = w; opened = record { number = begun_calls w old.journal.past; call = x.call; begun = b.opened.begun; effect = x.effect }; reply = answer; at = moment }

  sound : IsSound old.numbers.ring old.journal.start past
  sound = subst (λ (k : ℕ). IsSound old.numbers.ring old.journal.start (End w k answer moment ∷ old.journal.past)) (sym number)
      ((sound_journals_grow old.numbers.ring old.journal.start old.journal.past).end (record { worker = w; opened = record { number = begun_calls w old.journal.past; call = x.call; begun = b.opened.begun; effect = x.effect }; reply = answer; at = moment }) b.sound b.opened.is_open h.right)

  leaves : (v : ℕ) → v ≢ w → Leaves old.access old.access old.journal.past past old.owners.items old.owners.items v
  leaves v other = record {
    extends = record { longer = omega arith; earlier = λ at within. at_moment-earlier at (End w n answer moment) old.journal.past within };
    doing = refl;
    is_open = ap (λ (test : Bool). let opened : Option Open = if test then None else open_call v old.journal.past in opened) (ne_eqb w v (λ same. other (sym same)));
    numbers = refl;
    rises = λ called. omega arith;
    swap = λ s doing. record { entries = refl; effect = refl; owner = refl };
  }

  slot : (v : ℕ) → IsSlot old.numbers.ring old.access past old.owners.items old.numbers.workers v (get_or new.workers.items v None)
  slot v = elim (cases_eq v w) [
    | inl own ↦
        subst (λ (u : ℕ). IsSlot old.numbers.ring old.access past old.owners.items old.numbers.workers u (get_or new.workers.items u None)) (sym own)
        (subst (IsSlot old.numbers.ring old.access past old.owners.items old.numbers.workers w) (sym (ap (λ (all : List (Option OpenCall)). get_or all w None) table ∙ set-here old.workers.items w None None (place-of old w x b)))
        (let free : IsSlot old.numbers.ring old.access past old.owners.items old.numbers.workers w None = record {
          none = ap (λ (test : Bool). let opened : Option Open = if test then None else open_call w old.journal.past in opened) (eq-eqb w w refl);
          idle = b.idle;
        } in free))
    | inr other ↦
        subst (IsSlot old.numbers.ring old.access past old.owners.items old.numbers.workers v) (sym (ap (λ (all : List (Option OpenCall)). get_or all v None) table ∙ set-other old.workers.items w v None None other))
        (slot-still old.numbers.ring old.access old.access old.journal.past past old.owners.items old.owners.items old.numbers.workers v (get_or old.workers.items v None) (leaves v other) (b.others v other))
  ]

  tabled : IsTabled p
  tabled = tabled-still old p b.tabled (record {
    numbers = refl;
    start = refl;
    most = refl;
    places = ap length table ∙ set-length old.workers.items w None;
    last = refl;
    owner_places = refl;
    begun = refl;
    count = refl;
    swaps = refl;
    size = refl;
    calls = λ v. refl;
    begins = refl;
    steps = omega (arith, b.tabled.steps);
    room = omega arith;
    power = b.tabled.powered;
  })

  memory : IsMemory old.access (with_mark old.journal (End w n answer moment))
  memory = record {
    words = b.memory.words;
    past = b.memory.past;
    calm = b.memory.calm;
    owned = b.memory.owned;
    noted = b.memory.noted;
    shown = record { begun = b.memory.shown.begun; shown = b.memory.shown.shown; only = b.memory.shown.only };
    unused = b.memory.unused;
    sweepable = b.memory.sweepable;
    low = omega (arith, b.memory.low);
  }

  -- it was solitary: nobody does a swap now, so the journal shows just what was taken
  nobody-swaps : IsSolitary w old.journal.past → (v s : ℕ) → doing_of old.access v ≡ Swapping s → ⊥
  nobody-swaps solitary v s doing = elim (cases_eq v w) [
    | inl own ↦ (let both : Swapping s ≡ Idle = sym doing ∙ ap (doing_of old.access) own ∙ b.idle in cc)
    | inr other ↦ (
        let idle = idle-slot old.numbers.ring old.access old.journal.past old.owners.items old.numbers.workers v (get_or old.workers.items v None) (none_is_open_beside w v old.journal.past solitary other) (b.others v other) in
        let both : Swapping s ≡ Idle = sym doing ∙ idle in
        cc
        )
  ]

  takes : EndTakes old.numbers.ring old.journal.past (End w n answer moment)
  takes opened is solitary =
      let its = b.alone opened is solitary in
      taken-told old.numbers.ring old.access old.journal.past b.tabled.swaps b.memory.calm.held.taken b.memory.shown (nobody-swaps solitary) ∙ its.taken
      ∙ ap (λ (k : ℕ). taken_in old.numbers.ring (at_moment opened.begun old.journal.past) + k) (h.exact ∙ ap one_with (sym (same-effect old.journal.past old.numbers.workers w x b.opened opened is)))

  alone : (v : ℕ) → IsSparingSlot old.numbers.ring old.access past v (get_or new.workers.items v None)
  alone v = elim (cases_eq v w) [
    | inl own ↦
        subst (λ (u : ℕ). IsSparingSlot old.numbers.ring old.access past u (get_or new.workers.items u None)) (sym own)
        (subst (IsSparingSlot old.numbers.ring old.access past w) (sym (ap (λ (all : List (Option OpenCall)). get_or all w None) table ∙ set-here old.workers.items w None None (place-of old w x b))) tt)
    | inr other ↦ beside-ended old.numbers.ring old.access old.journal.past w v n moment answer (get_or new.workers.items v None) other (λ none. cc (none, b.opened.is_open))
  ]

  pub ended : WentOn old w (Ended n) new
  ended = record {
    kept = subst IsAwake (sym rest) (record { on = b.on; tabled = tabled; memory = memory; sound = sound; slots = slot; sparing = (takes, b.sparing); alone = alone });
    numbers = ap (λ (q : Parts). q.numbers) rest;
    start = ap (λ (q : Parts). q.journal.start) rest;
    most = ap (λ (q : Parts). q.journal.most) rest;
    ends = (answer, (moment, ap (λ (q : Parts). q.journal.past) rest));
    others = λ v other. ap (λ (q : Parts). worker_of q.access v) rest;
    count = ap (λ (q : Parts). length q.access.workers) rest;
    pays = pays;
  }
