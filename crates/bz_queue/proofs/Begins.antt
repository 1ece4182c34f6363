-- The swap of a call begins.
use Rattle.std.proofs.Common.{◌≡◌, ◌≢◌, ◌<◌, ◌≤◌, inl, inr, ◌^◌, ℕ, zero, suc, false, List, [], ◌∷◌, ◌++◌, length, get_or, slice_index, refl, sym, ap, subst, ◌∙◌, arith, Option, Some, None}
use Rattle.std.specs.Prelude.{slice_set, All}
use Rattle.std.proofs.lemmas.Bool.{cases_eq}
use Rattle.std.proofs.lemmas.Grind.{common_steps}
use Rattle.bz_word.specs.declared.entry.Entry.{Entry}
use Rattle.bz_swap.specs.Held.{IsHeld}
use Rattle.bz_swap.specs.Starts.{IsAddress, IsEntry, MaySwap, swapping}
use Rattle.bz_swap.specs.SwapMemory.{SwapMemory, Working, Idle, Swapping, Storing, idle, doing_of, worker_of}
use Rattle.bz_ring.specs.declared.calls.QCall.{QCall}
use Rattle.bz_ring.specs.declared.calls.QCall.TheVariants as call
use Rattle.bz_change.specs.Changes as change
use Rattle.bz_queue.specs.Inside.Going.{IsBetween, MustJudge, WentOn}
use Rattle.bz_queue.specs.Inside.Kept.{IsTabled, IsAwake}
use Rattle.bz_queue.specs.Inside.Left.{PaysFor}
use Rattle.bz_queue.specs.Inside.Serving.{counter_now, IsChanged, IsAt, IsServed, IsSlot}
use Rattle.bz_queue.specs.Inside.Sparing.{IsSparingSlot}
use Rattle.bz_queue.specs.declared.answers.QApplied.TheVariants.{Stepped}
use Rattle.bz_queue.specs.declared.parts.Parts.{Parts}
use Rattle.bz_queue.specs.declared.serving.OpenCall.{OpenCall}
use Rattle.bz_queue.specs.declared.serving.Place.TheVariants.{Swap}
use Rattle.bz_queue.proofs.Acting.{stores-nothing}
use Rattle.bz_queue.proofs.Contents.{holds-now}
use Rattle.bz_queue.proofs.Ends.{place-of}
use Rattle.bz_queue.proofs.Memories.{swapping-memory}
use Rattle.bz_queue.proofs.Slots.{Leaves, slot-still}
use Rattle.bz_queue.proofs.Sparing.{beside}
use Rattle.bz_queue.proofs.Sweepable.{calls-name}
use Rattle.bz_queue.proofs.Tables.{tabled-still, ring-of}
use Rattle.bz_queue.proofs.Went.{set-here, set-other, set-length, counter-address, cell-address, may-work, same-past}

-- nobody stores in private
stores-in : (p : Parts) (w v : ℕ) (x : OpenCall) (slot : Option OpenCall) → IsSlot p.numbers.ring p.access p.journal.past p.owners.items p.numbers.workers v slot → (a c : ℕ) → doing_of p.access v ≢ Storing a c
stores-in p w v x None h a c is = cc (is, h.idle)
stores-in p w v x (Some y) h a c is = stores-nothing p.numbers.ring p.access p.journal.past p.owners.items v y.call h.opened.begun y.effect y.place h.place a c is

nobody-stores : (p : Parts) (w : ℕ) (x : OpenCall) → IsBetween p w x → (v a c : ℕ) → doing_of p.access v ≢ Storing a c
nobody-stores p w x b v a c is = elim (cases_eq v w) [
  | inl own ↦ (let both : Storing a c ≡ Idle = sym is ∙ ap (doing_of p.access) own ∙ b.idle in absurd (cc))
  | inr other ↦ stores-in p w v x (get_or p.workers.items v None) (b.others v other) a c is
]

entry-of : (p : Parts) (w : ℕ) (x : OpenCall) (e : Entry) → IsBetween p w x → IsAddress p.access e.target → e.expected < 2 ^ 61 → e.new < 2 ^ 61 → IsEntry p.access e
entry-of p w x e b address expected value = record {
  address = address;
  expected = expected;
  value = value;
  settled = b.memory.calm.settled e.target address.outside;
  not_stored = λ v c. nobody-stores p w x b v e.target c;
}

two-entries : (m : SwapMemory) (first second : Entry) → IsEntry m first → IsEntry m second → All (IsEntry m) (first ∷ second ∷ [])
two-entries m first second one two zero d within = one
two-entries m first second one two (suc zero) d within = two
two-entries m first second one two (suc (suc k)) d within = absurd (omega arith)

-- both counters are at most as many as there are marks
low : (p : Parts) (w : ℕ) (x : OpenCall) → IsBetween p w x → (called : QCall) → counter_now p.access called ≤ length p.journal.past
low p w x b (call.Put item) = b.memory.low
low p w x b call.Take =
    let holds = holds-now p.numbers.ring p.access p.journal.start p.journal.past b.memory.words b.tabled.swaps b.sound.durable.0 in
    omega (arith, holds.counted, b.memory.low)

pub may-swap : (p : Parts) (w : ℕ) (x : OpenCall) (counter word : ℕ) → MustJudge p w x counter word → MaySwap p.access w (change.entries_of p.numbers.ring x.call counter word)
may-swap p w x counter word h = record {
  work = may-work p w x h.look.between;
  each = two-entries p.access _ _
      (entry-of p w x _ h.look.between (counter-address p.numbers.ring p.access x.call h.look.between.tabled.swaps h.look.between.tabled.size)
      (omega (arith, h.look.rose, low p w x h.look.between x.call, h.look.between.tabled.marks, h.look.between.tabled.numbers.marks.at_most))
      (omega (arith, h.look.rose, low p w x h.look.between x.call, h.look.between.tabled.marks, h.look.between.tabled.numbers.marks.at_most)))
      (entry-of p w x _ h.look.between (cell-address p.numbers.ring p.access counter (ring-of p.numbers h.look.between.tabled.numbers) h.look.between.tabled.swaps h.look.between.tabled.size)
      h.plain (omega (arith, h.look.between.opened.fits)));
}

pub appended-here : (begun : List (List Entry)) (entries : List Entry) (s : ℕ) → length begun ≡ s → get_or (begun ++ entries ∷ []) s [] ≡ entries
appended-here begun entries s is = grind (arith, common_steps)

pub appended-before : (begun : List (List Entry)) (entries : List Entry) (s : ℕ) → s < length begun → get_or (begun ++ entries ∷ []) s [] ≡ get_or begun s []
appended-before begun entries s within = grind (arith, common_steps)

module _ (old new : Parts) (w : ℕ) (x : OpenCall) (counter word : ℕ) (h : MustJudge old w x counter word) (suits : change.Suits x.call word) (may : MaySwap old.access w (change.entries_of old.numbers.ring x.call counter word))
    (left : old.access.taken < old.access.swaps) (held : IsHeld (swapping old.access w (change.entries_of old.numbers.ring x.call counter word)))
    (rest : new ≡ record old { access = swapping old.access w (change.entries_of old.numbers.ring x.call counter word); owners = new.owners; workers = new.workers })
    (owners : new.owners.items ≡ slice_set old.owners.items old.access.taken w) (table : new.workers.items ≡ slice_set old.workers.items w (Some (record x { place = Swap counter word }))) (pays : PaysFor old new w)
    (own_alone : IsSparingSlot old.numbers.ring (swapping old.access w (change.entries_of old.numbers.ring x.call counter word)) old.journal.past w (Some (record x { place = Swap counter word }))) where
  abbrev b : IsBetween old w x
  b = h.look.between

  abbrev entries : List Entry
  entries = change.entries_of old.numbers.ring x.call counter word

  abbrev m : SwapMemory
  m = swapping old.access w entries

  abbrev s : ℕ
  s = old.access.taken

  abbrev p : Parts
  p = record old { access = m; owners = new.owners; workers = new.workers }

  within : w < length old.access.workers
  within = omega (arith, b.opened.within, b.tabled.crew)

  own-doing : doing_of m w ≡ Swapping s
  own-doing = ap (λ (it : Working). it.doing) (set-here old.access.workers w (record { doing = Swapping s; flush_next = false }) idle within)

  others-same : (v : ℕ) → v ≢ w → worker_of m v ≡ worker_of old.access v
  others-same v other = set-other old.access.workers w v (record { doing = Swapping s; flush_next = false }) idle other

  leaves : (v : ℕ) → v ≢ w → Leaves old.access m old.journal.past old.journal.past old.owners.items new.owners.items v
  leaves v other = record {
    extends = same-past old.journal.past;
    doing = ap (λ (it : Working). it.doing) (others-same v other);
    is_open = refl;
    numbers = refl;
    rises = λ called. omega arith;
    swap = λ t doing.
        let before : t < old.access.taken = b.memory.owned.begun v t doing in
        record {
          entries = appended-before old.access.begun entries t (omega (arith, b.memory.noted.begun));
          effect = refl;
          owner = ap (λ (all : List ℕ). slice_index all t) owners ∙ set-other old.owners.items s t w 0 (λ same. absurd (omega arith));
        };
  }

  owner-within : s < length old.owners.items
  owner-within = omega (arith, b.tabled.owner_places, b.tabled.swaps)

  at : IsAt old.numbers.ring m old.journal.past new.owners.items w x.call b.opened.begun x.effect (Swap counter word)
  at = record {
    s = s;
    doing = own-doing;
    entries = appended-here old.access.begun entries s b.memory.noted.begun;
    owner = ap (λ (all : List ℕ). slice_index all s) owners ∙ set-here old.owners.items s w 0 owner-within;
    suits = suits;
    rose = h.look.rose;
    changed = subst (IsChanged old.numbers.ring m old.journal.past x.call b.opened.begun word s) (sym h.look.none) (b.memory.unused s (omega arith));
  }

  slot : (v : ℕ) → IsSlot old.numbers.ring m old.journal.past new.owners.items old.numbers.workers v (get_or new.workers.items v None)
  slot v = elim (cases_eq v w) [
    | inl own ↦
        subst (λ (u : ℕ). IsSlot old.numbers.ring m old.journal.past new.owners.items old.numbers.workers u (get_or new.workers.items u None)) (sym own)
        (subst (IsSlot old.numbers.ring m old.journal.past new.owners.items old.numbers.workers w) (sym (ap (λ (all : List (Option OpenCall)). get_or all w None) table ∙ set-here old.workers.items w (Some (record x { place = Swap counter word })) None (place-of old w x b)))
        (let served : IsServed old.numbers.ring m old.journal.past new.owners.items old.numbers.workers w (record x { place = Swap counter word }) = record {
          opened = record { worker = b.opened.worker; within = b.opened.within; fits = b.opened.fits; begun = b.opened.begun; is_open = b.opened.is_open; before = b.opened.before };
          place = at;
        } in served))
    | inr other ↦
        subst (IsSlot old.numbers.ring m old.journal.past new.owners.items old.numbers.workers v) (sym (ap (λ (all : List (Option OpenCall)). get_or all v None) table ∙ set-other old.workers.items w v (Some (record x { place = Swap counter word })) None other))
        (slot-still old.numbers.ring old.access m old.journal.past old.journal.past old.owners.items new.owners.items old.numbers.workers v (get_or old.workers.items v None) (leaves v other) (b.others v other))
  ]

  tabled : IsTabled p
  tabled = tabled-still old p b.tabled (record {
    numbers = refl;
    start = refl;
    most = refl;
    places = ap length table ∙ set-length old.workers.items w (Some (record x { place = Swap counter word }));
    last = refl;
    owner_places = ap length owners ∙ set-length old.owners.items s w;
    begun = refl;
    count = set-length old.access.workers w (record { doing = Swapping s; flush_next = false });
    swaps = refl;
    size = refl;
    calls = λ v. refl;
    begins = refl;
    steps = b.tabled.steps;
    room = omega (arith, b.tabled.marks, b.tabled.most);
    power = b.tabled.powered;
  })

  alone : (v : ℕ) → IsSparingSlot old.numbers.ring m old.journal.past v (get_or new.workers.items v None)
  alone v = elim (cases_eq v w) [
    | inl own ↦
        subst (λ (u : ℕ). IsSparingSlot old.numbers.ring m old.journal.past u (get_or new.workers.items u None)) (sym own)
        (subst (IsSparingSlot old.numbers.ring m old.journal.past w) (sym (ap (λ (all : List (Option OpenCall)). get_or all w None) table ∙ set-here old.workers.items w (Some (record x { place = Swap counter word })) None (place-of old w x b))) own_alone)
    | inr other ↦ beside old.numbers.ring m old.journal.past w v (get_or new.workers.items v None) other (λ none. cc (none, b.opened.is_open))
  ]

  pub swap-begun : WentOn old w Stepped new
  swap-begun = record {
    kept = subst IsAwake (sym rest) (record { on = b.on; tabled = tabled; memory = swapping-memory old.access old.journal w entries b.memory may (calls-name old.numbers.ring old.access.swaps x.call counter word b.tabled.swaps) held; sound = b.sound; slots = slot; sparing = b.sparing; alone = alone });
    numbers = ap (λ (q : Parts). q.numbers) rest;
    start = ap (λ (q : Parts). q.journal.start) rest;
    most = ap (λ (q : Parts). q.journal.most) rest;
    ends = ap (λ (q : Parts). q.journal.past) rest;
    others = λ v other. ap (λ (q : Parts). worker_of q.access v) rest ∙ others-same v other;
    count = ap (λ (q : Parts). length q.access.workers) rest ∙ set-length old.access.workers w (record { doing = Swapping s; flush_next = false });
    pays = pays;
  }
