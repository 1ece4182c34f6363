-- What an open call has left, over its next start and its end.
use Rattle.std.proofs.Common.{◌≡◌, ◌≢◌, ◌≤◌, ◌<◌, ◌+◌, inl, inr, ◌==◌, not, ℕ, zero, suc, Bool, true, false, List, length, get_or, refl, sym, ap, subst, ◌∙◌, arith, Option, Some, None}
use Rattle.std.specs.Prelude.{slice_set}
use Rattle.std.proofs.lemmas.Bool.{cases_eq, eq-eqb, ne_eqb, not_from_false}
use Rattle.bz_word.specs.declared.entry.Entry.{Entry}
use Rattle.bz_swap_machine.specs.Allowed.{counted, for_word, for_swap}
use Rattle.bz_rivals.specs.Rivals.{rivals}
use Rattle.bz_rivals.specs.Wins.{Stand}
use Rattle.bz_rivals.proofs.Proved.{rivals_fall}
use Rattle.bz_swap.specs.Solo.{left_to}
use Rattle.bz_swap.specs.Starts.{started, swapping}
use Rattle.bz_swap.specs.SwapMemory.{SwapMemory, Doing, Working, Idle, Reading, Swapping, idle, doing_of}
use Rattle.bz_swap.proofs.Proved.{solo_steps_are_allowed, solo_steps_are_allowed_by_kind}
use Rattle.bz_ring.specs.declared.calls.QCall.{QCall}
use Rattle.bz_ring.specs.declared.calls.QReply.{QReply}
use Rattle.bz_ring.specs.declared.marks.QMark.{QMark}
use Rattle.bz_ring.specs.declared.marks.QMark.TheVariants.{End}
use Rattle.bz_ring.specs.declared.ring.Ring.{Ring}
use Rattle.bz_ring.specs.Journal.{with_mark}
use Rattle.bz_change.specs.Changes as change
use Rattle.bz_queue.specs.Inside.Going.{IsBetween, MustRead, MustJudge, ReadsAt, Starts}
use Rattle.bz_queue.specs.Inside.Left.{is_lost, is_to_win, left_of, marks_left, own_left, rounds_left, starts_left, PaysFor}
use Rattle.bz_queue.specs.Inside.Serving.{counter_now}
use Rattle.bz_queue.specs.declared.parts.Parts.{Parts}
use Rattle.bz_queue.specs.declared.serving.OpenCall.{OpenCall}
use Rattle.bz_queue.specs.declared.serving.Place.{Place}
use Rattle.bz_queue.specs.declared.serving.Place.TheVariants.{Counter, Cell, Again, Swap}
use Rattle.bz_queue.proofs.Begins.{appended-here, appended-before}
use Rattle.bz_queue.proofs.Movers.{Stays, counted-le, stays-move}
use Rattle.bz_queue.proofs.Went.{set-here, set-other, set-length}
use Rattle.bz_queue.proofs.Winning.{of-well}

-- the sum, part by part, where so much was allowed
sum-same : (l l' k k' v v' o cost : ℕ) → l' ≤ l + cost → k' + cost ≤ k → v' ≡ v → l' + k' + v' + o + 1 ≤ l + k + v + o + 1
sum-same l l' k k' v v' o cost one two three = omega arith

place-within : (p : Parts) (w : ℕ) (x : OpenCall) → IsBetween p w x → w < length p.workers.items
place-within p w x b = omega (arith, b.opened.within, b.tabled.places, b.tabled.numbers.workers.at_most)

-- a start leaves what the others do
stays-start : (m : SwapMemory) (w : ℕ) (doing : Doing) → Stays m (started m w doing) w
stays-start m w doing = record {
  count = set-length m.workers w (record { doing = doing; flush_next = false });
  doing = λ v other. ap (λ (it : Working). it.doing) (set-other m.workers w v (record { doing = doing; flush_next = false }) idle other);
  entries = λ v s is. refl;
  effects = λ s none. none;
}

-- the next read
pub reading-starts : (r : Ring) (m : SwapMemory) (past : List QMark) (w a begun : ℕ) (called : QCall) (place : Place) → ReadsAt r m past w called begun place a
    → starts_left (started m w (Reading a)) w called None place ≤ starts_left m w called None place
reading-starts r m past w a begun called Counter h = omega (arith, stays-move m (started m w (Reading a)) w (change.counter_of called) (stays-start m w (Reading a)) refl)
reading-starts r m past w a begun called (Cell counter) h = omega (arith, stays-move m (started m w (Reading a)) w (change.counter_of called) (stays-start m w (Reading a)) refl)
reading-starts r m past w a begun called (Again counter at) h = omega (arith, stays-move m (started m w (Reading a)) w (change.counter_of called) (stays-start m w (Reading a)) refl)
reading-starts r m past w a begun called (Swap counter word) h = absurd h

module _ (old new : Parts) (w : ℕ) (x : OpenCall) (place : Place) (a : ℕ) (h : MustRead old w x place a)
    (rest : new ≡ record old { access = started old.access w (Reading a); workers = new.workers }) (table : new.workers.items ≡ slice_set old.workers.items w (Some (record x { place = place }))) where
  abbrev m : SwapMemory
  m = started old.access w (Reading a)

  slot : get_or new.workers.items w None ≡ Some (record x { place = place })
  slot = ap (λ (all : List (Option OpenCall)). get_or all w None) table ∙ set-here old.workers.items w (Some (record x { place = place })) None (place-within old w x h.between)

  reading-fewer : starts_left m w x.call x.effect place + for_word ≤ starts_left old.access w x.call x.effect x.place
  reading-fewer =
      let there : starts_left m w x.call None place + for_word ≤ starts_left old.access w x.call None x.place =
      omega (arith, h.pays, reading-starts old.numbers.ring old.access old.journal.past w a h.between.opened.begun x.call place h.reads) in
      subst (λ (effect : Option ℕ). starts_left m w x.call effect place + for_word ≤ starts_left old.access w x.call effect x.place) (sym h.none) there

  reading-left : left_of m w (Some (record x { place = place })) ≤ left_of old.access w (Some x)
  reading-left = sum-same (left_to old.access w) (left_to m w) (starts_left old.access w x.call x.effect x.place) (starts_left m w x.call x.effect place)
      (rivals old.access w) (rivals m w) (own_left x.effect) for_word (solo_steps_are_allowed_by_kind.start old.access w (Reading a)) reading-fewer (rivals_fall.start old.access w (Reading a))

  pub read-pays : PaysFor old new w
  read-pays =
      let now : marks_left new w ≡ left_of m w (Some (record x { place = place })) = ap (λ (q : Parts). left_of q.access w (get_or new.workers.items w None)) rest ∙ ap (left_of m w) slot in
      let before : marks_left old w ≡ left_of old.access w (Some x) = ap (left_of old.access w) h.between.is in
      omega (arith, now, before, reading-left, ap (λ (q : Parts). length q.journal.past) rest)

-- the swap
module _ (old new : Parts) (w : ℕ) (x : OpenCall) (counter word : ℕ) (h : MustJudge old w x counter word)
    (rest : new ≡ record old { access = swapping old.access w (change.entries_of old.numbers.ring x.call counter word); owners = new.owners; workers = new.workers })
    (table : new.workers.items ≡ slice_set old.workers.items w (Some (record x { place = Swap counter word }))) where
  abbrev b : IsBetween old w x
  b = h.look.between

  abbrev entries : List Entry
  entries = change.entries_of old.numbers.ring x.call counter word

  abbrev begun : SwapMemory
  begun = swapping old.access w entries

  abbrev s : ℕ
  s = old.access.taken

  stays : Stays old.access begun w
  stays = record {
    count = set-length old.access.workers w (record { doing = Swapping s; flush_next = false });
    doing = λ v other. ap (λ (it : Working). it.doing) (set-other old.access.workers w v (record { doing = Swapping s; flush_next = false }) idle other);
    entries = λ v t is. appended-before old.access.begun entries t (omega (arith, b.memory.owned.begun v t is, b.memory.noted.begun));
    effects = λ t none. none;
  }

  own-doing : doing_of begun w ≡ Swapping s
  own-doing = ap (λ (it : Working). it.doing) (set-here old.access.workers w (record { doing = Swapping s; flush_next = false }) idle (omega (arith, b.opened.within, b.tabled.crew)))

  -- it is to win, where the counter is what was read
  stand : counter ≡ counter_now old.access x.call → Stand begun entries
  stand same zero d within = sym same
  stand same (suc zero) d within = h.value
  stand same (suc (suc k)) d within = absurd (omega arith)

  wins : counter ≡ counter_now old.access x.call → is_to_win begun s ≡ true
  wins same = of-well begun s (b.memory.noted.missed s (omega arith)) (subst (Stand begun) (sym (appended-here old.access.begun entries s b.memory.noted.begun)) (stand same))

  lost-stale : is_lost begun None (doing_of begun w) ≡ true → not (counter == counter_now old.access x.call) ≡ true
  lost-stale lost = elim (cases_eq counter (counter_now old.access x.call)) [
    | inl same ↦ absurd (
        let there : not (is_to_win begun s) ≡ true = subst (λ (it : Doing). is_lost begun None it ≡ true) own-doing lost in
        let both : not true ≡ true = ap not (sym (wins same)) ∙ there in
        cc)
    | inr other ↦ not_from_false (counter == counter_now old.access x.call) (ne_eqb counter (counter_now old.access x.call) other)
  ]

  pub swap-rounds : rounds_left begun w x.call None (Swap counter word) ≤ rounds_left old.access w x.call None (Cell counter)
  swap-rounds = omega (
    arith,
    stays-move old.access begun w (change.counter_of x.call) stays refl,
    counted-le (is_lost begun None (doing_of begun w)) (not (counter == counter_now old.access x.call)) lost-stale,
  )

  swap-fewer : starts_left begun w x.call x.effect (Swap counter word) + for_swap ≤ starts_left old.access w x.call x.effect x.place
  swap-fewer =
      let there : starts_left begun w x.call None (Swap counter word) + for_swap ≤ starts_left old.access w x.call None (Cell counter) = omega (arith, swap-rounds) in
      subst (λ (place : Place). starts_left begun w x.call x.effect (Swap counter word) + for_swap ≤ starts_left old.access w x.call x.effect place) (sym h.place)
      (subst (λ (effect : Option ℕ). starts_left begun w x.call effect (Swap counter word) + for_swap ≤ starts_left old.access w x.call effect (Cell counter)) (sym h.look.none) there)

  swap-left : left_of begun w (Some (record x { place = Swap counter word })) ≤ left_of old.access w (Some x)
  swap-left = sum-same (left_to old.access w) (left_to begun w) (starts_left old.access w x.call x.effect x.place) (starts_left begun w x.call x.effect (Swap counter word))
      (rivals old.access w) (rivals begun w) (own_left x.effect) for_swap (solo_steps_are_allowed.swap old.access w entries) swap-fewer (rivals_fall.swap old.access w entries)

  pub swap-pays : PaysFor old new w
  swap-pays =
      let slot : get_or new.workers.items w None ≡ Some (record x { place = Swap counter word }) =
      ap (λ (all : List (Option OpenCall)). get_or all w None) table ∙ set-here old.workers.items w (Some (record x { place = Swap counter word })) None (place-within old w x b) in
      let now : marks_left new w ≡ left_of begun w (Some (record x { place = Swap counter word })) = ap (λ (q : Parts). left_of q.access w (get_or new.workers.items w None)) rest ∙ ap (left_of begun w) slot in
      let before : marks_left old w ≡ left_of old.access w (Some x) = ap (left_of old.access w) b.is in
      omega (arith, now, before, swap-left, ap (λ (q : Parts). length q.journal.past) rest)

-- the end
pub end-pays : (old new : Parts) (w : ℕ) (x : OpenCall) (answer : QReply) (moment n : ℕ) → IsBetween old w x → new ≡ record old { journal = with_mark old.journal (End w n answer moment); workers = new.workers }
    → new.workers.items ≡ slice_set old.workers.items w None → PaysFor old new w
end-pays old new w x answer moment n b rest table =
    let slot : get_or new.workers.items w None ≡ None = ap (λ (all : List (Option OpenCall)). get_or all w None) table ∙ set-here old.workers.items w None None (place-within old w x b) in
    let now : marks_left new w ≡ 0 = ap (left_of new.access w) slot in
    let before : marks_left old w ≡ left_of old.access w (Some x) = ap (left_of old.access w) b.is in
    omega (arith, now, before, ap (λ (q : Parts). length q.journal.past) rest)

-- the starts of reads: of the cell, once the counter is read, first and again; of the counter, once the cell did not suit, and once the swap has missed
pub look-starts : (p : Parts) (w : ℕ) (x : OpenCall) (v : ℕ) → x.place ≡ Counter → counter_now p.access x.call ≡ v → Starts p w x (Cell v) for_word
look-starts p w x v place same =
    let fresh : (v == counter_now p.access x.call) ≡ true = eq-eqb v (counter_now p.access x.call) (sym same) in
    subst (λ (it : Place). starts_left p.access w x.call None (Cell v) + for_word ≤ starts_left p.access w x.call None it) (sym place) (omega (arith, ap (λ (b : Bool). counted (not b) 1) fresh))

pub again-starts : (p : Parts) (w : ℕ) (x : OpenCall) (v counter at : ℕ) → x.place ≡ Again counter at → counter_now p.access x.call ≡ v → v ≢ counter → Starts p w x (Cell v) for_word
again-starts p w x v counter at place same other =
    let fresh : (v == counter_now p.access x.call) ≡ true = eq-eqb v (counter_now p.access x.call) (sym same) in
    let stale : (counter == counter_now p.access x.call) ≡ false = ne_eqb counter (counter_now p.access x.call) (λ is. other (sym same ∙ sym is)) in
    subst (λ (it : Place). starts_left p.access w x.call None (Cell v) + for_word ≤ starts_left p.access w x.call None it) (sym place)
    (omega (arith, ap (λ (b : Bool). counted (not b) 1) fresh, ap (λ (b : Bool). counted (not b) 1) stale))

pub cell-starts : (p : Parts) (w : ℕ) (x : OpenCall) (counter at : ℕ) → x.place ≡ Cell counter → Starts p w x (Again counter at) for_word
cell-starts p w x counter at place = subst (λ (it : Place). starts_left p.access w x.call None (Again counter at) + for_word ≤ starts_left p.access w x.call None it) (sym place) (omega arith)

pub miss-starts : (p : Parts) (w : ℕ) (x : OpenCall) (counter word : ℕ) → x.place ≡ Swap counter word → doing_of p.access w ≡ Idle → Starts p w x Counter for_word
miss-starts p w x counter word place idle_is =
    subst (λ (it : Place). starts_left p.access w x.call None Counter + for_word ≤ starts_left p.access w x.call None it) (sym place)
    (omega (arith, ap (λ (it : Doing). counted (is_lost p.access None it) 1) idle_is))
