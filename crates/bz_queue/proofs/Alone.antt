-- A call beside which no other is open, over its starts: no read comes after a swap of it, and a swap takes its one descriptor.
use Rattle.std.proofs.Common.{◌≡◌, ◌≤◌, ◌+◌, ℕ, List, refl, sym, ap, subst, ◌∙◌, arith, Option, Some, None}
use Rattle.bz_swap_machine.specs.Allowed.{for_word}
use Rattle.bz_swap.specs.Starts.{started, swapping}
use Rattle.bz_swap.specs.SwapMemory.{SwapMemory, Reading}
use Rattle.bz_ring.specs.declared.calls.QCall.{QCall}
use Rattle.bz_ring.specs.declared.marks.QMark.{QMark}
use Rattle.bz_ring.specs.declared.ring.Ring.{Ring}
use Rattle.bz_ring.specs.Journal.{at_moment}
use Rattle.bz_ring.specs.Solitary.{taken_in}
use Rattle.bz_change.specs.Changes as change
use Rattle.bz_queue.specs.Inside.Going.{MustRead, MustJudge, ReadsAt}
use Rattle.bz_queue.specs.Inside.Left.{rounds_left, starts_left}
use Rattle.bz_queue.specs.Inside.Sparing.{IsSparingSlot, swaps_at}
use Rattle.bz_queue.specs.declared.parts.Parts.{Parts}
use Rattle.bz_queue.specs.declared.serving.OpenCall.{OpenCall}
use Rattle.bz_queue.specs.declared.serving.Place.{Place}
use Rattle.bz_queue.specs.declared.serving.Place.TheVariants.{Counter, Cell, Again, Swap}
use Rattle.bz_queue.proofs.Pays.{reading-starts}
use Rattle.bz_queue.proofs.Sparing.{no-round-paid, no-swap-before, still-alone}

-- a read is no swap
reads-none : (r : Ring) (m : SwapMemory) (past : List QMark) (w : ℕ) (called : QCall) (begun : ℕ) (place : Place) (a : ℕ) → ReadsAt r m past w called begun place a → swaps_at place ≡ 0
reads-none r m past w called begun Counter a h = refl
reads-none r m past w called begun (Cell counter) a h = refl
reads-none r m past w called begun (Again counter at) a h = refl
reads-none r m past w called begun (Swap counter word) a h = absurd h

pub read-alone : (p : Parts) (w : ℕ) (x : OpenCall) (place : Place) (a : ℕ) → MustRead p w x place a → IsSparingSlot p.numbers.ring (started p.access w (Reading a)) p.journal.past w (Some (record x { place = place }))
read-alone p w x place a h opened is solitary =
    let b = h.between in
    let m : SwapMemory = started p.access w (Reading a) in
    let its = b.alone opened is solitary in
    let none_before : rounds_left p.access w x.call None x.place ≡ 0 = subst (λ (effect : Option ℕ). rounds_left p.access w x.call effect x.place ≡ 0) h.none its.rounds in
    let pays : starts_left m w x.call None place + for_word ≤ starts_left p.access w x.call None x.place = omega (arith, h.pays, reading-starts p.numbers.ring p.access p.journal.past w a b.opened.begun x.call place h.reads) in
    let none_after : rounds_left m w x.call None place ≡ 0 = no-round-paid x.place place (rounds_left p.access w x.call None x.place) (rounds_left m w x.call None place) for_word (omega arith) pays none_before in
    let no_swap : swaps_at x.place ≡ 0 = no-swap-before x.place place (rounds_left p.access w x.call None x.place) (rounds_left m w x.call None place) for_word (omega arith) pays none_before in
    still-alone p.numbers.ring p.access m p.journal.past p.journal.past w opened.begun x (record x { place = place }) refl (subst (λ (effect : Option ℕ). rounds_left m w x.call effect place ≡ 0) (sym h.none) none_after) refl
    (reads-none p.numbers.ring p.access p.journal.past w x.call b.opened.begun place a h.reads ∙ sym no_swap) its

pub swap-alone : (p : Parts) (w : ℕ) (x : OpenCall) (counter word : ℕ) → MustJudge p w x counter word
    → rounds_left (swapping p.access w (change.entries_of p.numbers.ring x.call counter word)) w x.call None (Swap counter word) ≤ rounds_left p.access w x.call None (Cell counter)
    → IsSparingSlot p.numbers.ring (swapping p.access w (change.entries_of p.numbers.ring x.call counter word)) p.journal.past w (Some (record x { place = Swap counter word }))
swap-alone p w x counter word h fewer opened is solitary =
    let m : SwapMemory = swapping p.access w (change.entries_of p.numbers.ring x.call counter word) in
    let its = h.look.between.alone opened is solitary in
    let none_before : rounds_left p.access w x.call None (Cell counter) ≡ 0 =
    subst (λ (place : Place). rounds_left p.access w x.call None place ≡ 0) h.place (subst (λ (effect : Option ℕ). rounds_left p.access w x.call effect x.place ≡ 0) h.look.none its.rounds) in
    let none_after : rounds_left m w x.call None (Swap counter word) ≡ 0 = omega (arith, fewer, none_before) in
    let taken : p.access.taken ≡ taken_in p.numbers.ring (at_moment opened.begun p.journal.past) + 0 = its.taken ∙ ap (λ (place : Place). taken_in p.numbers.ring (at_moment opened.begun p.journal.past) + swaps_at place) h.place in
    record {
      rounds = subst (λ (effect : Option ℕ). rounds_left m w x.call effect (Swap counter word) ≡ 0) (sym h.look.none) none_after;
      taken = omega (arith, taken);
    }
