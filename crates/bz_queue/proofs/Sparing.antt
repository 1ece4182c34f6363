-- A call beside which no other is open need not go back, and takes one descriptor at most.
use Rattle.std.proofs.Common.{◌≡◌, ◌≢◌, ◌<◌, ◌≤◌, ◌+◌, ◌*◌, inl, inr, ℕ, Bool, true, false, List, ◌∷◌, refl, sym, ap, ◌∙◌, arith, Option, Some, None}
use Rattle.std.proofs.lemmas.Bool.{cases_Bool}
use Rattle.bz_mark.specs.Counts.{is_taken}
use Rattle.bz_mark.specs.Times.{since_on}
use Rattle.bz_mark.specs.declared.marks.Mark.{Mark}
use Rattle.bz_swap_machine.specs.Allowed.{counted}
use Rattle.bz_swap.specs.SwapMemory.{SwapMemory, Idle, Swapping, has_effect, doing_of}
use Rattle.bz_ring.specs.declared.calls.QCall.{QCall}
use Rattle.bz_ring.specs.declared.calls.QReply.{QReply}
use Rattle.bz_ring.specs.declared.marks.QMark.{QMark}
use Rattle.bz_ring.specs.declared.marks.QMark.TheVariants.{End, Memory}
use Rattle.bz_ring.specs.declared.ring.Ring.{Ring}
use Rattle.bz_ring.specs.Calls.{Open, open_call, begun_calls}
use Rattle.bz_ring.specs.Journal.{at_moment, memory_of}
use Rattle.bz_ring.specs.Solitary.{taken_in}
use Rattle.bz_ring.proofs.EachMoment.{at_moment-earlier}
use Rattle.bz_ring.proofs.Proved.{none_is_open_beside}
use Rattle.bz_change.specs.Changes as change
use Rattle.bz_change.specs.Values.{SameValues}
use Rattle.bz_queue.specs.Acts.{IsPlain}
use Rattle.bz_queue.specs.Inside.Kept.{AreShown}
use Rattle.bz_queue.specs.Inside.Left.{is_stale, for_place, for_round, may_move, rounds_left}
use Rattle.bz_queue.specs.Inside.Serving.{IsOpened, IsServed, IsSlot}
use Rattle.bz_queue.specs.Inside.Sparing.{IsAlone, IsSparingSlot, swaps_at}
use Rattle.bz_queue.specs.declared.serving.OpenCall.{OpenCall}
use Rattle.bz_queue.specs.declared.serving.Place.{Place}
use Rattle.bz_queue.specs.declared.serving.Place.TheVariants.{Counter, Cell, Again, Swap}
use Rattle.bz_queue.proofs.Counts.{below-passing, passing-count}
use Rattle.bz_queue.proofs.Marks.{plain-calls}
use Rattle.bz_queue.proofs.Movers.{none-move}
use Rattle.bz_queue.proofs.Rounds.{LeavesSwaps, quiet-rounds}

-- a worker without an open call does nothing
pub idle-slot : (r : Ring) (m : SwapMemory) (past : List QMark) (owners : List ℕ) (crew v : ℕ) (slot : Option OpenCall) → open_call v past ≡ None → IsSlot r m past owners crew v slot → doing_of m v ≡ Idle
idle-slot r m past owners crew v None none h = h.idle
idle-slot r m past owners crew v (Some x) none h = absurd (cc (none, h.opened.is_open))

-- where all others do nothing no counter can be moved
pub nobody-moves : (m : SwapMemory) (w a : ℕ) → ((v : ℕ) → v ≢ w → doing_of m v ≡ Idle) → may_move m w a ≡ false
nobody-moves m w a idle = none-move m w a (λ v mover. (let both : Swapping mover.s ≡ Idle = sym mover.doing ∙ idle v mover.other in cc))

-- so a call that is not to go back for what it has found has no round left
pub no-rounds : (m : SwapMemory) (w : ℕ) (called : QCall) (effect : Option ℕ) (place : Place) → ((v : ℕ) → v ≢ w → doing_of m v ≡ Idle) → is_stale m w called effect place ≡ false → rounds_left m w called effect place ≡ 0
no-rounds m w called effect place idle fresh = omega (arith, ap (λ (b : Bool). counted b 1) fresh, ap (λ (b : Bool). counted b 1) (nobody-moves m w (change.counter_of called) idle))

-- beside an open call no other is solitary
pub beside : (r : Ring) (m : SwapMemory) (past : List QMark) (w v : ℕ) (slot : Option OpenCall) → v ≢ w → open_call w past ≢ None → IsSparingSlot r m past v slot
beside r m past w v None other is_open = tt
beside r m past w v (Some x) other is_open = λ opened is solitary. absurd (is_open (none_is_open_beside v w past solitary (λ same. other (sym same))))

-- the descriptors that the journal shows are those that are taken, where nobody does a swap
abbrev shows : List QMark → ℕ → Bool
shows past s = is_taken s (since_on (memory_of past))

shown-below : (m : SwapMemory) (past : List QMark) (s : ℕ) → m.taken ≤ m.swaps → AreShown m past → ((v s : ℕ) → doing_of m v ≡ Swapping s → ⊥) → s < m.taken → shows past s ≡ true
shown-below m past s few shown nobody below = elim (shown.begun s below) [
  | inl does ↦ absurd (nobody does.0 s does.1)
  | inr stored ↦ shown.shown s (omega arith) stored
]

shown-only : (m : SwapMemory) (past : List QMark) (s : ℕ) → AreShown m past → s < m.swaps → m.taken ≤ s → shows past s ≡ false
shown-only m past s shown within above = elim (cases_Bool (shows past s)) [
  | inl is ↦ absurd (let below : s < m.taken = shown.only s within is in omega arith)
  | inr other ↦ other
]

pub taken-told : (r : Ring) (m : SwapMemory) (past : List QMark) → m.swaps ≡ r.swaps → m.taken ≤ m.swaps → AreShown m past → ((v s : ℕ) → doing_of m v ≡ Swapping s → ⊥) → taken_in r past ≡ m.taken
taken-told r m past swaps few shown nobody =
    sym (passing-count (shows past) 0 r.swaps)
    ∙ below-passing (shows past) 0 r.swaps m.taken (omega (arith, few, swaps)) (λ s low high. shown-below m past s few shown nobody (omega arith)) (λ s low high. shown-only m past s shown (omega (arith, swaps)) (omega arith))

-- the open call of a worker is one
pub same-begun : (past : List QMark) (crew w : ℕ) (x : OpenCall) (h : IsOpened past crew w x) (opened : Open) → open_call w past ≡ Some opened → opened.begun ≡ h.begun
same-begun past crew w x h opened is =
    let there : Open = record { number = begun_calls w past; call = x.call; begun = h.begun; effect = x.effect } in
    let one : opened ≡ there = (let both : Some opened ≡ Some there = sym is ∙ h.is_open in cc) in
    ap (λ (o : Open). o.begun) one

pub same-effect : (past : List QMark) (crew w : ℕ) (x : OpenCall) (h : IsOpened past crew w x) (opened : Open) → open_call w past ≡ Some opened → opened.effect ≡ x.effect
same-effect past crew w x h opened is =
    let there : Open = record { number = begun_calls w past; call = x.call; begun = h.begun; effect = x.effect } in
    let one : opened ≡ there = (let both : Some opened ≡ Some there = sym is ∙ h.is_open in cc) in
    ap (λ (o : Open). o.effect) one

-- it stays so where nothing of it changes
pub still-alone : (r : Ring) (m m' : SwapMemory) (past past' : List QMark) (w begun : ℕ) (x x' : OpenCall) → at_moment begun past' ≡ at_moment begun past → rounds_left m' w x'.call x'.effect x'.place ≡ 0 → m'.taken ≡ m.taken → swaps_at x'.place ≡ swaps_at x.place
    → IsAlone r m past w begun x → IsAlone r m' past' w begun x'
still-alone r m m' past past' w begun x x' earlier rounds taken swaps h = record { rounds = rounds; taken = taken ∙ h.taken ∙ ap (λ (k : ℕ). taken_in r (at_moment begun past) + k) (sym swaps) ∙ ap (λ (z : List QMark). taken_in r z + swaps_at x'.place) (sym earlier) }

-- and once the other's call has ended
pub beside-ended : (r : Ring) (m : SwapMemory) (past : List QMark) (w v n at : ℕ) (answer : QReply) (slot : Option OpenCall) → v ≢ w → open_call w past ≢ None → IsSparingSlot r m (End w n answer at ∷ past) v slot
beside-ended r m past w v n at answer None other is_open = tt
beside-ended r m past w v n at answer (Some x) other is_open = λ opened is solitary. absurd (is_open (none_is_open_beside v w past solitary (λ same. other (sym same))))

-- an act of its worker, or an eviction, without an effect
pub alone-quiet : (r : Ring) (old new : SwapMemory) (past : List QMark) (owners : List ℕ) (crew w : ℕ) (memory : Mark) (x : OpenCall) → LeavesSwaps old new w → ((s : ℕ) → has_effect new s ≡ has_effect old s) → SameValues old new → new.taken ≡ old.taken → IsPlain memory
    → IsServed r old past owners crew w x → IsSparingSlot r old past w (Some x) → IsSparingSlot r new (Memory memory ∷ past) w (Some x)
alone-quiet r old new past owners crew w memory x leaves none same taken plain served alone = λ opened is solitary.
    let was : open_call w past ≡ Some opened = sym (plain-calls w past memory plain) ∙ is in
    let h = alone opened was solitary in
    let begun : opened.begun ≡ served.opened.begun = same-begun past crew w x served.opened opened was in
    still-alone r old new past (Memory memory ∷ past) w opened.begun x x (at_moment-earlier opened.begun (Memory memory) past (omega (arith, begun, served.opened.before)))
    (omega (arith, h.rounds, quiet-rounds r old new past owners w leaves none same x.call served.opened.begun x.effect x.place served.place)) taken refl h

-- without a round left nothing is paid for one, and no start of a read comes after a swap
pub no-round-paid : (place place' : Place) (rounds rounds' cost : ℕ) → 0 < cost → for_place place' + for_round * rounds' + cost ≤ for_place place + for_round * rounds → rounds ≡ 0 → rounds' ≡ 0
no-round-paid Counter place' rounds rounds' cost some pays none = omega arith
no-round-paid (Cell counter) place' rounds rounds' cost some pays none = omega arith
no-round-paid (Again counter at) place' rounds rounds' cost some pays none = omega arith
no-round-paid (Swap counter word) place' rounds rounds' cost some pays none = omega arith

pub no-swap-before : (place place' : Place) (rounds rounds' cost : ℕ) → 0 < cost → for_place place' + for_round * rounds' + cost ≤ for_place place + for_round * rounds → rounds ≡ 0 → swaps_at place ≡ 0
no-swap-before Counter place' rounds rounds' cost some pays none = refl
no-swap-before (Cell counter) place' rounds rounds' cost some pays none = refl
no-swap-before (Again counter at) place' rounds rounds' cost some pays none = refl
no-swap-before (Swap counter word) place' rounds rounds' cost some pays none = absurd (omega arith)
