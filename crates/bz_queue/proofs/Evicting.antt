-- What an eviction leaves to each open call: no more than before, and the mark of its effect is of what was left.
use Rattle.std.proofs.Common.{◌≡◌, ◌≢◌, ◌<◌, ◌≤◌, ◌+◌, ℕ, List, length, get_or, sym, ap, subst, ◌∙◌, arith, refl, Option, Some, None}
use Rattle.bz_swap.specs.Effects.{TakesEffect}
use Rattle.bz_swap.specs.Held.{IsHeld}
use Rattle.bz_swap.specs.SwapMemory.{SwapMemory, doing_of}
use Rattle.bz_ring.specs.Calls.{open_call}
use Rattle.bz_ring.specs.declared.calls.QCall.{QCall}
use Rattle.bz_change.specs.Values.{IsChanged, IsSwapOf}
use Rattle.bz_change.proofs.Proved.{effects_change}
use Rattle.bz_queue.specs.Inside.Acted.{HasMarked, IsEvicted}
use Rattle.bz_queue.specs.Inside.Kept.{IsAwake}
use Rattle.bz_queue.specs.Inside.Left.{left_of, marks_left}
use Rattle.bz_queue.specs.Inside.Serving.{IsSlot, with_moment}
use Rattle.bz_queue.specs.QueueView.{IsStruck}
use Rattle.bz_queue.specs.declared.parts.Parts.{Parts}
use Rattle.bz_queue.specs.declared.serving.OpenCall.{OpenCall}
use Rattle.bz_queue.proofs.Acted.{holds-held}
use Rattle.bz_queue.proofs.Evicted.{none, quiet}
use Rattle.bz_queue.proofs.Fewer.{eviction-spends, quiet-left, struck-left}
use Rattle.bz_queue.proofs.Left.{struck-length}
use Rattle.bz_queue.proofs.Striking.{evicts-effect}
use Rattle.bz_queue.proofs.Went.{set-other}

-- what is left to the workers
pub record LeavesMarks (old new : Parts) : Type 0 where
  pub no_more : (w : ℕ) → marks_left new w ≤ marks_left old w
  pub pays : (w : ℕ) → open_call w old.journal.past ≢ None → length new.journal.past + marks_left new w ≤ length old.journal.past + marks_left old w + 1

-- an eviction without effect
module _ (old new : Parts) (a : ℕ) (k : IsAwake old) (room : length old.journal.past < old.journal.most) (e : IsEvicted old a None new) where
  by-slot : (w : ℕ) (slot : Option OpenCall) → IsSlot old.numbers.ring old.access old.journal.past old.owners.items old.numbers.workers w slot → left_of new.access w slot ≤ left_of old.access w slot
  by-slot w None h = omega arith
  by-slot w (Some x) h = omega (
    arith,
    quiet-left old.numbers.ring old.access new.access old.journal.past old.owners.items old.numbers.workers w 0 x (eviction-spends old.access new.access w a None k.memory.calm.phase e.eviction) (none old new a k room e).swaps (quiet old new a k room e).1 h,
  )

  less : (w : ℕ) → marks_left new w ≤ marks_left old w
  less w = subst (λ (q : Parts). marks_left q w ≤ marks_left old w) (sym e.rest) (by-slot w (get_or old.workers.items w None) (k.slots w))

  pub quiet-leaves-marks : LeavesMarks old new
  quiet-leaves-marks = record { no_more = less; pays = λ w open_is. omega (arith, less w, ap (λ (q : Parts). length q.journal.past) e.rest) }

-- one that gave a swap its effect, which was marked
module _ (old mid new : Parts) (a s : ℕ) (k : IsAwake old) (e : IsEvicted old a (Some s) mid) (marked : HasMarked mid s new) (struck : IsStruck mid.journal.past new.journal.past) (access : new.access ≡ mid.access) where
  held : IsHeld mid.access
  held = holds-held mid.access.phase mid.access (λ is. k.memory.calm.phase (sym (ap (λ (m : SwapMemory). m.phase) e.eviction.is) ∙ is)) e.held

  takes : TakesEffect old.access mid.access s
  takes = evicts-effect old.access mid.access a (Some s) k.memory.calm.phase e.eviction

  changed : (called : QCall) (counter word : ℕ) → IsSwapOf old.numbers.ring old.access s called counter word → IsChanged old.numbers.ring old.access mid.access called counter word
  changed called counter word is = (effects_change.eviction old.numbers.ring old.access mid.access a s called counter word k.memory.calm held e.eviction is).1

  slots-same : mid.workers.items ≡ old.workers.items
  slots-same = ap (λ (q : Parts). q.workers.items) e.rest

  left-open : (w : ℕ) → open_call w old.journal.past ≢ None → marks_left new w + 1 ≤ marks_left old w
  left-open w open_is = omega (
    arith,
    struck-left old mid new w 0 s k open_is (eviction-spends old.access mid.access w a (Some s) k.memory.calm.phase e.eviction) takes changed (λ v. ap (λ (m : SwapMemory). doing_of m v) e.eviction.is) slots-same marked access,
  )

  -- a worker without a call has nothing left
  left-none : (w : ℕ) → get_or old.workers.items w None ≡ None → marks_left new w ≡ 0
  left-none w is =
      let here : get_or mid.workers.items w None ≡ None = ap (λ (all : List (Option OpenCall)). get_or all w None) slots-same ∙ is in
      let other : w ≢ marked.v = λ same. (let both : Some marked.x ≡ None = sym marked.was ∙ ap (λ (v : ℕ). get_or mid.workers.items v None) (sym same) ∙ here in cc) in
      ap (left_of new.access w) (ap (λ (all : List (Option OpenCall)). get_or all w None) marked.table ∙ set-other mid.workers.items marked.v w (Some (with_moment (length mid.journal.past) marked.x)) None other ∙ here)

  by-call : (w : ℕ) (slot : Option OpenCall) → get_or old.workers.items w None ≡ slot → IsSlot old.numbers.ring old.access old.journal.past old.owners.items old.numbers.workers w slot → marks_left new w ≤ marks_left old w
  by-call w None is h = omega (arith, left-none w is)
  by-call w (Some x) is h = omega (arith, left-open w (λ no_call. cc (no_call, h.opened.is_open)))

  pub struck-leaves-marks : LeavesMarks old new
  struck-leaves-marks = record {
    no_more = λ w. by-call w (get_or old.workers.items w None) refl (k.slots w);
    pays = λ w open_is. omega (arith, left-open w open_is, struck-length mid.journal.past new.journal.past struck, ap (λ (q : Parts). length q.journal.past) e.rest);
  }
