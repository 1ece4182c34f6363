-- What an open call has left falls with each act of its worker, by the marks of the act.
use Rattle.std.proofs.Common.{◌≡◌, ◌≢◌, ◌≤◌, ◌+◌, inl, inr, ℕ, List, length, get_or, sym, ap, subst, ◌∙◌, arith, Option, Some, None}
use Rattle.std.proofs.lemmas.Bool.{cases_eq}
use Rattle.bz_swap_acts.specs.declared.acted.Act.{Act}
use Rattle.bz_swap_machine.specs.declared.done.Done.{Done}
use Rattle.bz_swap.specs.Held.{IsHeld}
use Rattle.bz_swap.specs.Steps.{doing_after}
use Rattle.bz_swap.specs.SwapMemory.{Working, doing_of}
use Rattle.bz_ring.specs.Calls.{open_call}
use Rattle.bz_ring.specs.Journal.{with_mark}
use Rattle.bz_ring.specs.declared.calls.QCall.{QCall}
use Rattle.bz_ring.specs.declared.marks.QMark.{QMark}
use Rattle.bz_ring.specs.declared.marks.QMark.TheVariants.{Memory}
use Rattle.bz_swap_marks.specs.Marks.{mark_of}
use Rattle.bz_change.specs.Values.{SameValues, IsChanged, IsSwapOf}
use Rattle.bz_change.proofs.Proved.{effects_change}
use Rattle.bz_queue.specs.Inside.Acted.{HasMarked, IsActed}
use Rattle.bz_queue.specs.Inside.Kept.{IsAwake}
use Rattle.bz_queue.specs.Inside.Left.{left_of, PaysFor}
use Rattle.bz_queue.specs.QueueView.{IsStruck}
use Rattle.bz_queue.specs.declared.parts.Parts.{Parts}
use Rattle.bz_queue.specs.declared.serving.OpenCall.{OpenCall}
use Rattle.bz_queue.proofs.Acted.{holds-held}
use Rattle.bz_queue.proofs.Acting.{IsServing, is-serving, quiet}
use Rattle.bz_queue.proofs.Fewer.{quiet-left, step-spends, struck-left}
use Rattle.bz_queue.proofs.Striking.{busy-then}

pub struck-length : (past new : List QMark) → IsStruck past new → length new ≤ length past + 1
struck-length past new (inl same) = omega (arith, ap length same)
struck-length past new (inr (w, (n, is))) = omega (arith, ap length is)

-- an act without effect
module _ (old new : Parts) (w : ℕ) (made : Act) (ended : Done) (k : IsAwake old) (open_is : open_call w old.journal.past ≢ None) (a : IsActed old w made ended None new) where
  abbrev serving : IsServing old.numbers.ring old.access old.journal.past old.owners.items old.numbers.workers w (get_or old.workers.items w None)
  serving = is-serving old.numbers.ring old.access old.journal.past old.owners.items old.numbers.workers w (get_or old.workers.items w None) open_is (k.slots w)

  abbrev x : OpenCall
  x = serving.x

  held-after : IsHeld new.access
  held-after = holds-held new.access.phase new.access (λ is. k.memory.calm.phase (sym a.step.one.others.phase ∙ is)) a.held

  same : SameValues old.access new.access
  same = (quiet old.numbers.ring old.access new.access old.journal old.owners.items old.numbers.workers w made ended k.tabled.swaps k.memory k.sound x serving.served held-after a.step).1

  less : left_of new.access w (Some x) + 1 ≤ left_of old.access w (Some x)
  less = quiet-left old.numbers.ring old.access new.access old.journal.past old.owners.items old.numbers.workers w 1 x (step-spends old.access new.access w made ended None a.step) a.step.effect.swaps same serving.served

  abbrev p : Parts
  p = record old { access = new.access; journal = with_mark old.journal (Memory (mark_of w made)) }

  pub quiet-pays : PaysFor old new w
  quiet-pays =
      subst (λ (q : Parts). PaysFor old q w) (sym a.rest)
      (subst (λ (slot : Option OpenCall). length p.journal.past + left_of new.access w slot ≤ length old.journal.past + left_of old.access w slot) (sym serving.is) (omega (arith, less)))

-- an act that gave a swap its effect, which was marked
module _ (old mid new : Parts) (w : ℕ) (made : Act) (ended : Done) (s : ℕ) (k : IsAwake old) (open_is : open_call w old.journal.past ≢ None) (a : IsActed old w made ended (Some s) mid) (marked : HasMarked mid s new)
    (struck : IsStruck mid.journal.past new.journal.past) (access : new.access ≡ mid.access) where
  held : IsHeld mid.access
  held = holds-held mid.access.phase mid.access (λ is. k.memory.calm.phase (sym a.step.one.others.phase ∙ is)) a.held

  changed : (called : QCall) (counter word : ℕ) → IsSwapOf old.numbers.ring old.access s called counter word → IsChanged old.numbers.ring old.access mid.access called counter word
  changed called counter word is = (effects_change.step old.numbers.ring old.access mid.access w made ended s called counter word k.memory.calm held a.step is).1

  still : (v : ℕ) → doing_of mid.access v ≡ doing_of old.access v
  still v = elim (cases_eq v w) [
    | inl own ↦ ap (doing_of mid.access) own ∙ (a.step.one.doing ∙ ap (doing_after (doing_of old.access w)) (busy-then ended s a.step.later)) ∙ ap (doing_of old.access) (sym own)
    | inr other ↦ ap (λ (it : Working). it.doing) (a.step.one.others.workers v other)
  ]

  longer : length new.journal.past ≤ length old.journal.past + 2
  longer = omega (arith, struck-length mid.journal.past new.journal.past struck, ap (λ (q : Parts). length q.journal.past) a.rest)

  pub struck-pays : PaysFor old new w
  struck-pays = omega (
    arith,
    longer,
    struck-left old mid new w 1 s k open_is (step-spends old.access mid.access w made ended (Some s) a.step) a.step.effect changed still (ap (λ (q : Parts). q.workers.items) a.rest) marked access,
  )
