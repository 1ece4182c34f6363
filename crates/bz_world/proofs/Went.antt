-- What an act of a worker at which no swap took effect leads to, whatever its task asked for.
use Rattle.std.proofs.Common.{◌≡◌, ℕ, ◌*◌, ◌<◌, true, false, length, refl, subst, Some, None}
use Rattle.std.specs.Prelude.{get_or}
use Rattle.bz_swap_acts.specs.declared.acted.Act.{Act}
use Rattle.bz_swap_machine.specs.declared.done.Done.{Done}
use Rattle.bz_swap_machine.specs.declared.done.Done.TheVariants as done
use Rattle.bz_swap.specs.Steps.{IsAnswer}
use Rattle.bz_swap.specs.SwapMemory.{Doing, Reading, Swapping, Storing, Flushing, doing_of}
use Rattle.bz_task.specs.declared.todo.Seen.TheVariants as seen
use Rattle.bz_task.specs.declared.todo.Todo.{Todo}
use Rattle.bz_task.specs.declared.todo.Todo.TheVariants as todo
use Rattle.bz_world.specs.Inside.Acted.{IsActed, IsTold}
use Rattle.bz_world.specs.Inside.Kept.{IsAwake}
use Rattle.bz_world.specs.Inside.Serving.{IsServing, IsDoing}
use Rattle.bz_world.specs.declared.parts.Parts.{Parts}
use Rattle.bz_world.specs.declared.serving.OpenCall.{OpenCall}
use Rattle.bz_world.specs.Inside.Laws.{StepLaws}
use Rattle.bz_world.specs.Inside.Paid.{stock_of}
use Rattle.bz_world.proofs.Quiet.{serves}
use Rattle.bz_world.proofs.Answered.{busy-on, told-read, told-swap, told-flush}
use Rattle.bz_world.proofs.Stored.{told-store}

-- the call goes on, or its task is to be told
abbrev pub Went : Parts → ℕ → OpenCall → Done → Type 0
Went p w x done.Busy = IsAwake p
Went p w x (done.Read v) = IsTold p w x (seen.Read v)
Went p w x (done.Swapped won) = IsTold p w x (seen.Swapped won)
Went p w x done.Stored = IsTold p w x seen.Stored
Went p w x done.Flushed = IsTold p w x seen.Flushed

module _ (b : StepLaws) (old new : Parts) (w : ℕ) (x : OpenCall) (made : Act) (answer : Done) (k : IsAwake old) (is-worker : get_or old.workers.items w None ≡ Some x) (a : IsActed old w made answer None new) (room : length old.journal.past < old.config.marks) where
  abbrev its : IsServing old.config old.access old.journal k.story old.owners.items (stock_of old) w x
  its = serves old k w x is-worker

  reads : (c : ℕ) → its.asked ≡ todo.Read c → doing_of old.access w ≡ Reading c → (z : Done) → answer ≡ z → IsAnswer new.access (Reading c) made z → Went new w x z
  reads c asked doing done.Busy e h = busy-on b old new w x made answer k is-worker a room (λ d u f. absurd (cc (doing, f))) e
  reads c asked doing (done.Read v) e h = told-read b old new w x made answer k is-worker a room (λ d u f. absurd (cc (doing, f))) c v asked doing h e
  reads c asked doing (done.Swapped won) e h = absurd h
  reads c asked doing done.Stored e h = absurd h
  reads c asked doing done.Flushed e h = absurd h

  swaps : (entries : _) (t : ℕ) → its.asked ≡ todo.Swap entries → doing_of old.access w ≡ Swapping t → (z : Done) → answer ≡ z → IsAnswer new.access (Swapping t) made z → Went new w x z
  swaps entries t asked doing done.Busy e h = busy-on b old new w x made answer k is-worker a room (λ d u f. absurd (cc (doing, f))) e
  swaps entries t asked doing (done.Read v) e h = absurd h
  swaps entries t asked doing (done.Swapped true) e h = told-swap b old new w x made answer k is-worker a room (λ d u f. absurd (cc (doing, f))) entries t true asked doing h e
  swaps entries t asked doing (done.Swapped false) e h = told-swap b old new w x made answer k is-worker a room (λ d u f. absurd (cc (doing, f))) entries t false asked doing h.0 e
  swaps entries t asked doing done.Stored e h = absurd h
  swaps entries t asked doing done.Flushed e h = absurd h

  flushes : (line : ℕ) → its.asked ≡ todo.Flush line → doing_of old.access w ≡ Flushing line → line * 8 < length old.access.cached → (z : Done) → answer ≡ z → IsAnswer new.access (Flushing line) made z → Went new w x z
  flushes line asked doing within done.Busy e h = busy-on b old new w x made answer k is-worker a room (λ d u f. absurd (cc (doing, f))) e
  flushes line asked doing within (done.Read v) e h = absurd h
  flushes line asked doing within (done.Swapped won) e h = absurd h
  flushes line asked doing within done.Stored e h = absurd h
  flushes line asked doing within done.Flushed e h = told-flush b old new w x made answer k is-worker a room (λ d u f. absurd (cc (doing, f))) line asked doing within (λ f. absurd (cc (e, f)))

  stores : (d u : ℕ) → its.asked ≡ todo.Store d u → doing_of old.access w ≡ Storing d u → d < length old.access.cached → (z : Done) → answer ≡ z → IsAnswer new.access (Storing d u) made z → Went new w x z
  stores d u asked doing within done.Busy e h = absurd h
  stores d u asked doing within (done.Read v) e h = absurd h
  stores d u asked doing within (done.Swapped won) e h = absurd h
  stores d u asked doing within done.Stored e h = told-store b old new w x made answer k is-worker a room d u asked doing within
  stores d u asked doing within done.Flushed e h = absurd h

  answer-for : (d : Doing) → doing_of old.access w ≡ d → IsAnswer new.access d made answer
  answer-for d e = subst (λ z. IsAnswer new.access z made answer) e a.step.one.answer

  by-asked : (todo : Todo) → its.asked ≡ todo → IsDoing old.access old.owners.items w todo → Went new w x answer
  by-asked (todo.Read c) e h = reads c e h answer refl (answer-for (Reading c) h)
  by-asked (todo.Load c) e h = absurd h
  by-asked (todo.Store d u) e h = stores d u e h.0 h.1 answer refl (answer-for (Storing d u) h.0)
  by-asked (todo.Flush line) e h = flushes line e h.0 h.1 answer refl (answer-for (Flushing line) h.0)
  by-asked (todo.Swap entries) e h = swaps entries h.swap e h.doing answer refl (answer-for (Swapping h.swap) h.doing)
  by-asked todo.Finish e h = absurd h

  pub went : Went new w x answer
  went = by-asked its.asked refl its.doing
