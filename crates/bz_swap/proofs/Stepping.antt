-- What a step needs, from what callers know.
use Rattle.std.specs.Prelude.{◌≡◌, ◌≢◌, ℕ, ◌^◌, ◌<◌, ◌≤◌, ◌⊎◌, length, get_or}
use Rattle.std.proofs.Common.{arith, refl, ap, sym, subst, ◌∙◌, inl, inr}
use Rattle.std.proofs.lemmas.Bool.{cases_lt}
use Rattle.std.proofs.lemmas.List.{get_or_default, length-map, length-set}
use Rattle.bz_swap_machine.specs.declared.place.Place.TheVariants as place
use Rattle.bz_swap_machine.specs.declared.worker.Worker.{Worker}
use Rattle.bz_swap_machine.specs.declared.done.Done.{Done}
use Rattle.bz_swap_acts.specs.declared.acted.Act.{Act}
use Rattle.bz_swap_machine.specs.Fences.{is_fence}
use Rattle.bz_swap_machine.specs.Workers.{local_of}
use Rattle.bz_swap_acts.specs.Made.{made, beside_in}
use Rattle.bz_swap_acts.specs.Ready.{IsReady}
use Rattle.bz_swap_acts.specs.Rule.{IsActOf, IsToldAt, IsWithin, is_fence_act}
use Rattle.bz_swap_acts.specs.Writes.{WritesAt}
use Rattle.bz_swap_cells.specs.Store.{Store, Beside, IsStore, SameShape, typed, store_state}
use Rattle.bz_swap.specs.declared.phase.Phase.{Phase}
use Rattle.bz_swap.specs.declared.phase.Phase.TheVariants.{Opened, Running, Recovering}
use Rattle.bz_swap.specs.Held.{Holds}
use Rattle.bz_swap.specs.SwapMemory.{Idle, doing_of}
use Rattle.bz_swap.specs.Inside.Allowances.{all_after}
use Rattle.bz_swap.specs.Inside.Parts.{Parts, idle_worker, worker_at, working, seen}
use Rattle.bz_swap.specs.Inside.Kept.{IsRunning, IsKept, KeptIn}
use Rattle.bz_swap.proofs.Allowing.{allowed-stepped}
use Rattle.bz_swap.proofs.Doings.{worker-seen, place-idle}
use Rattle.bz_swap.proofs.HeldWords.{held, holds}
use Rattle.bz_swap.proofs.Readies.{ready}
use Rattle.bz_swap.proofs.Asking.{one-counted}
use Rattle.bz_swap.proofs.Stepped.{IsMadeAct, Acts, MayStep, after_step}
use Rattle.bz_swap.proofs.StepRuns.{step-running}

-- outside a recovery time the parts are the machine's state
pub running : (phase : Phase) (p : Parts) → phase ≢ Recovering → KeptIn phase p → IsRunning p
running Opened p not kept = kept.running
running Running p not kept = kept
running Recovering p not kept = absurd (not refl)

-- the worker that the code reads
pub worker-read : (p : Parts) (w : ℕ) (l : Worker) → w < length p.workers → l ≡ get_or p.workers w l → l ≡ worker_at p w
worker-read p w l within is = is ∙ get_or_default p.workers w l idle_worker within

pub workers-within : (p : Parts) (w : ℕ) → w < length (seen p).workers → w < length p.workers
workers-within p w within = omega (arith, within, length-map p.workers working)

pub busy-place : (p : Parts) (w : ℕ) → doing_of (seen p) w ≢ Idle → (worker_at p w).place ≢ place.Idle
busy-place p w busy is = busy (ap (λ u. u.doing) (worker-seen p w) ∙ place-idle (worker_at p w).place (worker_at p w).operation is)

pub may-step : (p : Parts) (k : IsKept p) (w : ℕ) → p.phase ≢ Recovering → w < length (seen p).workers → doing_of (seen p) w ≢ Idle → p.steps < 2 ^ 36 → MayStep p w
may-step p k w phase within busy steps =
    let r = running p.phase p phase k.kept in
    let at = busy-place p w busy in
    record { some = positive r at (cases_lt 0 w); within = workers-within p w within; few = k.few; busy = at; steps = steps; allowed = k.allowed; numbered = k.workers; counted = omega (arith, k.counted, steps) }
  where
    positive : IsRunning p → (worker_at p w).place ≢ place.Idle → (0 < w) ⊎ (w ≤ 0) → 0 < w
    positive r at (inl some) = some
    positive r at (inr none) = (let zero : w ≡ 0 = omega (arith, none) in absurd (at (rw zero r.recoverer)))

-- nothing steps before something was started
kept-stepped : (phase : Phase) (p q : Parts) (w : ℕ) → phase ≢ Recovering → KeptIn phase p → (worker_at p w).place ≢ place.Idle → IsRunning q → KeptIn phase q
kept-stepped Opened p q w not kept busy r = absurd (busy (kept.idle w))
kept-stepped Running p q w not kept busy r = r
kept-stepped Recovering p q w not kept busy r = absurd (not refl)

-- what is kept after a step
pub step-kept : (p : Parts) (k : IsKept p) (w : ℕ) (store : Store) (l : Worker) (done : Done) (phase : p.phase ≢ Recovering) → MayStep p w → Acts p (running p.phase p phase k.kept).beside w store l done → IsKept (after_step p w store l)
step-kept p k w store l done phase may a =
    let r = running p.phase p phase k.kept in
    let on = step-running p r w store l done may a in
    record {
      room = a.words.has_room;
      swaps = rw a.shape.swaps k.swaps;
      workers = length-set p.workers w l ∙ k.workers ∙ sym a.shape.workers;
      few = rw (length-set p.workers w l) k.few;
      some = rw (length-set p.workers w l) k.some;
      allowed = ap (λ n. all_after n l.place) k.allowed ∙ sym (allowed-stepped p.workers w l may.within may.busy);
      counted = (let one = one-counted p r w store l done may a in omega (arith, one, k.counted));
      kept = kept-stepped p.phase p _ w phase k.kept may.busy on.running;
    }

pub step-holds : (p : Parts) (k : IsKept p) → Holds (seen p)
step-holds p k = holds p.phase p (λ phase. held p (running p.phase p phase k.kept) phase)

-- the act was made by the worker that the code read
pub acts-read : (p : Parts) (b : Beside) (w : ℕ) (old : Worker) (store : Store) (l : Worker) (done : Done) → old ≡ worker_at p w
    → local_of l ≡ (made p.store b old w).local → done ≡ (made p.store b old w).done
    → typed store (beside_in (made p.store b old w).memory) ≡ (made p.store b old w).memory → IsStore store → SameShape p.store store → (told : Act) → IsMadeAct p w store told → Acts p b w store l done
acts-read p b w old store l done is local is_done memory words shape told by = record {
  local = subst (λ u. local_of l ≡ (made p.store b u w).local) is local;
  is_done = subst (λ u. done ≡ (made p.store b u w).done) is is_done;
  memory = subst (λ u. typed store (beside_in (made p.store b u w).memory) ≡ (made p.store b u w).memory) is memory;
  words = words;
  shape = shape;
  told = told;
  by = by;
}

pub made-read : (p : Parts) (w : ℕ) (old : Worker) (store : Store) (told : Act) → old ≡ worker_at p w
    → IsActOf (store_state p.store) w told (store_state store) → IsWithin (length p.store.cached) told → is_fence_act told ≡ is_fence old.place → IsToldAt old.place told → WritesAt p.store.swaps old old.place told
    → IsMadeAct p w store told
made-read p w old store told is rule within flush is_told writes = record {
  rule = rule;
  within = within;
  flush = subst (λ u. is_fence_act told ≡ is_fence u.place) is flush;
  is_told = subst (λ u. IsToldAt u.place told) is is_told;
  writes = subst (λ u. WritesAt p.store.swaps u u.place told) is writes;
}

pub ready-read : (p : Parts) (r : IsRunning p) (w : ℕ) (old : Worker) → old ≡ worker_at p w → MayStep p w → length p.workers ≡ length p.store.next_tags → IsReady p.store old w
ready-read p r w old is may same = subst (λ u. IsReady p.store u w) (sym is) (ready p r w may same)
