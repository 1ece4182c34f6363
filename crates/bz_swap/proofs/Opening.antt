-- An opening: the parts after it, and what callers see of them.
use Rattle.std.specs.Prelude.{◌≡◌, ◌≢◌, ◌↔◌, ℕ, ◌+◌, ◌≤◌, false, List, [], map, length, slice_index, replicate}
use Rattle.std.proofs.Common.{arith, refl, ap, sym, ◌∙◌, get_or}
use Rattle.std.proofs.lemmas.List.{length-replicate}
use Rattle.bz_swap_machine.specs.declared.worker.Worker.{Worker}
use Rattle.bz_layout.specs.declared.limits.TheConstants.{MAX_WORKERS}
use Rattle.bz_swap_cells.specs.Store.{Store, HasRoom}
use Rattle.bz_swap.specs.declared.phase.Phase.{Phase}
use Rattle.bz_swap.specs.declared.phase.Phase.TheVariants.{Opened, Running, Recovering}
use Rattle.bz_swap.specs.SwapMemory.{idle}
use Rattle.bz_swap.specs.Power.{AreRecovered, IsOpened, opened}
use Rattle.bz_swap.specs.Inside.Parts.{Parts, idle_worker, worker_at, working, begun_seen, seen}
use Rattle.bz_swap.specs.Inside.Kept.{IsKept, KeptIn}
use Rattle.bz_swap.proofs.Allowing.{allowed-none}
use Rattle.bz_swap.proofs.Fresh.{all-same, fresh-untouched, fresh-place, idle-operation, all-idle}

-- no swap was begun where none is taken
pub none-begun : (phase : Phase) (st : Store) (workers : List Worker) → st.taken ≡ 0 → begun_seen phase st workers ≡ []
none-begun Opened st workers none = rw none refl
none-begun Running st workers none = rw none refl
none-begun Recovering st workers none = refl

-- the parts after an opening
abbrev pub opened_parts : Phase → List ℕ → ℕ → ℕ → Parts
opened_parts phase start swaps workers = record {
  store = record { cached = start; durable = start; past = record { count = 0; since = replicate (length start) 0; asks = replicate (workers + 1) [] }; swaps = swaps; next_tags = replicate (workers + 1) 0; missed = replicate swaps false; taken = 0 };
  workers = replicate (workers + 1) idle_worker;
  phase = phase;
  steps = 0;
  allowance = record { runner = 0; left = 0; all = 0 };
}

opened-kept_in : (phase : Phase) (start : List ℕ) (swaps workers : ℕ) → workers ≤ MAX_WORKERS → HasRoom (opened_parts phase start swaps workers).store → (phase ≡ Opened → AreRecovered swaps start) → phase ≢ Running
    → KeptIn phase (opened_parts phase start swaps workers)
opened-kept_in Opened start swaps workers few room recovered not = fresh-untouched (opened_parts Opened start swaps workers) (record {
  room = room;
  same = λ a out. refl;
  cached = recovered refl;
  durable = recovered refl;
  tags = λ w. all-same (workers + 1) w 0;
  missed = λ s. all-same swaps s false;
  taken = refl;
  since = λ a. (let none : slice_index (replicate (length start) 0) a ≡ 0 = all-same (length start) a 0 in omega (arith, none));
  asks = λ w. all-same (workers + 1) w [];
  workers = λ w. all-same (workers + 1) w idle_worker;
  few = rw length-replicate (omega (arith, few));
})
opened-kept_in Running start swaps workers few room recovered not = absurd (not refl)
opened-kept_in Recovering start swaps workers few room recovered not =
    let p : Parts = opened_parts Recovering start swaps workers in
    let is : (w : ℕ) → worker_at p w ≡ idle_worker = λ w. all-same (workers + 1) w idle_worker in
    record {
      recoverer = rw (fresh-place p 0 (is 0)) tt;
      others = λ w some. fresh-place p w (is w);
      rest = λ w. ap (λ (l : Worker). l.operation) (is w) ∙ idle-operation;
      enough = rw (fresh-place p 0 (is 0)) (omega arith);
      asked = λ w. (let none : get_or p.store.past.asks w [] ≡ [] = all-same (workers + 1) w [] in rw none (omega arith));
    }

pub opened-kept : (phase : Phase) (start : List ℕ) (swaps workers : ℕ) → 1 ≤ swaps → workers ≤ MAX_WORKERS → HasRoom (opened_parts phase start swaps workers).store → (phase ≡ Opened → AreRecovered swaps start) → phase ≢ Running
    → IsKept (opened_parts phase start swaps workers)
opened-kept phase start swaps workers some few room recovered not =
    let count : length (replicate (workers + 1) idle_worker) ≡ workers + 1 = length-replicate (workers + 1) idle_worker in
    record {
      room = room;
      swaps = omega (arith, some);
      workers = count ∙ sym (length-replicate (workers + 1) 0);
      few = omega (arith, count, few);
      some = omega (arith, count);
      allowed = sym (allowed-none (replicate (workers + 1) idle_worker) (λ w. fresh-place (opened_parts phase start swaps workers) w (all-same (workers + 1) w idle_worker)));
      counted = omega arith;
      kept = opened-kept_in phase start swaps workers few room recovered not;
    }

pub opened-seen : (phase : Phase) (start : List ℕ) (swaps workers : ℕ) → seen (opened_parts phase start swaps workers) ≡ opened phase start swaps workers
opened-seen phase start swaps workers =
    let p : Parts = opened_parts phase start swaps workers in
    let now : map working p.workers ≡ replicate (workers + 1) idle =
    all-idle p.workers (λ w. fresh-place p w (all-same (workers + 1) w idle_worker)) ∙ ap (λ n. replicate n idle) (length-replicate (workers + 1) idle_worker) in
    λ i. record (opened phase start swaps workers) { begun = none-begun phase p.store p.workers refl i; workers = now i }

pub opened-is : (phase : Phase) (start : List ℕ) (swaps workers : ℕ) → ((phase ≡ Opened) ↔ AreRecovered swaps start) → phase ≢ Running → IsOpened (seen (opened_parts phase start swaps workers)) start swaps workers
opened-is phase start swaps workers needs not = record { phase = phase; is = opened-seen phase start swaps workers; needs_none = needs; otherwise = not }
