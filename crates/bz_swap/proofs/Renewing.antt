-- A renewal: the parts after it, and what callers see of them.
use Rattle.std.specs.Prelude.{◌≡◌, ℕ, ◌≤◌, zero, suc, false, [], map, length, replicate, get_or}
use Rattle.std.proofs.Common.{arith, refl, ap, sym, ◌∙◌}
use Rattle.std.proofs.lemmas.List.{length-replicate}
use Rattle.bz_swap_machine.specs.declared.place.Place.{Place}
use Rattle.bz_swap_machine.specs.declared.place.Place.TheVariants as place
use Rattle.bz_swap_machine.specs.declared.worker.Operation.{Operation}
use Rattle.bz_swap_cells.specs.Store.{Store, renewed_store}
use Rattle.bz_swap_cells.proofs.Rooms.{room-renew}
use Rattle.bz_swap.specs.declared.phase.Phase.{Phase}
use Rattle.bz_swap.specs.declared.phase.Phase.TheVariants.{Opened, Running, Recovering}
use Rattle.bz_swap.specs.SwapMemory.{Idle, idle, doing_of}
use Rattle.bz_swap.specs.Power.{MayRenew, renewed}
use Rattle.bz_swap.specs.Inside.Parts.{Parts, idle_worker, worker_at, working, doing_at, seen}
use Rattle.bz_swap.specs.Inside.Kept.{IsKept, KeptIn, RecoversAt, lines_at}
use Rattle.bz_swap.proofs.Allowing.{allowed-none}
use Rattle.bz_swap.proofs.Asking.{no-asks}
use Rattle.bz_swap.proofs.Doings.{worker-seen, idle-place}
use Rattle.bz_swap.proofs.Fresh.{IsFresh, all-same, fresh-running, fresh-place, all-idle}

-- a worker that does nothing has an idle place
recoverer-place : (st : Store) (x : Place) (o : Operation) → RecoversAt st x → doing_at x o ≡ Idle → x ≡ place.Idle
recoverer-place st place.Idle o at is = refl
recoverer-place st (place.LoadWord a) o at is = absurd cc
recoverer-place st (place.StoreWord a v) o at is = absurd cc
recoverer-place st (place.AskLine line) o at is = absurd cc
recoverer-place st (place.FenceLine line) o at is = absurd cc
recoverer-place st (place.Prepare step) o at is = absurd at
recoverer-place st (place.Learn k) o at is = absurd at
recoverer-place st (place.Help step) o at is = absurd at
recoverer-place st (place.ReadWord a) o at is = absurd at
recoverer-place st (place.AskRead a v) o at is = absurd at
recoverer-place st (place.FenceRead a v) o at is = absurd at
recoverer-place st (place.ClearRead a v) o at is = absurd at

place-in : (phase : Phase) (p : Parts) (w : ℕ) → KeptIn phase p → doing_at (worker_at p w).place (worker_at p w).operation ≡ Idle → (worker_at p w).place ≡ place.Idle
place-in Opened p w kept is = kept.idle w
place-in Running p w kept is = idle-place (worker_at p w).place (worker_at p w).operation (kept.workers w).rests is
place-in Recovering p zero kept is = recoverer-place p.store (worker_at p 0).place (worker_at p 0).operation kept.recoverer is
place-in Recovering p (suc w) kept is = kept.others (suc w) (omega arith)

pub resting-place : (p : Parts) (k : IsKept p) (w : ℕ) → doing_of (seen p) w ≡ Idle → (worker_at p w).place ≡ place.Idle
resting-place p k w is = place-in p.phase p w k.kept (sym (ap (λ u. u.doing) (worker-seen p w)) ∙ is)

-- a worker has asked for as many lines as its place says
asked-in : (phase : Phase) (p : Parts) (w : ℕ) → KeptIn phase p → length (get_or p.store.past.asks w []) ≤ lines_at (worker_at p w).place
asked-in Opened p w kept = (kept.running.asked w).few
asked-in Running p w kept = (kept.asked w).few
asked-in Recovering p w kept = kept.asked w

-- the parts after a renewal
abbrev pub renewed_parts : Parts → Parts
renewed_parts p = record { store = renewed_store p.store; workers = replicate (length p.workers) idle_worker; phase = Running; steps = p.steps; allowance = record p.allowance { all = 0 } }

pub renewed-fresh : (p : Parts) → IsKept p → MayRenew (seen p) → IsFresh (renewed_parts p)
renewed-fresh p k may = record {
  room = room-renew p.store k.room;
  same = may.same;
  cached = may.cached;
  durable = may.durable;
  tags = λ w. all-same (length p.store.next_tags) w 0;
  missed = λ s. all-same (length p.store.missed) s false;
  taken = refl;
  since = k.room.state.past;
  asks = λ w. no-asks (get_or p.store.past.asks w []) (rw (resting-place p k w (may.idle w)) at (asked-in p.phase p w k.kept));
  workers = λ w. all-same (length p.workers) w idle_worker;
  few = rw length-replicate k.few;
}

pub renewed-kept : (p : Parts) → IsKept p → MayRenew (seen p) → IsKept (renewed_parts p)
renewed-kept p k may =
    let count : length (replicate (length p.workers) idle_worker) ≡ length p.workers = length-replicate (length p.workers) idle_worker in
    record {
      room = room-renew p.store k.room;
      swaps = k.swaps;
      workers = count ∙ k.workers ∙ sym (length-replicate (length p.store.next_tags) 0);
      few = rw count k.few;
      some = rw count k.some;
      allowed = sym (allowed-none (replicate (length p.workers) idle_worker) (λ w. fresh-place (renewed_parts p) w (all-same (length p.workers) w idle_worker)));
      counted = k.counted;
      kept = fresh-running (renewed_parts p) (renewed-fresh p k may);
    }

pub renewed-seen : (p : Parts) → IsKept p → MayRenew (seen p) → seen (renewed_parts p) ≡ renewed (seen p)
renewed-seen p k may =
    let now : map working (replicate (length p.workers) idle_worker) ≡ replicate (length p.workers) idle =
    all-idle (replicate (length p.workers) idle_worker) (λ w. fresh-place (renewed_parts p) w (all-same (length p.workers) w idle_worker)) ∙ ap (λ n. replicate n idle) (length-replicate (length p.workers) idle_worker) in
    let before : map working p.workers ≡ replicate (length p.workers) idle = all-idle p.workers (λ w. resting-place p k w (may.idle w)) in
    ap (λ workers. record (renewed (seen p)) { workers = workers }) (now ∙ sym before)
