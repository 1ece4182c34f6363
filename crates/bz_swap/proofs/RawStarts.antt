-- Starts of worker 0, which begin or go on with a recovery time; and starts that any worker may make.
use Rattle.std.specs.Prelude.{◌≡◌, ◌≢◌, ℕ, zero, suc, ◌+◌, ◌<◌, ◌≤◌, false, [], length, map, slice_set, get_or}
use Rattle.std.proofs.Common.{arith, refl, ap, sym, ◌∙◌, inl, inr}
use Rattle.std.proofs.lemmas.Bool.{cases_eq}
use Rattle.std.proofs.lemmas.List.{get_or-set_same, get_or-set_other, length-set, map-set}
use Rattle.bz_swap_machine.specs.declared.place.Place.{Place}
use Rattle.bz_swap_machine.specs.declared.place.Place.TheVariants as place
use Rattle.bz_swap_machine.specs.declared.worker.Operation.TheVariants as operation
use Rattle.bz_swap_machine.specs.declared.worker.Worker.{Worker}
use Rattle.bz_swap_machine.specs.Allowed.{for_worker}
use Rattle.bz_swap_machine.specs.Budget.{left_at}
use Rattle.bz_swap.specs.declared.phase.Phase.{Phase}
use Rattle.bz_swap.specs.declared.phase.Phase.TheVariants.{Opened, Running, Recovering}
use Rattle.bz_swap.specs.Solo.{allowed_by_kind}
use Rattle.bz_swap.specs.Held.{Holds}
use Rattle.bz_swap.specs.Starts.{MayRecover, MayLoad, MayStore, MayFlush, started, phase_of}
use Rattle.bz_swap.specs.SwapMemory.{Doing, Loading, Storing, Flushing}
use Rattle.bz_swap.specs.Inside.Parts.{Parts, idle_worker, worker_at, working, begun_seen, seen}
use Rattle.bz_swap.specs.Inside.Allowances.{after_start}
use Rattle.bz_swap.specs.Inside.Kept.{IsKept, KeptIn, RecoversAt, lines_at}
use Rattle.bz_swap.proofs.Alone.{left-seen}
use Rattle.bz_swap.proofs.Allowing.{allowed-begun}
use Rattle.bz_swap.proofs.Renewing.{resting-place}
use Rattle.bz_swap.proofs.Stepping.{worker-read, workers-within}
use Rattle.bz_swap.proofs.WorkStarts.{placed, nothing-at, store-started, flush-started}

-- the parts after a start
abbrev pub with_start : Parts → ℕ → Worker → ℕ → Parts
with_start p w l more = record p { workers = slice_set p.workers w l; phase = phase_of w; allowance = after_start p.allowance w more }

-- all that a start owes
pub record IsBegun (p : Parts) (w : ℕ) (l : Worker) (d : Doing) : Type 0 where
  pub kept : IsKept (with_start p w l (allowed_by_kind d))
  pub is : seen (with_start p w l (allowed_by_kind d)) ≡ started (seen p) w d
  pub holds : Holds (seen (with_start p w l (allowed_by_kind d)))

-- nothing goes on where worker 0 may start
resting : (phase : Phase) (p : Parts) → phase ≢ Running → KeptIn phase p → ((w : ℕ) → (worker_at p w).operation ≡ operation.Nothing) × ((w : ℕ) → 0 < w → (worker_at p w).place ≡ place.Idle) × ((w : ℕ) → length (get_or p.store.past.asks w []) ≤ lines_at (worker_at p w).place)
resting Opened p not kept = (λ w. nothing-at p kept.running w (kept.idle w), λ w some. kept.idle w, λ w. (kept.running.asked w).few)
resting Running p not kept = absurd (not refl)
resting Recovering p not kept = (kept.rest, kept.others, kept.asked)

none-begun : (phase : Phase) (p : Parts) → phase ≢ Running → KeptIn phase p → begun_seen phase p.store p.workers ≡ []
none-begun Opened p not kept = rw kept.taken refl
none-begun Running p not kept = absurd (not refl)
none-begun Recovering p not kept = refl

raw-begun : (p : Parts) (k : IsKept p) (at : Place) (l : Worker) (d : Doing) → MayRecover (seen p) → l ≡ worker_at p 0 → RecoversAt p.store at
    → at ≢ place.Idle → working (placed l at) ≡ record { doing = d; flush_next = false } → left_at at ≤ allowed_by_kind d → IsBegun p 0 (placed l at) d
raw-begun p k at l d may is lies busy shows some =
    let (rest, others, few) = resting p.phase p may.phase k.kept in
    let idle : (worker_at p 0).place ≡ place.Idle = resting-place p k 0 may.idle in
    let none : length (get_or p.store.past.asks 0 []) ≤ 0 = rw idle at (few 0) in
    let here : worker_at (with_start p 0 (placed l at) (allowed_by_kind d)) 0 ≡ placed l at = get_or-set_same p.workers 0 (placed l at) idle_worker k.some in
    let there = λ (w : ℕ) (ne : w ≢ 0). get_or-set_other p.workers 0 w (placed l at) idle_worker ne in
    let unbegun = none-begun p.phase p may.phase k.kept in
    let left = left-seen p k 0 in
    let workers = map-set working p.workers 0 (placed l at) ∙ ap (slice_set (map working p.workers) 0) shows in
    record {
      kept = record {
        room = k.room;
        swaps = k.swaps;
        workers = length-set p.workers 0 (placed l at) ∙ k.workers;
        few = rw (length-set p.workers 0 (placed l at)) k.few;
        some = rw (length-set p.workers 0 (placed l at)) k.some;
        allowed = ap (λ n. n + for_worker) k.allowed ∙ sym (allowed-begun p.workers 0 (placed l at) k.some (resting-place p k 0 may.idle) busy);
        counted = k.counted;
        kept = record {
          recoverer = rw here lies;
          others = λ w some. rw (there w (omega (arith, some))) (others w some);
          rest = λ w. elim (cases_eq w 0) [
            | inl e ↦ rw (e, here, is) (rest 0)
            | inr ne ↦ rw (there w ne) (rest w)
          ];
          enough = rw here (omega (arith, some));
          asked = λ w. elim (cases_eq w 0) [
            | inl e ↦ rw (e, here) (omega (arith, none))
            | inr ne ↦ rw (there w ne) (few w)
          ];
        };
      };
      is = λ i. record (seen p) { phase = Recovering; begun = sym unbegun i; workers = workers i; runner = 0; left = sym left i + allowed_by_kind d };
      holds = tt;
    }

-- with the worker that the code reads
pub load-begun : (p : Parts) (k : IsKept p) (w a : ℕ) (l : Worker) → MayLoad (seen p) w a → l ≡ get_or p.workers w l → IsBegun p w (placed l (place.LoadWord a)) (Loading a)
load-begun p k zero a l may is = raw-begun p k (place.LoadWord a) l (Loading a) may.recover (worker-read p 0 l k.some is) may.within (λ idle. (let bad = idle in absurd cc)) refl (omega arith)
load-begun p k (suc w) a l may is = absurd (omega (arith, may.zero))

pub store-begun : (p : Parts) (k : IsKept p) (w a v : ℕ) (l : Worker) → MayStore (seen p) w a v → l ≡ get_or p.workers w l → IsBegun p w (placed l (place.StoreWord a v)) (Storing a v)
store-begun p k zero a v l may is = raw-begun p k (place.StoreWord a v) l (Storing a v) may.recover (worker-read p 0 l k.some is) may.within (λ idle. (let bad = idle in absurd cc)) refl (omega arith)
store-begun p k (suc w) a v l may is =
    let s = store-started p k (suc w) a v l may (worker-read p (suc w) l (workers-within p (suc w) may.work.within) is) in
    record { kept = s.kept; is = s.is; holds = s.holds }

pub flush-begun : (p : Parts) (k : IsKept p) (w line : ℕ) (l : Worker) → MayFlush (seen p) w line → l ≡ get_or p.workers w l → IsBegun p w (placed l (place.AskLine line)) (Flushing line)
flush-begun p k zero line l may is = raw-begun p k (place.AskLine line) l (Flushing line) may.recover (worker-read p 0 l k.some is) may.within (λ idle. (let bad = idle in absurd cc)) refl (omega arith)
flush-begun p k (suc w) line l may is =
    let s = flush-started p k (suc w) line l may (worker-read p (suc w) l (workers-within p (suc w) may.work.within) is) in
    record { kept = s.kept; is = s.is; holds = s.holds }
