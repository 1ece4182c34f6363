-- Starts of workers from 1 on: a read, a private store, a private flush.
use Rattle.std.specs.Prelude.{◌≡◌, ℕ, ◌*◌, ◌<◌, false, length, None}
use Rattle.std.proofs.Common.{arith, refl, ap, sym, subst, ◌∙◌, zero, suc}
use Rattle.bz_swap_machine.specs.declared.place.Place.{Place}
use Rattle.bz_swap_machine.specs.declared.place.Place.TheVariants as place
use Rattle.bz_swap_machine.specs.declared.worker.Operation.TheVariants as operation
use Rattle.bz_swap_machine.specs.declared.worker.Worker.{Worker}
use Rattle.bz_swap_machine.specs.State.{StartRead, StartStore, StartFlush, with_local}
use Rattle.bz_swap_machine.specs.Workers.{local_of}
use Rattle.bz_swap_machine.proofs.BudgetStarts.{starts_add_by_kind}
use Rattle.bz_swap_acts.specs.Ready.{LiesOutside}
use Rattle.bz_swap.specs.Starts.{IsAddress, MayRead, IsPrivateStore, IsPrivateFlush}
use Rattle.bz_swap.specs.SwapMemory.{Idle, Reading, Storing, Flushing, doing_of}
use Rattle.bz_swap.specs.Inside.Parts.{Parts, worker_at, seen}
use Rattle.bz_swap.specs.Inside.Kept.{IsRunning, IsKept, RestsAt, state_of}
use Rattle.bz_swap.proofs.Doings.{worker-seen, idle-place}
use Rattle.bz_swap.proofs.Shown.{shows}
use Rattle.bz_swap.proofs.Starting.{IsStarted, is-started}
use Rattle.bz_swap.proofs.Stepping.{running, workers-within}

-- the worker with another operation, or another place
abbrev pub reading : Worker → ℕ → Worker
reading l a = record l { operation = operation.Reading a; place = place.ReadWord a; back = None }

abbrev pub placed : Worker → Place → Worker
placed l at = record l { place = at }

pub lies-address : (p : Parts) (a : ℕ) → IsAddress (seen p) a → LiesOutside p.store a
lies-address p a h = record { outside = h.outside; within = h.within }

-- a worker that does nothing stands at no act, and comes back to nothing
pub idle-at : (p : Parts) (r : IsRunning p) (w : ℕ) → doing_of (seen p) w ≡ Idle → (worker_at p w).place ≡ place.Idle
idle-at p r w is = idle-place (worker_at p w).place (worker_at p w).operation (r.workers w).rests (ap (λ u. u.doing) (sym (worker-seen p w)) ∙ is)

pub nothing-at : (p : Parts) (r : IsRunning p) (w : ℕ) → (worker_at p w).place ≡ place.Idle → (worker_at p w).operation ≡ operation.Nothing
nothing-at p r w at = subst (λ x. RestsAt x (worker_at p w).operation) at (r.workers w).rests

pub read-started : (p : Parts) (k : IsKept p) (w a : ℕ) (l : Worker) → MayRead (seen p) w a → l ≡ worker_at p w → IsStarted p w (reading l a) (Reading a)
read-started p k w a l may is =
    let r = running p.phase p may.work.phase k.kept in
    let at = idle-at p r w may.work.idle in
    let lies = lies-address p a may.address in
    is-started p k may.work.phase w (reading l a) (StartRead w a) (Reading a) (record {
      some = may.work.some;
      within = workers-within p w may.work.within;
      idle = at;
      may = at;
      hold = tt;
      among = workers-within p w may.work.within;
      becomes = ap (λ u. with_local (state_of p r.entries r.beside) w (local_of (reading u a))) (sym is);
      worker = record { rests = tt; operation = lies; place = lies };
      allowed = k.allowed;
      busy = λ is_idle. (let bad = is_idle in absurd cc);
      adds = (starts_add_by_kind (state_of p r.entries r.beside) w (length p.workers) r.bounded.owned at).read a;
    }) refl

pub store-started : (p : Parts) (k : IsKept p) (w a v : ℕ) (l : Worker) → IsPrivateStore (seen p) w a v → l ≡ worker_at p w → IsStarted p w (placed l (place.StoreWord a v)) (Storing a v)
store-started p k w a v l may is =
    let r = running p.phase p may.work.phase k.kept in
    let at = idle-at p r w may.work.idle in
    let lies = lies-address p a may.address in
    let nothing : l.operation ≡ operation.Nothing = ap (λ u. u.operation) is ∙ nothing-at p r w at in
    is-started p k may.work.phase w (placed l (place.StoreWord a v)) (StartStore w a v) (Storing a v) (record {
      some = may.work.some;
      within = workers-within p w may.work.within;
      idle = at;
      may = (at, sym ((shows p r may.work.phase).named a) ∙ may.private);
      hold = may.value;
      among = workers-within p w may.work.within;
      becomes = ap (λ u. with_local (state_of p r.entries r.beside) w (local_of (placed u (place.StoreWord a v)))) (sym is);
      worker = record { rests = nothing; operation = rw nothing tt; place = lies };
      allowed = k.allowed;
      busy = λ is_idle. (let bad = is_idle in absurd cc);
      adds = (starts_add_by_kind (state_of p r.entries r.beside) w (length p.workers) r.bounded.owned at).store a v;
    }) refl

asks-first : (line w : ℕ) → 0 < w → false ≡ false
asks-first line zero some = absurd (omega (arith, some))
asks-first line (suc w) some = refl

pub flush-started : (p : Parts) (k : IsKept p) (w line : ℕ) (l : Worker) → IsPrivateFlush (seen p) w line → l ≡ worker_at p w → IsStarted p w (placed l (place.AskLine line)) (Flushing line)
flush-started p k w line l may is =
    let r = running p.phase p may.work.phase k.kept in
    let at = idle-at p r w may.work.idle in
    let lies = lies-address p (line * 8) may.address in
    let nothing : l.operation ≡ operation.Nothing = ap (λ u. u.operation) is ∙ nothing-at p r w at in
    is-started p k may.work.phase w (placed l (place.AskLine line)) (StartFlush w line) (Flushing line) (record {
      some = may.work.some;
      within = workers-within p w may.work.within;
      idle = at;
      may = at;
      hold = tt;
      among = workers-within p w may.work.within;
      becomes = ap (λ u. with_local (state_of p r.entries r.beside) w (local_of (placed u (place.AskLine line)))) (sym is);
      worker = record { rests = nothing; operation = rw nothing tt; place = lies };
      allowed = k.allowed;
      busy = λ is_idle. (let bad = is_idle in absurd cc);
      adds = (starts_add_by_kind (state_of p r.entries r.beside) w (length p.workers) r.bounded.owned at).flush line;
    }) (rw (asks-first line w may.work.some) refl)
