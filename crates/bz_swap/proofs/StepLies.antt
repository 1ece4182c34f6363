-- Where workers lie: one that steps, and the others.
use Rattle.std.specs.Prelude.{◌≡◌, ℕ, ◌*◌}
use Rattle.std.proofs.Common.{refl, ap, ◌∙◌, inl, inr}
use Rattle.bz_swap_machine.specs.declared.place.Place.{Place}
use Rattle.bz_swap_machine.specs.declared.place.Place.TheVariants as place
use Rattle.bz_swap_machine.specs.declared.worker.Operation.{Operation}
use Rattle.bz_swap_machine.specs.declared.worker.Operation.TheVariants as operation
use Rattle.bz_swap_machine.specs.declared.worker.Worker.{Worker}
use Rattle.bz_swap_machine.specs.declared.done.Done.{Done}
use Rattle.bz_swap_machine.specs.Machine.{Entries, Memory}
use Rattle.bz_swap_machine.specs.Knows.{Knows, AtPlace}
use Rattle.bz_swap_machine.specs.Steps.{Local}
use Rattle.bz_swap_machine.specs.Workers.{local_of}
use Rattle.bz_swap_cells.specs.Store.{Store, SameShape}
use Rattle.bz_swap_acts.specs.Made.{made}
use Rattle.bz_swap_acts.specs.Ready.{LiesOutside}
use Rattle.bz_swap.specs.Inside.Parts.{Parts, worker_at}
use Rattle.bz_swap.specs.Inside.Kept.{IsRunning, IsWorker, RestsAt, OperationLies, PlaceLies, IsBusy}
use Rattle.bz_swap.proofs.Going.{IsGoing, Leads}
use Rattle.bz_swap.proofs.Stepped.{Acts}

pub lies-shape : (st new : Store) (a : ℕ) → SameShape st new → LiesOutside st a → LiesOutside new a
lies-shape st new a shape h = record { outside = rw shape.swaps h.outside; within = rw shape.size h.within }

-- a worker that did not step lies as before
pub operation-shape : (st new : Store) → SameShape st new → (o : Operation) → OperationLies st o → OperationLies new o
operation-shape st new shape operation.Nothing h = tt
operation-shape st new shape (operation.Reading a) h = lies-shape st new a shape h
operation-shape st new shape (operation.Swapping s) h = tt

pub place-shape : (st new : Store) → SameShape st new → (x : Place) → PlaceLies st x → PlaceLies new x
place-shape st new shape (place.ReadWord a) h = lies-shape st new a shape h
place-shape st new shape (place.AskRead a v) h = lies-shape st new a shape h
place-shape st new shape (place.FenceRead a v) h = lies-shape st new a shape h
place-shape st new shape (place.ClearRead a v) h = lies-shape st new a shape h
place-shape st new shape (place.StoreWord a v) h = lies-shape st new a shape h
place-shape st new shape (place.AskLine line) h = lies-shape st new (line * 8) shape h
place-shape st new shape (place.FenceLine line) h = lies-shape st new (line * 8) shape h
place-shape st new shape place.Idle h = tt
place-shape st new shape (place.Prepare step) h = tt
place-shape st new shape (place.Learn k) h = tt
place-shape st new shape (place.Help step) h = tt
place-shape st new shape (place.LoadWord a) h = tt

pub worker-shape : (st new : Store) (l : Worker) → SameShape st new → IsWorker st l → IsWorker new l
worker-shape st new l shape h = record { rests = h.rests; operation = operation-shape st new shape l.operation h.operation; place = place-shape st new shape l.place h.place }

-- a worker that goes on has its operation and lies where that lies
pub rests-going : (x : Place) (o : Operation) → IsGoing x → IsBusy o → RestsAt x o
rests-going place.Idle o g busy = absurd g
rests-going (place.Prepare step) o g busy = busy
rests-going (place.Learn k) o g busy = busy
rests-going (place.Help step) o g busy = busy
rests-going (place.ReadWord a) o g busy = busy
rests-going (place.AskRead a v) o g busy = busy
rests-going (place.FenceRead a v) o g busy = busy
rests-going (place.ClearRead a v) o g busy = busy
rests-going (place.LoadWord a) o g busy = absurd g
rests-going (place.StoreWord a v) o g busy = absurd g
rests-going (place.AskLine line) o g busy = absurd g
rests-going (place.FenceLine line) o g busy = absurd g

pub busy-going : (x : Place) (o : Operation) → IsGoing x → RestsAt x o → IsBusy o
busy-going place.Idle o g h = absurd g
busy-going (place.Prepare step) o g h = h
busy-going (place.Learn k) o g h = h
busy-going (place.Help step) o g h = h
busy-going (place.ReadWord a) o g h = h
busy-going (place.AskRead a v) o g h = h
busy-going (place.FenceRead a v) o g h = h
busy-going (place.ClearRead a v) o g h = h
busy-going (place.LoadWord a) o g h = absurd g
busy-going (place.StoreWord a v) o g h = absurd g
busy-going (place.AskLine line) o g h = absurd g
busy-going (place.FenceLine line) o g h = absurd g

-- the address that is read is the operation's
pub lies-going : (e : ℕ → Entries) (m : Memory) (w : ℕ) (l : Local) (st : Store) (x : Place) → IsGoing x → AtPlace e m w l x → OperationLies st l.operation → PlaceLies st x
lies-going e m w l st place.Idle g at h = tt
lies-going e m w l st (place.Prepare step) g at h = tt
lies-going e m w l st (place.Learn k) g at h = tt
lies-going e m w l st (place.Help step) g at h = tt
lies-going e m w l st (place.ReadWord a) g at h = rw at at h
lies-going e m w l st (place.AskRead a v) g at h = rw at at h
lies-going e m w l st (place.FenceRead a v) g at h = rw at at h
lies-going e m w l st (place.ClearRead a v) g at h = rw at at h
lies-going e m w l st (place.LoadWord a) g at h = absurd g
lies-going e m w l st (place.StoreWord a v) g at h = absurd g
lies-going e m w l st (place.AskLine line) g at h = absurd g
lies-going e m w l st (place.FenceLine line) g at h = absurd g

-- the worker that stepped
pub stepped-worker : (p : Parts) (r : IsRunning p) (w : ℕ) (store : Store) (l : Worker) (done : Done) (n : Memory) → Acts p r.beside w store l done
    → Leads (local_of (worker_at p w)) (worker_at p w).place (made p.store r.beside (worker_at p w) w) → Knows r.entries n w (local_of l) → IsWorker store l
stepped-worker p r w store l done n a (inl goes) known =
    let same : l.operation ≡ (worker_at p w).operation = ap (λ (x : Local). x.operation) a.local ∙ goes.operation in
    let going : IsGoing l.place = rw (ap (λ (x : Local). x.place) a.local) goes.place in
    let old = r.workers w in
    let busy : IsBusy l.operation = rw same (busy-going (worker_at p w).place (worker_at p w).operation goes.from old.rests) in
    let lies : OperationLies store l.operation = rw same (operation-shape p.store store a.shape (worker_at p w).operation old.operation) in
    record { rests = rests-going l.place l.operation going busy; operation = lies; place = lies-going r.entries n w (local_of l) store l.place going known.place lies }
stepped-worker p r w store l done n a (inr (inl ended)) known =
    let idle : l.place ≡ place.Idle = ap (λ (x : Local). x.place) a.local ∙ ended.place in
    let nothing : l.operation ≡ operation.Nothing = ap (λ (x : Local). x.operation) a.local ∙ ended.operation in
    record { rests = rw (idle, nothing) refl; operation = rw nothing tt; place = rw idle tt }
stepped-worker p r w store l done n a (inr (inr between)) known =
    let old = r.workers w in
    let next : l.place ≡ place.FenceLine between.line = ap (λ (x : Local). x.place) a.local ∙ between.place in
    let same : l.operation ≡ (worker_at p w).operation = ap (λ (x : Local). x.operation) a.local ∙ between.operation in
    let nothing : (worker_at p w).operation ≡ operation.Nothing = rw between.from at old.rests in
    let lies : LiesOutside p.store (between.line * 8) = rw between.from at old.place in
    record { rests = rw (next, same) nothing; operation = rw (same, nothing) tt; place = rw next (lies-shape p.store store (between.line * 8) a.shape lies) }

-- a worker with something to come back to is on the way
pub going-busy : (x : Place) (o : Operation) → RestsAt x o → IsBusy o → IsGoing x
going-busy place.Idle o h busy = absurd (rw h at busy)
going-busy (place.Prepare step) o h busy = tt
going-busy (place.Learn k) o h busy = tt
going-busy (place.Help step) o h busy = tt
going-busy (place.ReadWord a) o h busy = tt
going-busy (place.AskRead a v) o h busy = tt
going-busy (place.FenceRead a v) o h busy = tt
going-busy (place.ClearRead a v) o h busy = tt
going-busy (place.LoadWord a) o h busy = absurd (rw h at busy)
going-busy (place.StoreWord a v) o h busy = absurd (rw h at busy)
going-busy (place.AskLine line) o h busy = absurd (rw h at busy)
going-busy (place.FenceLine line) o h busy = absurd (rw h at busy)
