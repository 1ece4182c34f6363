-- The swaps that workers own, after a step.
use Rattle.std.specs.Prelude.{◌≡◌, ◌≢◌, ◌⊎◌, ℕ, ◌<◌, true, false, None, Some}
use Rattle.std.proofs.Common.{refl, ap, sym, ◌∙◌, inl, inr}
use Rattle.std.proofs.lemmas.Bool.{cases_eq, true≢false}
use Rattle.std.proofs.lemmas.List.{length-set}
use Rattle.bz_swap_machine.specs.declared.place.Place.TheVariants as place
use Rattle.bz_swap_machine.specs.declared.place.PrepareStep.{PrepareStep}
use Rattle.bz_swap_machine.specs.declared.place.PrepareStep.TheVariants.{WriteWord, WriteStatus, AskHead, AskTail, FenceDescriptor}
use Rattle.bz_swap_machine.specs.declared.worker.Operation.{Operation}
use Rattle.bz_swap_machine.specs.declared.worker.Operation.TheVariants as operation
use Rattle.bz_swap_machine.specs.declared.worker.Worker.{Worker}
use Rattle.bz_swap_machine.specs.declared.done.Done.{Done}
use Rattle.bz_swap_machine.specs.declared.done.Done.TheVariants.{Busy, Read, Swapped, Stored, Flushed}
use Rattle.std.specs.declared.option.Option.{Option}
use Rattle.bz_swap_machine.specs.declared.status.Verdict.{Verdict}
use Rattle.bz_swap_machine.specs.declared.status.Verdict.TheVariants.{Succeeded, Failed}
use Rattle.bz_swap_machine.specs.Machine.{Entries, Memory}
use Rattle.bz_swap_machine.specs.Promise.{IsAnswer}
use Rattle.bz_swap_machine.specs.Steps.{Local, Stepped, act}
use Rattle.bz_swap_machine.specs.State.{Act}
use Rattle.bz_swap_machine.specs.Workers.{local_of}
use Rattle.bz_swap_machine.proofs.EventLaws.{acts_atomically}
use Rattle.bz_swap_cells.specs.Store.{Store, Beside, typed}
use Rattle.bz_swap_acts.specs.Made.{made, beside_in}
use Rattle.bz_swap.specs.Inside.Parts.{Parts, worker_at}
use Rattle.bz_swap.specs.Inside.Kept.{IsRunning, IsOwned, IsPrepared, IsBusy, state_of}
use Rattle.bz_swap.proofs.Frames.{frame-act}
use Rattle.bz_swap.proofs.Going.{IsGoing, Leads}
use Rattle.bz_swap.proofs.Stepped.{Acts, MayStep, after_step, same-worker, other-worker, put-here}
use Rattle.bz_swap.proofs.StepLies.{going-busy}

-- an answer to a swap is kept
pub answered : (e : ℕ → Entries) (m : Memory) (o : Operation) (s : ℕ) (done : Done) → o ≡ operation.Swapping s → IsAnswer e m o done → (done ≡ Busy → ⊥) → (done ≡ Stored → ⊥) → (done ≡ Flushed → ⊥) → m.answer s ≡ None → ⊥
answered e m operation.Nothing s done is right busy stored flushed none = absurd cc
answered e m (operation.Reading a) s done is right busy stored flushed none = absurd cc
answered e m (operation.Swapping t) s Busy is right busy stored flushed none = busy refl
answered e m (operation.Swapping t) s (Read v) is right busy stored flushed none = right
answered e m (operation.Swapping t) s (Swapped true) is right busy stored flushed none =
    let same : t ≡ s = cc in
    let told : m.answer s ≡ Some Succeeded = rw same at right.0 in
    let bad : ◌≡◌ {A = Option Verdict} None (Some Succeeded) = sym none ∙ told in
    absurd cc
answered e m (operation.Swapping t) s (Swapped false) is right busy stored flushed none =
    let same : t ≡ s = cc in
    let told : m.answer s ≡ Some Failed = rw same at right.0 in
    let bad : ◌≡◌ {A = Option Verdict} None (Some Failed) = sym none ∙ told in
    absurd cc
answered e m (operation.Swapping t) s Stored is right busy stored flushed none = stored refl
answered e m (operation.Swapping t) s Flushed is right busy stored flushed none = flushed refl

-- the operation of a worker that stepped stays, where it is a swap that has no answer
pub swap-stays : (p : Parts) (r : IsRunning p) (w : ℕ) (store : Store) (l : Worker) (done : Done) → Acts p r.beside w store l done
    → Leads (local_of (worker_at p w)) (worker_at p w).place (made p.store r.beside (worker_at p w) w)
    → (s : ℕ) → (made p.store r.beside (worker_at p w) w).memory.answer s ≡ None → (worker_at p w).operation ≡ operation.Swapping s → l.operation ≡ operation.Swapping s
swap-stays p r w store l done a (inl goes) s none is = ap (λ (x : Local). x.operation) a.local ∙ goes.operation ∙ is
swap-stays p r w store l done a (inr (inr between)) s none is = ap (λ (x : Local). x.operation) a.local ∙ between.operation ∙ is
swap-stays p r w store l done a (inr (inl ended)) s none is =
    let busy : IsBusy (worker_at p w).operation = rw is tt in
    let going : IsGoing (worker_at p w).place = going-busy (worker_at p w).place (worker_at p w).operation (r.workers w).rests busy in
    let right = (acts_atomically (state_of p r.entries r.beside) (Act w) tt r.state).answer in
    let (stored, flushed) = ended.told going in
    absurd (answered r.entries (made p.store r.beside (worker_at p w) w).memory (worker_at p w).operation s (made p.store r.beside (worker_at p w) w).done is right ended.done stored flushed none)

-- a swap that has no answer after the step is still its owner's operation
pub stepped-owned : (p : Parts) (r : IsRunning p) (w : ℕ) (store : Store) (l : Worker) (done : Done) → MayStep p w → Acts p r.beside w store l done
    → Leads (local_of (worker_at p w)) (worker_at p w).place (made p.store r.beside (worker_at p w) w)
    → (s : ℕ) → s < p.store.taken → (made p.store r.beside (worker_at p w) w).memory.answer s ≡ None
    → IsOwned (after_step p w store l) (beside_in (made p.store r.beside (worker_at p w) w).memory) s
stepped-owned p r w store l done may a leads s begun none =
    let f = frame-act (typed p.store r.beside) w (local_of (worker_at p w)) (worker_at p w).place in
    let old = r.owned s begun (f.unanswered s none) in
    record {
      owner = rw (f.owner s, length-set p.workers w l) old.owner;
      operation = rw (f.owner s) (elim (cases_eq (r.beside.owner s) w) [
        | inl e ↦ rw (e, same-worker p w store l may.within) (swap-stays p r w store l done a leads s none (rw e at old.operation))
        | inr ne ↦ rw (other-worker p w (r.beside.owner s) store l ne) old.operation
      ]);
    }

-- a worker that prepares its swap goes on with that until the swap is published
pub prepare-stays : (m : Memory) (w : ℕ) (l : Local) (step : PrepareStep) → (act m w l (place.Prepare step)).memory.published l.current ≡ false
    → (next : PrepareStep) × (((act m w l (place.Prepare step)).local.place ≡ place.Prepare next) × ((act m w l (place.Prepare step)).local.current ≡ l.current))
prepare-stays m w l (WriteWord k) unset = (_, (refl, refl))
prepare-stays m w l WriteStatus unset = (AskHead, (refl, refl))
prepare-stays m w l AskHead unset = (AskTail, (refl, refl))
prepare-stays m w l AskTail unset = (FenceDescriptor, (refl, refl))
prepare-stays m w l FenceDescriptor unset = absurd (true≢false (sym (put-here m.published l.current true l.current refl) ∙ unset))

pub own-prepares : (p : Parts) (b : Beside) (w : ℕ) (store : Store) (l : Worker) (done : Done) (s : ℕ) (step : PrepareStep) → Acts p b w store l done
    → (worker_at p w).place ≡ place.Prepare step → (worker_at p w).current ≡ s → (made p.store b (worker_at p w) w).memory.published s ≡ false
    → (next : PrepareStep) × ((l.place ≡ place.Prepare next) × (l.current ≡ s))
own-prepares p b w store l done s step a at current unset =
    let m : Memory = typed p.store b in
    let old : Local = local_of (worker_at p w) in
    let is : made p.store b (worker_at p w) w ≡ act m w old (place.Prepare step) = ap (act m w old) at in
    let unpublished : (act m w old (place.Prepare step)).memory.published old.current ≡ false =
    ap (λ (x : Stepped). x.memory.published old.current) (sym is) ∙ ap (made p.store b (worker_at p w) w).memory.published current ∙ unset in
    let (next, (goes, stays)) = prepare-stays m w old step unpublished in
    let new : local_of l ≡ (act m w old (place.Prepare step)).local = a.local ∙ ap (λ (x : Stepped). x.local) is in
    (next, (ap (λ (x : Local). x.place) new ∙ goes, ap (λ (x : Local). x.current) new ∙ stays ∙ current))

pub stepped-prepares : (p : Parts) (r : IsRunning p) (w : ℕ) (store : Store) (l : Worker) (done : Done) → MayStep p w → Acts p r.beside w store l done
    → (s : ℕ) → s < p.store.taken → (made p.store r.beside (worker_at p w) w).memory.published s ≡ false
    → IsPrepared (after_step p w store l) (beside_in (made p.store r.beside (worker_at p w) w).memory) s
stepped-prepares p r w store l done may a s begun unset =
    let f = frame-act (typed p.store r.beside) w (local_of (worker_at p w)) (worker_at p w).place in
    let old = r.prepared s begun (f.published s unset) in
    let (next, (at, current)) = next-step old (cases_eq (r.beside.owner s) w) in
    record { step = next; place = rw (f.owner s) at; current = rw (f.owner s) current }
  where
    next-step : IsPrepared p r.beside s → (r.beside.owner s ≡ w) ⊎ (r.beside.owner s ≢ w)
        → (next : PrepareStep) × (((worker_at (after_step p w store l) (r.beside.owner s)).place ≡ place.Prepare next) × ((worker_at (after_step p w store l) (r.beside.owner s)).current ≡ s))
    next-step old (inl e) =
        let (next, (at, current)) = own-prepares p r.beside w store l done s old.step a (rw (← e) old.place) (rw (← e) old.current) unset in
        let same : worker_at (after_step p w store l) (r.beside.owner s) ≡ l = rw e (same-worker p w store l may.within) in
        (next, (ap (λ (x : Worker). x.place) same ∙ at, ap (λ (x : Worker). x.current) same ∙ current))
    next-step old (inr ne) =
        let same : worker_at (after_step p w store l) (r.beside.owner s) ≡ worker_at p (r.beside.owner s) = other-worker p w (r.beside.owner s) store l ne in
        (old.step, (ap (λ (x : Worker). x.place) same ∙ old.place, ap (λ (x : Worker). x.current) same ∙ old.current))
