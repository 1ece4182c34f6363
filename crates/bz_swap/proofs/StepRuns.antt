-- The parts after a step are the machine's state after the act.
use Rattle.std.specs.Prelude.{◌≡◌, ℕ, length, slice_index}
use Rattle.std.proofs.Common.{arith, refl, ap, subst, ◌∙◌, inl, inr}
use Rattle.std.proofs.lemmas.Bool.{cases_eq}
use Rattle.std.proofs.lemmas.List.{length-set}
use Rattle.bz_swap_machine.specs.declared.worker.Worker.{Worker}
use Rattle.bz_swap_machine.specs.declared.done.Done.{Done}
use Rattle.bz_swap_machine.specs.Machine.{Memory}
use Rattle.bz_swap_machine.specs.Knows.{Knows}
use Rattle.bz_swap_machine.specs.Steps.{Stepped}
use Rattle.bz_swap_machine.specs.State.{State, Act, IsState}
use Rattle.bz_swap_machine.specs.Workers.{local_of}
use Rattle.bz_swap_machine.proofs.EventLaws.{keeps_state, keeps_range, stays_bounded}
use Rattle.bz_swap_cells.specs.Store.{Store, typed}
use Rattle.bz_swap_acts.specs.Made.{made, beside_in}
use Rattle.bz_swap.specs.Inside.Parts.{Parts, worker_at}
use Rattle.bz_swap.specs.Inside.Kept.{IsRunning, state_of}
use Rattle.bz_swap.proofs.Asking.{own-asked, other-asked}
use Rattle.bz_swap.proofs.Frames.{frame-act}
use Rattle.bz_swap.proofs.Going.{Leads, leads-act}
use Rattle.bz_swap.proofs.Stepped.{Acts, MayStep, after_step, same-worker, other-worker, state-path}
use Rattle.bz_swap.proofs.StepLies.{lies-shape, worker-shape, stepped-worker, busy-going}
use Rattle.bz_swap.proofs.StepsLeft.{enough-stepped}
use Rattle.bz_swap.proofs.StepOwners.{stepped-owned, stepped-prepares}

-- the parts after a step are the machine's state after the act
pub record RunsOn (p : Parts) (r : IsRunning p) (w : ℕ) (store : Store) (l : Worker) : Type 0 where
  pub running : IsRunning (after_step p w store l)
  pub entries : running.entries ≡ r.entries
  pub beside : running.beside ≡ beside_in (made p.store r.beside (worker_at p w) w).memory

pub step-running : (p : Parts) (r : IsRunning p) (w : ℕ) (store : Store) (l : Worker) (done : Done) → MayStep p w → Acts p r.beside w store l done → RunsOn p r w store l
step-running p r w store l done may a =
    let x : State = state_of p r.entries r.beside in
    let after : Stepped = made p.store r.beside (worker_at p w) w in
    let f = frame-act (typed p.store r.beside) w (local_of (worker_at p w)) (worker_at p w).place in
    let path = state-path p r.entries r.beside w store l done may.within a in
    let leads : Leads (local_of (worker_at p w)) (worker_at p w).place after =
    leads-act (typed p.store r.beside) w (local_of (worker_at p w)) (worker_at p w).place may.busy (λ g. busy-going (worker_at p w).place (worker_at p w).operation g (r.workers w).rests) in
    let tags : (v : ℕ) → slice_index store.next_tags v ≡ after.memory.next_tag v = λ v. ap (λ (m : Memory). m.next_tag v) a.memory in
    let taken : store.taken ≡ p.store.taken = ap (λ (m : Memory). m.taken) a.memory ∙ f.taken in
    let state : IsState (state_of (after_step p w store l) r.entries (beside_in after.memory)) = rw path (keeps_state x (Act w) tt r.state) in
    let known : Knows r.entries (typed store (beside_in after.memory)) w (local_of l) =
    subst (λ (u : Worker). Knows r.entries (typed store (beside_in after.memory)) w (local_of u)) (same-worker p w store l may.within) (state.knows w) in
    record {
      running = record {
        entries = r.entries;
        beside = beside_in after.memory;
        words = a.words;
        state = state;
        range = rw path (keeps_range x (Act w) (omega (arith, may.some), omega (arith, may.within, may.few), omega (arith, r.tags w, may.steps)) r.state r.range);
        bounded = rw (path, length-set p.workers w l) (stays_bounded x (length p.workers) (Act w) tt may.within r.bounded);
        enough = rw (path, length-set p.workers w l) (enough-stepped x p.allowance w (length p.workers) l.place r.bounded r.enough may.allowed may.within may.busy);
        lies = λ s i below. lies-shape p.store store ((r.entries s).target i) a.shape (r.lies s i below);
        named = λ c. rw taken (f.named c ∙ r.named c);
        owned = λ s begun none. stepped-owned p r w store l done may a leads s (omega (arith, begun, taken)) none;
        prepared = λ s begun unset. stepped-prepares p r w store l done may a s (omega (arith, begun, taken)) unset;
        workers = λ v. elim (cases_eq v w) [
          | inl e ↦ rw (e, same-worker p w store l may.within) (stepped-worker p r w store l done _ a leads known)
          | inr ne ↦ rw (other-worker p w v store l ne) (worker-shape p.store store (worker_at p v) a.shape (r.workers v))
        ];
        tags = λ v. omega (arith, tags v, f.tags v, r.tags v);
        recoverer = rw (other-worker p w 0 store l (omega (arith, may.some))) r.recoverer;
        asked = λ v. elim (cases_eq v w) [
          | inl e ↦ rw (e, same-worker p w store l may.within) (own-asked p r w store l done may a)
          | inr ne ↦ rw (other-worker p w v store l ne) (other-asked p r w store l done may a v (worker_at p v) ne (r.asked v))
        ];
      };
      entries = refl;
      beside = refl;
    }
