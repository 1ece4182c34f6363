-- A step of a worker: what was made, and the machine's state after it.
use Rattle.std.specs.Prelude.{◌≡◌, ◌≢◌, ◌==◌, ℕ, ◌+◌, ◌-◌, ◌^◌, ◌<◌, ◌≤◌, true, false, length, slice_set}
use Rattle.std.proofs.Common.{arith, refl, ap, sym, ◌∙◌, inl, inr}
use Rattle.std.proofs.lemmas.Bool.{cases_eq}
use Rattle.std.proofs.lemmas.List.{get_or-set_same, get_or-set_other}
use Rattle.std.proofs.lemmas.Grind.{common_steps}
use Rattle.bz_swap_machine.specs.declared.place.Place.TheVariants as place
use Rattle.bz_swap_machine.specs.declared.worker.Worker.{Worker}
use Rattle.bz_swap_machine.specs.declared.done.Done.{Done}
use Rattle.bz_swap_machine.specs.Machine.{Entries}
use Rattle.bz_swap_machine.specs.Changes.{put}
use Rattle.bz_swap_machine.specs.Sizes.{most_workers}
use Rattle.bz_swap_machine.specs.State.{Act, happens}
use Rattle.bz_swap_machine.specs.Workers.{local_of}
use Rattle.bz_swap_machine.specs.Fences.{is_fence}
use Rattle.bz_swap_cells.specs.Store.{Store, Beside, IsStore, SameShape, typed, store_state}
use Rattle.bz_swap_acts.specs.declared.acted.Act.{Act as MemoryAct}
use Rattle.bz_swap_acts.specs.Rule.{IsActOf, IsToldAt, IsWithin, is_fence_act}
use Rattle.bz_swap_acts.specs.Writes.{WritesAt}
use Rattle.bz_swap_acts.specs.Made.{made, beside_in}
use Rattle.bz_swap.specs.Inside.Allowances.{after_step as allowance_after}
use Rattle.bz_swap.specs.Inside.Parts.{Parts, idle_worker, worker_at}
use Rattle.bz_swap.specs.Inside.Kept.{state_of, allowed_at}

-- the memory act that was made
pub record IsMadeAct (p : Parts) (w : ℕ) (store : Store) (told : MemoryAct) : Type 0 where
  pub rule : IsActOf (store_state p.store) w told (store_state store)
  pub within : IsWithin (length p.store.cached) told
  pub flush : is_fence_act told ≡ is_fence (worker_at p w).place
  pub is_told : IsToldAt (worker_at p w).place told
  pub writes : WritesAt p.store.swaps (worker_at p w) (worker_at p w).place told

-- the act of worker w was made: the words and the worker after it
pub record Acts (p : Parts) (b : Beside) (w : ℕ) (store : Store) (l : Worker) (done : Done) : Type 0 where
  pub local : local_of l ≡ (made p.store b (worker_at p w) w).local
  pub is_done : done ≡ (made p.store b (worker_at p w) w).done
  pub memory : typed store (beside_in (made p.store b (worker_at p w) w).memory) ≡ (made p.store b (worker_at p w) w).memory
  pub words : IsStore store
  pub shape : SameShape p.store store
  pub told : MemoryAct
  pub by : IsMadeAct p w store told

-- the worker may step
pub record MayStep (p : Parts) (w : ℕ) : Type 0 where
  pub some : 0 < w
  pub within : w < length p.workers
  pub few : length p.workers ≤ most_workers
  pub busy : (worker_at p w).place ≢ place.Idle
  pub steps : p.steps < 2 ^ 36
  pub allowed : p.allowance.all ≡ allowed_at p.workers
  pub numbered : length p.workers ≡ length p.store.next_tags
  pub counted : p.store.past.count < 2 ^ 64 - 1

abbrev pub after_step : Parts → ℕ → Store → Worker → Parts
after_step p w store l = record { store = store; workers = slice_set p.workers w l; phase = p.phase; steps = p.steps + 1; allowance = allowance_after p.allowance w l.place }

-- the worker that stepped, and the others
pub same-worker : (p : Parts) (w : ℕ) (store : Store) (l : Worker) → w < length p.workers → worker_at (after_step p w store l) w ≡ l
same-worker p w store l within = get_or-set_same p.workers w l idle_worker within

pub other-worker : (p : Parts) (w v : ℕ) (store : Store) (l : Worker) → v ≢ w → worker_at (after_step p w store l) v ≡ worker_at p v
other-worker p w v store l ne = get_or-set_other p.workers w v l idle_worker ne

pub put-here : {A : Type 0} (f : ℕ → A) (a : ℕ) (x : A) (b : ℕ) → b ≡ a → put f a x b ≡ x
put-here f a x b e = let test : (b == a) ≡ true = grind (arith, common_steps, e) in rw test refl

pub put-there : {A : Type 0} (f : ℕ → A) (a : ℕ) (x : A) (b : ℕ) → b ≢ a → put f a x b ≡ f b
put-there f a x b ne = let test : (b == a) ≡ false = grind (arith, common_steps, ne) in rw test refl

-- the machine's state after the step
pub state-path : (p : Parts) (e : ℕ → Entries) (b : Beside) (w : ℕ) (store : Store) (l : Worker) (done : Done) → w < length p.workers → Acts p b w store l done
    → state_of (after_step p w store l) e (beside_in (made p.store b (worker_at p w) w).memory) ≡ happens (state_of p e b) (Act w)
state-path p e b w store l done within a = λ i. record { entries = e; memory = a.memory i; local = λ v. locals v i }
  where
    locals : (v : ℕ) → local_of (worker_at (after_step p w store l) v) ≡ put (λ u. local_of (worker_at p u)) w (made p.store b (worker_at p w) w).local v
    locals v = elim (cases_eq v w) [
      | inl e ↦ ap (λ u. local_of (worker_at (after_step p w store l) u)) e ∙ ap local_of (same-worker p w store l within) ∙ a.local ∙ sym (put-here (λ u. local_of (worker_at p u)) w _ v e)
      | inr ne ↦ ap local_of (other-worker p w v store l ne) ∙ sym (put-there (λ u. local_of (worker_at p u)) w _ v ne)
    ]
