-- An operation of one act, or a read, is started: the parts after it are the machine's state.
use Rattle.std.specs.Prelude.{◌≡◌, ◌≢◌, ◌⊎◌, ℕ, zero, suc, ◌+◌, ◌<◌, ◌≤◌, length, map, slice_set}
use Rattle.std.proofs.Common.{arith, refl, ap, sym, ◌∙◌, inl, inr, false}
use Rattle.std.proofs.lemmas.Bool.{cases_eq}
use Rattle.std.proofs.lemmas.List.{get_or-set_same, get_or-set_other, length-set, map-set}
use Rattle.bz_swap_machine.specs.declared.place.Place.TheVariants as place
use Rattle.bz_swap_machine.specs.declared.worker.Operation.TheVariants as operation
use Rattle.bz_swap_machine.specs.declared.worker.Worker.{Worker}
use Rattle.bz_swap_machine.specs.Allowed.{for_worker}
use Rattle.bz_swap_machine.specs.Budget.{budget}
use Rattle.bz_swap_machine.specs.Budgets.{IsAmong}
use Rattle.bz_swap_machine.specs.Lawful.{MayHold}
use Rattle.bz_swap_machine.specs.State.{State, Event, MayHappen, happens, with_local}
use Rattle.bz_swap_machine.specs.Workers.{local_of}
use Rattle.bz_swap_machine.proofs.EventLaws.{keeps_state, keeps_range, stays_bounded}
use Rattle.bz_swap.specs.declared.phase.Phase.TheVariants.{Running, Recovering}
use Rattle.bz_swap.specs.Held.{Holds}
use Rattle.bz_swap.specs.Solo.{allowed_by_kind}
use Rattle.bz_swap.specs.Starts.{started, phase_of}
use Rattle.bz_swap.specs.SwapMemory.{Doing}
use Rattle.bz_swap.specs.Inside.Parts.{Parts, idle_worker, worker_at, working, listed, entry_list, begun_seen, seen}
use Rattle.bz_swap.specs.Inside.Allowances.{after_start}
use Rattle.bz_swap.specs.Inside.Kept.{IsRunning, IsWorker, IsOwned, IsPrepared, IsKept, state_of, allowed_at}
use Rattle.bz_swap.proofs.Asking.{empty-few}
use Rattle.bz_swap.proofs.Alone.{left-running}
use Rattle.bz_swap.proofs.Allowing.{allowed-begun}
use Rattle.bz_swap.proofs.Begun.{begun_is}
use Rattle.bz_swap.proofs.Shown.{begun-running}
use Rattle.bz_swap.proofs.Stepped.{put-here, put-there}
use Rattle.bz_swap.proofs.Stepping.{running, step-holds}
use Rattle.bz_swap.proofs.StepsLeft.{enough-started}

-- a worker has come to stand so, by a start that allows so much
abbrev pub with_worker : Parts → ℕ → Worker → ℕ → Parts
with_worker p w l more = record p { workers = slice_set p.workers w l; phase = Running; allowance = after_start p.allowance w more }

here : (p : Parts) (w : ℕ) (l : Worker) (more : ℕ) → w < length p.workers → worker_at (with_worker p w l more) w ≡ l
here p w l more within = get_or-set_same p.workers w l idle_worker within

there : (p : Parts) (w v : ℕ) (l : Worker) (more : ℕ) → v ≢ w → worker_at (with_worker p w l more) v ≡ worker_at p v
there p w v l more ne = get_or-set_other p.workers w v l idle_worker ne

-- the worker may start something
pub record Starts (p : Parts) (r : IsRunning p) (w : ℕ) (l : Worker) (v : Event) (more : ℕ) : Type 0 where
  pub some : 0 < w
  pub within : w < length p.workers
  pub idle : (worker_at p w).place ≡ place.Idle
  pub may : MayHappen (state_of p r.entries r.beside) v
  pub hold : MayHold (state_of p r.entries r.beside) v
  pub among : IsAmong (length p.workers) v
  pub becomes : happens (state_of p r.entries r.beside) v ≡ with_local (state_of p r.entries r.beside) w (local_of l)
  pub worker : IsWorker p.store l
  pub allowed : p.allowance.all ≡ allowed_at p.workers
  pub busy : l.place ≢ place.Idle
  pub adds : budget (happens (state_of p r.entries r.beside) v) w (length p.workers) ≤ budget (state_of p r.entries r.beside) w (length p.workers) + more

pub record RunsAfter (p : Parts) (r : IsRunning p) (w : ℕ) (l : Worker) (more : ℕ) : Type 0 where
  pub running : IsRunning (with_worker p w l more)
  pub entries : running.entries ≡ r.entries

-- an idle worker owns no swap
owns-none : (p : Parts) (r : IsRunning p) (w s : ℕ) → (worker_at p w).place ≡ place.Idle → (worker_at p w).operation ≡ operation.Swapping s → ⊥
owns-none p r w s idle is =
    let rests = (r.workers w).rests in
    let nothing : (worker_at p w).operation ≡ operation.Nothing = rw idle at rests in
    (let bad = sym nothing ∙ is in absurd cc)

pub start-running : (p : Parts) (r : IsRunning p) (w : ℕ) (l : Worker) (v : Event) (more : ℕ) → Starts p r w l v more → RunsAfter p r w l more
start-running p r w l v more h =
    let x : State = state_of p r.entries r.beside in
    let path : state_of (with_worker p w l more) r.entries r.beside ≡ happens x v =
    (λ i. record { entries = r.entries; memory = x.memory; local = λ u. locals u i }) ∙ sym h.becomes in
    record {
      running = record {
        entries = r.entries;
        beside = r.beside;
        words = r.words;
        state = rw path (keeps_state x v h.may r.state);
        range = rw path (keeps_range x v h.hold r.state r.range);
        bounded = rw (path, length-set p.workers w l) (stays_bounded x (length p.workers) v h.may h.among r.bounded);
        enough = rw (path, length-set p.workers w l) (enough-started x p.allowance w (length p.workers) more v r.bounded r.enough h.allowed h.within h.adds);
        lies = r.lies;
        named = r.named;
        owned = λ s begun none. own s (r.owned s begun none) (cases_eq (r.beside.owner s) w);
        prepared = λ s begun unset. prepares s (r.prepared s begun unset) (cases_eq (r.beside.owner s) w);
        workers = λ u. elim (cases_eq u w) [
          | inl e ↦ rw (e, here p w l more h.within) h.worker
          | inr ne ↦ rw (there p w u l more ne) (r.workers u)
        ];
        tags = r.tags;
        recoverer = rw (there p w 0 l more (omega (arith, h.some))) r.recoverer;
        asked = λ u. elim (cases_eq u w) [
          | inl e ↦ rw (e, here p w l more h.within) (empty-few p.store.past w l (rw h.idle at (r.asked w).few))
          | inr ne ↦ rw (there p w u l more ne) (r.asked u)
        ];
      };
      entries = refl;
    }
  where
    locals : (u : ℕ) → local_of (worker_at (with_worker p w l more) u) ≡ (with_local (state_of p r.entries r.beside) w (local_of l)).local u
    locals u = elim (cases_eq u w) [
      | inl e ↦ ap (λ t. local_of (worker_at (with_worker p w l more) t)) e ∙ ap local_of (here p w l more h.within) ∙ sym (put-here (λ t. local_of (worker_at p t)) w _ u e)
      | inr ne ↦ ap local_of (there p w u l more ne) ∙ sym (put-there (λ t. local_of (worker_at p t)) w _ u ne)
    ]

    own : (s : ℕ) → IsOwned p r.beside s → (r.beside.owner s ≡ w) ⊎ (r.beside.owner s ≢ w) → IsOwned (with_worker p w l more) r.beside s
    own s old (inl e) = absurd (owns-none p r w s h.idle (rw e at old.operation))
    own s old (inr ne) = record { owner = rw (length-set p.workers w l) old.owner; operation = rw (there p w (r.beside.owner s) l more ne) old.operation }

    prepares : (s : ℕ) → IsPrepared p r.beside s → (r.beside.owner s ≡ w) ⊎ (r.beside.owner s ≢ w) → IsPrepared (with_worker p w l more) r.beside s
    prepares s old (inl e) = (let at : (worker_at p w).place ≡ place.Prepare old.step = rw e at old.place in let bad = sym h.idle ∙ at in absurd cc)
    prepares s old (inr ne) = record { step = old.step; place = rw (there p w (r.beside.owner s) l more ne) old.place; current = rw (there p w (r.beside.owner s) l more ne) old.current }

phase-some : (w : ℕ) → 0 < w → phase_of w ≡ Running
phase-some zero some = absurd (omega (arith, some))
phase-some (suc w) some = refl

-- what callers see after a start
pub start-seen : (p : Parts) (r : IsRunning p) (w : ℕ) (l : Worker) (v : Event) (d : Doing) → p.phase ≢ Recovering → Starts p r w l v (allowed_by_kind d) → working l ≡ record { doing = d; flush_next = false }
    → seen (with_worker p w l (allowed_by_kind d)) ≡ started (seen p) w d
start-seen p r w l v d phase h is =
    let after = start-running p r w l v (allowed_by_kind d) h in
    let begun : begun_seen Running p.store (slice_set p.workers w l) ≡ begun_seen p.phase p.store p.workers =
    begun_is (with_worker p w l (allowed_by_kind d)) after.running ∙ ap (λ e. listed (λ s. entry_list (e s)) 0 p.store.taken) after.entries ∙ sym (begun-running p r p.phase phase) in
    let workers = map-set working p.workers w l ∙ ap (slice_set (map working p.workers) w) is in
    let some = sym (phase-some w h.some) in
    let left = left-running p r h.allowed w in
    λ i. record (seen p) { phase = some i; begun = begun i; workers = workers i; runner = w; left = sym left i + allowed_by_kind d }

-- all that a start owes
pub record IsStarted (p : Parts) (w : ℕ) (l : Worker) (d : Doing) : Type 0 where
  pub kept : IsKept (with_worker p w l (allowed_by_kind d))
  pub is : seen (with_worker p w l (allowed_by_kind d)) ≡ started (seen p) w d
  pub holds : Holds (seen (with_worker p w l (allowed_by_kind d)))

pub is-started : (p : Parts) (k : IsKept p) (phase : p.phase ≢ Recovering) (w : ℕ) (l : Worker) (v : Event) (d : Doing) → Starts p (running p.phase p phase k.kept) w l v (allowed_by_kind d)
    → working l ≡ record { doing = d; flush_next = false } → IsStarted p w l d
is-started p k phase w l v d h is =
    let r = running p.phase p phase k.kept in
    let after = start-running p r w l v (allowed_by_kind d) h in
    let kept : IsKept (with_worker p w l (allowed_by_kind d)) = record {
      room = k.room;
      swaps = k.swaps;
      workers = length-set p.workers w l ∙ k.workers;
      few = rw (length-set p.workers w l) k.few;
      some = rw (length-set p.workers w l) k.some;
      allowed = ap (λ n. n + for_worker) k.allowed ∙ sym (allowed-begun p.workers w l h.within h.idle h.busy);
      counted = k.counted;
      kept = after.running;
    } in
    record { kept = kept; is = start-seen p r w l v d phase h is; holds = step-holds (with_worker p w l (allowed_by_kind d)) kept }
