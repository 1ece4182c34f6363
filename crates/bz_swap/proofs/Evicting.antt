-- An eviction: the parts after it are the machine's state after its event.
use Rattle.std.specs.Prelude.{◌≡◌, ◌≢◌, ℕ, length}
use Rattle.std.proofs.Common.{refl, sym, subst}
use Rattle.std.specs.declared.option.Option.{Option}
use Rattle.bz_swap_cells.specs.FromPm.After.{after_eviction as eviction_of}
use Rattle.bz_swap_machine.specs.declared.worker.Worker.{Worker}
use Rattle.bz_swap_machine.specs.Machine.{Entries}
use Rattle.bz_swap_machine.specs.Budgets.{IsBounded, IsAmong}
use Rattle.bz_swap_machine.specs.Lawful.{AreInRange, MayHold}
use Rattle.bz_swap_machine.specs.State.{State, IsState, MayHappen, happens}
use Rattle.bz_swap_machine.specs.Workers.{local_of}
use Rattle.bz_swap_machine.proofs.EventLaws.{keeps_state, keeps_range, stays_bounded}
use Rattle.bz_swap_cells.specs.Store.{Store, Beside, typed, store_state, with_state}
use Rattle.bz_swap_acts.specs.Ready.{LiesOutside}
use Rattle.bz_swap.specs.declared.phase.Phase.{Phase}
use Rattle.bz_swap.specs.declared.phase.Phase.TheVariants.{Opened, Running, Recovering}
use Rattle.bz_swap.specs.declared.role.WordRole.{WordRole}
use Rattle.bz_swap.specs.declared.role.WordRole.TheVariants.{Outside, Status, Field}
use Rattle.bz_swap.specs.Inside.Evicted.{IsEvicted, event_of, memory_after}
use Rattle.bz_swap.specs.Inside.Parts.{Parts, worker_at}
use Rattle.bz_swap.specs.Inside.Kept.{IsRunning, IsWorker, IsEnough, IsKept, KeptIn, state_of}
use Rattle.bz_swap.proofs.Asking.{same-place}
use Rattle.bz_swap.proofs.StepLies.{worker-shape}
use Rattle.bz_swap.proofs.Stepping.{running}
use Rattle.bz_swap.proofs.StepsLeft.{enough-evicted}

-- the parts with the word at an address durable
abbrev pub evicted_store : Store → ℕ → Store
evicted_store st a = with_state st (eviction_of (store_state st) a)

abbrev pub after_eviction : Parts → ℕ → Parts
after_eviction p a = record p { store = evicted_store p.store a }

-- what lies outside the descriptors lies there still
lies-kept : (st : Store) (a c : ℕ) → LiesOutside st c → LiesOutside (evicted_store st a) c
lies-kept st a c h = record { outside = h.outside; within = h.within }

worker-kept : (st : Store) (a : ℕ) (l : Worker) → IsWorker st l → IsWorker (evicted_store st a) l
worker-kept st a l h = worker-shape st (evicted_store st a) l (record { swaps = refl; size = refl; workers = refl }) h

-- an eviction may happen at any time
may-evict : (x : State) (a : ℕ) (role : WordRole) → MayHappen x (event_of a role)
may-evict x a Outside = tt
may-evict x a (Status s) = tt
may-evict x a (Field s k) = tt

holds-evict : (x : State) (a : ℕ) (role : WordRole) → MayHold x (event_of a role)
holds-evict x a Outside = tt
holds-evict x a (Status s) = tt
holds-evict x a (Field s k) = tt

among-evict : (n a : ℕ) (role : WordRole) → IsAmong n (event_of a role)
among-evict n a Outside = tt
among-evict n a (Status s) = tt
among-evict n a (Field s k) = tt

-- the machine's state after an eviction
pub eviction-path : (p : Parts) (e : ℕ → Entries) (b : Beside) (a : ℕ) (role : WordRole) → typed (evicted_store p.store a) b ≡ memory_after a role (typed p.store b)
    → state_of (after_eviction p a) e b ≡ happens (state_of p e b) (event_of a role)
eviction-path p e b a Outside is = λ i. record { entries = e; memory = is i; local = λ w. local_of (worker_at p w) }
eviction-path p e b a (Status s) is = λ i. record { entries = e; memory = is i; local = λ w. local_of (worker_at p w) }
eviction-path p e b a (Field s k) is = λ i. record { entries = e; memory = is i; local = λ w. local_of (worker_at p w) }

-- the parts after an eviction are the machine's state with the same past
pub record RunsStill (p : Parts) (r : IsRunning p) (a : ℕ) : Type 0 where
  pub running : IsRunning (after_eviction p a)
  pub entries : running.entries ≡ r.entries
  pub beside : running.beside ≡ r.beside

pub eviction-running : (p : Parts) (r : IsRunning p) (a : ℕ) (told : Option ℕ) → IsEvicted p.store a told (evicted_store p.store a) → RunsStill p r a
eviction-running p r a told h =
    let x : State = state_of p r.entries r.beside in
    let path = eviction-path p r.entries r.beside a h.role (h.changed r.beside) in
    record {
      running = record {
        entries = r.entries;
        beside = r.beside;
        words = h.readable;
        state = subst IsState (sym path) (keeps_state x (event_of a h.role) (may-evict x a h.role) r.state);
        range = subst AreInRange (sym path) (keeps_range x (event_of a h.role) (holds-evict x a h.role) r.state r.range);
        bounded = subst (λ (y : State). IsBounded y (length p.workers)) (sym path) (stays_bounded x (length p.workers) (event_of a h.role) (may-evict x a h.role) (among-evict (length p.workers) a h.role) r.bounded);
        enough = subst (λ (y : State). IsEnough y p.allowance (length p.workers)) (sym path) (enough-evicted x p.allowance (length p.workers) a h.role r.enough);
        lies = λ s i below. lies-kept p.store a ((r.entries s).target i) (r.lies s i below);
        named = r.named;
        owned = λ s begun none. (let o = r.owned s begun none in record { owner = o.owner; operation = o.operation });
        prepared = λ s begun unset. (let o = r.prepared s begun unset in record { step = o.step; place = o.place; current = o.current });
        workers = λ w. worker-kept p.store a (worker_at p w) (r.workers w);
        tags = r.tags;
        recoverer = r.recoverer;
        asked = λ w. (let h = r.asked w in record { few = h.few; alone = same-place p.store.past (evicted_store p.store a).past w (worker_at p w).current (worker_at p w).place refl h.alone });
      };
      entries = refl;
      beside = refl;
    }

-- what is kept after an eviction
kept-still : (phase : Phase) (p : Parts) (a : ℕ) → phase ≢ Recovering → KeptIn phase p → IsRunning (after_eviction p a) → KeptIn phase (after_eviction p a)
kept-still Opened p a not kept r = record { running = r; idle = kept.idle; taken = kept.taken }
kept-still Running p a not kept r = r
kept-still Recovering p a not kept r = absurd (not refl)

pub eviction-kept : (p : Parts) (k : IsKept p) (a : ℕ) (told : Option ℕ) → p.phase ≢ Recovering → IsEvicted p.store a told (evicted_store p.store a) → IsKept (after_eviction p a)
eviction-kept p k a told phase h = record {
  room = h.readable.has_room;
  swaps = k.swaps;
  workers = k.workers;
  few = k.few;
  some = k.some;
  allowed = k.allowed;
  counted = k.counted;
  kept = kept-still p.phase p a phase k.kept (eviction-running p (running p.phase p phase k.kept) a told h).running;
}
