-- Parts of which nothing was asked yet, on words that need no recovery, are the machine's state at power on.
use Rattle.std.specs.Prelude.{◌≡◌, if◌then◌else◌, nat_lt, ℕ, ◌/◌, ◌%◌, ◌≤◌, suc, Bool, true, false, List, [], ◌∷◌, map, length, get_or, slice_index, replicate, None, Some}
use Rattle.std.specs.declared.option.Option.{Option}
use Rattle.std.proofs.Common.{arith, refl, ap, sym, ◌∙◌, inl, inr}
use Rattle.std.proofs.lemmas.Bool.{cases_lt}
use Rattle.std.proofs.lemmas.List.{get_or-replicate, get_or_past, length-replicate}
use Rattle.bz_swap_machine.specs.declared.place.Place.TheVariants as place
use Rattle.bz_swap_machine.specs.declared.worker.Operation.TheVariants as operation
use Rattle.bz_swap_machine.specs.declared.worker.Worker.{Worker}
use Rattle.bz_swap_machine.specs.Budgets.{IsBounded}
use Rattle.bz_swap_machine.specs.Changes.{no_entries}
use Rattle.bz_swap_machine.specs.Sizes.{most_workers}
use Rattle.bz_swap_machine.specs.State.{IsRenewable, idle, power_on}
use Rattle.bz_swap_machine.specs.Workers.{local_of}
use Rattle.bz_swap_machine.proofs.EventLaws.{begins_as_state, begins_in_range, begins_bounded}
use Rattle.bz_swap_cells.specs.Store.{Store, Past, Beside, HasRoom, IsOutside, AreAsked, typed, is_outside, status_of, field_address, field_count, saved_as, saved_word, word_pending, pending_as, kind_pending, status_pending, field_pending}
use Rattle.bz_word.specs.Kinds.{kind}
use Rattle.bz_layout.specs.Addresses.{swap_address}
use Rattle.bz_swap_machine.specs.Pending.{Pending, IsAlone, no_asks}
use Rattle.bz_swap_cells.specs.FromPm.State.{ask_for}
use Rattle.bz_swap.specs.Power.{AreRecovered}
use Rattle.bz_swap.specs.SwapMemory.{idle as seen_idle}
use Rattle.bz_swap.specs.Inside.Parts.{Parts, idle_worker, worker_at, working}
use Rattle.bz_swap.specs.Inside.Kept.{IsRunning, IsUntouched, IsWorker, AsksFew, state_of}
use Rattle.bz_swap.proofs.Allowing.{allowed-none}
use Rattle.bz_swap.proofs.StepsLeft.{enough-idle}
use Rattle.bz_swap.proofs.Recovered.{fitting, fitting-plain, fitting-kind, same-kinds, free-status, recovered-words}

-- nothing was begun yet, and nobody waits for a fence
pub record IsFresh (p : Parts) : Type 0 where
  pub room : HasRoom p.store
  pub same : (a : ℕ) → IsOutside p.store.swaps a → slice_index p.store.cached a ≡ slice_index p.store.durable a
  pub cached : AreRecovered p.store.swaps p.store.cached
  pub durable : AreRecovered p.store.swaps p.store.durable
  pub tags : (w : ℕ) → slice_index p.store.next_tags w ≡ 0
  pub missed : (s : ℕ) → get_or p.store.missed s false ≡ false
  pub taken : p.store.taken ≡ 0
  pub since : (a : ℕ) → slice_index p.store.past.since a ≤ p.store.past.count
  pub asks : (w : ℕ) → get_or p.store.past.asks w [] ≡ []
  pub workers : (w : ℕ) → worker_at p w ≡ idle_worker
  pub few : length p.workers ≤ most_workers

-- a list of one value has it everywhere, and past its end too where it is the default
pub all-same : {A : Type 0} (n i : ℕ) (x : A) → get_or (replicate n x) i x ≡ x
all-same n i x = elim (cases_lt i n) [
  | inl lt ↦ get_or-replicate n i x x lt
  | inr ge ↦ get_or_past (replicate n x) i x (rw length-replicate ge)
]

-- nothing of the past
fresh_beside : Beside
fresh_beside = record { owner = λ s. 0; named = λ a. false; published = λ s. false; answer = λ s. None }

-- nobody waits for a fence
fresh-word : (past : Past) (a : ℕ) → slice_index past.since a ≤ past.count → ((w : ℕ) → get_or past.asks w [] ≡ []) → IsAlone past.count (word_pending past a)
fresh-word past a since asks = record { since = since; none = λ w. ap (λ qs. saved_word (ask_for qs (a / 8)) (a % 8)) (asks w) }

as-alone : {A : Type 0} (f : ℕ → A) (now : ℕ) (p : Pending ℕ) → IsAlone now p → IsAlone now (pending_as f p)
as-alone f now p only = record { since = only.since; none = λ w. (λ i. saved_as f (only.none w i)) }

none-alone : {A : Type 0} (now : ℕ) → IsAlone {A = A} now no_asks
none-alone now = record { since = omega arith; none = λ w. refl }

module _ (swaps : ℕ) (past : Past) (since : (a : ℕ) → slice_index past.since a ≤ past.count) (asks : (w : ℕ) → get_or past.asks w [] ≡ []) where
  fresh-kind : (a : ℕ) → IsAlone past.count (kind_pending swaps (word_pending past) a)
  fresh-kind a = by_test (is_outside swaps a)
    where
      by_test : (t : Bool) → IsAlone past.count (if t then pending_as kind (word_pending past a) else no_asks)
      by_test true = as-alone kind past.count (word_pending past a) (fresh-word past a (since a) asks)
      by_test false = none-alone past.count

  fresh-status : (s : ℕ) → IsAlone past.count (status_pending swaps (word_pending past) s)
  fresh-status s = by_test (nat_lt s swaps)
    where
      by_test : (t : Bool) → IsAlone past.count (if t then pending_as status_of (word_pending past (swap_address s)) else no_asks)
      by_test true = as-alone status_of past.count (word_pending past (swap_address s)) (fresh-word past (swap_address s) (since (swap_address s)) asks)
      by_test false = none-alone past.count

  fresh-field : (s k : ℕ) → IsAlone past.count (field_pending swaps (word_pending past) s k)
  fresh-field s k = by_test (nat_lt s swaps) (nat_lt k field_count)
    where
      by_test : (t u : Bool) → IsAlone past.count (if t then if u then word_pending past (field_address s k) else no_asks else no_asks)
      by_test true true = fresh-word past (field_address s k) (since (field_address s k)) asks
      by_test true false = none-alone past.count
      by_test false u = none-alone past.count

idle-local : local_of idle_worker ≡ idle
unfolding idle_worker
idle-local = λ i. record { operation = operation.Nothing; place = place.Idle; current = 0; back = None; list = λ k. all-same 13 k 0 i }

fresh-path : (p : Parts) → IsFresh p → state_of p no_entries fresh_beside ≡ power_on (typed p.store fresh_beside)
unfolding fresh_beside
fresh-path p f = λ i. record {
  entries = no_entries;
  memory = record (typed p.store fresh_beside) {
    next_tag = λ w. f.tags w i;
    missed = λ s. f.missed s i;
    taken = f.taken i;
  };
  local = λ w. (ap local_of (f.workers w) ∙ idle-local) i;
}

fresh-renewable : (p : Parts) → IsFresh p → IsRenewable (typed p.store fresh_beside)
fresh-renewable p f = record {
  plain = λ a. fitting-plain _ (fitting p.store.swaps p.store.cached a f.cached);
  same = same-kinds p.store.swaps p.store.cached p.store.durable f.same;
  free = λ s. free-status p.store.swaps p.store.cached s f.cached;
  durable_free = λ s. free-status p.store.swaps p.store.durable s f.durable;
  words = fresh-kind p.store.swaps p.store.past f.since f.asks;
  statuses = fresh-status p.store.swaps p.store.past f.since f.asks;
  fields = fresh-field p.store.swaps p.store.past f.since f.asks;
}

idle-is_worker : (st : Store) → IsWorker st idle_worker
unfolding idle_worker
idle-is_worker st = record { rests = refl; operation = tt; place = tt }

pub idle-place : idle_worker.place ≡ place.Idle
unfolding idle_worker
idle-place = refl

pub idle-operation : idle_worker.operation ≡ operation.Nothing
unfolding idle_worker
idle-operation = refl

pub fresh-place : (p : Parts) (w : ℕ) → worker_at p w ≡ idle_worker → (worker_at p w).place ≡ place.Idle
fresh-place p w is = ap (λ (l : Worker). l.place) is ∙ idle-place

-- no ask was made
no-ask : (past : Past) (w line : ℕ) → get_or past.asks w [] ≡ [] → ask_for (get_or past.asks w []) line ≡ None
no-ask past w line none = ap (λ qs. ask_for qs line) none

some-none : {A : Type 0} (o : Option A) (q : A) → o ≡ None → o ≡ Some q → ⊥
some-none o q none some = (let bad : None ≡ Some q = sym none ∙ some in absurd cc)

fresh-asked : (swaps : ℕ) (past : Past) → ((w : ℕ) → get_or past.asks w [] ≡ []) → AreAsked swaps past.asks
fresh-asked swaps past asks = record {
  kinds = λ a w q out is. absurd (some-none _ q (no-ask past w (a / 8) (asks w)) is);
  statuses = λ s w q lt is. absurd (some-none _ q (no-ask past w (swap_address s / 8) (asks w)) is);
}

fresh-few : (past : Past) (w : ℕ) → get_or past.asks w [] ≡ [] → AsksFew past w idle_worker
unfolding idle_worker
fresh-few past w none = record { few = rw none (omega arith); alone = tt }

pub fresh-running : (p : Parts) → IsFresh p → IsRunning p
unfolding fresh_beside
fresh-running p f =
    let path = fresh-path p f in
    let m = typed p.store fresh_beside in
    let bounded : IsBounded (state_of p no_entries fresh_beside) (length p.workers) = rw path (begins_bounded m (length p.workers) (fresh-renewable p f) f.few) in
    record {
      entries = no_entries;
      beside = fresh_beside;
      words = record { has_room = f.room; cached = recovered-words p.store.swaps p.store.cached f.cached; durable = recovered-words p.store.swaps p.store.durable f.durable; asked = fresh-asked p.store.swaps p.store.past f.asks };
      state = rw path (begins_as_state m (fresh-renewable p f));
      range = rw path (begins_in_range m (fresh-renewable p f) (λ a. (fitting-kind _ (fitting p.store.swaps p.store.cached a f.cached), fitting-kind _ (fitting p.store.swaps p.store.durable a f.durable))));
      bounded = bounded;
      enough = enough-idle (state_of p no_entries fresh_beside) p.allowance (length p.workers) bounded (allowed-none p.workers (λ w. fresh-place p w (f.workers w)));
      lies = λ s i below. absurd (omega (arith, below));
      named = λ a. rw f.taken refl;
      owned = λ s begun none. absurd (omega (arith, begun, f.taken));
      prepared = λ s begun none. absurd (omega (arith, begun, f.taken));
      workers = λ w. rw (f.workers w) (idle-is_worker p.store);
      tags = λ w. omega (arith, f.tags w);
      recoverer = fresh-place p 0 (f.workers 0);
      asked = λ w. rw (f.workers w) (fresh-few p.store.past w (f.asks w));
    }

pub fresh-untouched : (p : Parts) → IsFresh p → IsUntouched p
fresh-untouched p f = record { running = fresh-running p f; idle = λ w. fresh-place p w (f.workers w); taken = f.taken }

-- a worker whose place is idle is seen idle
working-place : (l : Worker) → l.place ≡ place.Idle → working l ≡ seen_idle
working-place l is = rw is refl

-- all workers are seen idle
pub all-idle : (workers : List Worker) → ((w : ℕ) → (get_or workers w idle_worker).place ≡ place.Idle) → map working workers ≡ replicate (length workers) seen_idle
all-idle [] each = refl
all-idle (l ∷ workers) each = λ i. working-place l (each 0) i ∷ all-idle workers (λ w. each (suc w)) i
