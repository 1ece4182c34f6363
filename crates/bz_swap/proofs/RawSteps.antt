-- A step of worker 0 in a recovery time.
use Rattle.std.specs.Prelude.{◌≡◌, ◌≢◌, ℕ, ◌+◌, ◌^◌, ◌<◌, ◌≤◌, ◌==◌, if◌then◌else◌, Bool, true, false, List, length, slice_index, slice_set, None}
use Rattle.std.proofs.Common.{arith, refl, ap, sym, subst, ◌∙◌, inl, inr}
use Rattle.std.proofs.lemmas.Bool.{cases_eq, cases_lt}
use Rattle.std.proofs.lemmas.List.{length-set}
use Rattle.bz_swap_machine.specs.declared.place.Place.{Place}
use Rattle.bz_swap_machine.specs.declared.place.Place.TheVariants as place
use Rattle.bz_swap_machine.specs.declared.worker.Operation.{Operation}
use Rattle.bz_swap_machine.specs.declared.worker.Operation.TheVariants as operation
use Rattle.bz_swap_machine.specs.declared.worker.Worker.{Worker}
use Rattle.bz_swap_machine.specs.Allowed.{for_worker}
use Rattle.bz_swap_machine.specs.Budget.{left_at}
use Rattle.bz_swap_machine.specs.Fences.{is_fence}
use Rattle.bz_swap_cells.specs.Store.{Store, MayAsk, store_state}
use Rattle.bz_swap_acts.specs.Rule.{IsWithin, after_act, is_fence_act}
use Rattle.bz_swap_acts.specs.declared.acted.Act.{Act}
use Rattle.bz_swap_acts.specs.declared.acted.Act.TheVariants.{Load, Store as StoreAct, Cas, Ask, Fence}
use Rattle.bz_swap_cells.specs.FromPm.State.{State, asks_of}
use Rattle.bz_swap_acts.specs.declared.acted.Acted.{Acted}
use Rattle.bz_swap.specs.declared.phase.Phase.{Phase}
use Rattle.bz_swap.specs.declared.phase.Phase.TheVariants.{Opened, Running, Recovering}
use Rattle.bz_swap.specs.Solo.{steps_left}
use Rattle.bz_swap.specs.Inside.Allowances.{all_after}
use Rattle.bz_swap.specs.Inside.Raw.{IsAsked, IsRawAct, next_place}
use Rattle.bz_swap.specs.Steps.{IsAnswer, IsRawStep, doing_after}
use Rattle.bz_swap.specs.SwapMemory.{SwapMemory, Idle, Working, worker_of, doing_of}
use Rattle.bz_swap.specs.Inside.Parts.{Parts, worker_at, working, doing_at, begun_seen, seen}
use Rattle.bz_swap.specs.Inside.Kept.{IsRecovering, IsKept, KeptIn, RecoversAt, lines_at}
use Rattle.bz_swap.proofs.Alone.{left-seen, left-spent}
use Rattle.bz_swap.proofs.Asking.{others-asked, load-none, store-none, fence-none, ask-more}
use Rattle.bz_swap.proofs.Allowing.{allowed-some, allowed-stepped}
use Rattle.bz_swap.proofs.Doings.{worker-seen, fences-next}
use Rattle.bz_swap.proofs.SeenActs.{counted}
use Rattle.bz_swap.proofs.Stepping.{workers-within, busy-place}
use Rattle.bz_swap.proofs.Stepped.{after_step, same-worker, other-worker}
use Rattle.bz_swap.proofs.StepsLeft.{least}
use Rattle.bz_swap.proofs.WorkStarts.{placed}

pub recovering : (p : Parts) → IsKept p → p.phase ≡ Recovering → IsRecovering p
recovering p k is = subst (λ x. KeptIn x p) is k.kept

-- the worker that steps is worker 0
pub is-zero : (p : Parts) (r : IsRecovering p) (w : ℕ) → doing_of (seen p) w ≢ Idle → w ≡ 0
is-zero p r w busy = elim (cases_lt 0 w) [
  | inl some ↦ absurd (busy-place p w busy (r.others w some))
  | inr none ↦ omega (arith, none)
]

pub recovers-at : (p : Parts) (k : IsKept p) (w : ℕ) (l : Worker) → p.phase ≡ Recovering → doing_of (seen p) w ≢ Idle → l ≡ worker_at p w → RecoversAt p.store l.place × (l.place ≢ place.Idle)
recovers-at p k w l phase busy is =
    let r = recovering p k phase in
    let zero = is-zero p r w busy in
    (subst (λ u. RecoversAt p.store u.place) (sym (is ∙ ap (worker_at p) zero)) r.recoverer, λ idle. busy-place p w busy (sym (ap (λ u. u.place) is) ∙ idle))

-- what was asked is what was done, and answered
asked-answer : (m : SwapMemory) (at : Place) (o : Operation) (acted : Acted) → IsAsked at acted → IsAnswer m (doing_at at o) acted.act acted.done
asked-answer m (place.LoadWord a) o acted is = rw is.1.1 is.1.0
asked-answer m (place.StoreWord a v) o acted is = rw is.1 is.0
asked-answer m place.Idle o acted is = absurd is
asked-answer m (place.Prepare step) o acted is = absurd is
asked-answer m (place.Learn k) o acted is = absurd is
asked-answer m (place.Help step) o acted is = absurd is
asked-answer m (place.ReadWord a) o acted is = absurd is
asked-answer m (place.AskRead a v) o acted is = absurd is
asked-answer m (place.FenceRead a v) o acted is = absurd is
asked-answer m (place.ClearRead a v) o acted is = absurd is
asked-answer m (place.AskLine line) o acted is = rw is.1 is.0
asked-answer m (place.FenceLine line) o acted is = rw is.1 is.0

asked-flush : (at : Place) (acted : Acted) → IsAsked at acted → is_fence_act acted.act ≡ is_fence at
asked-flush (place.LoadWord a) acted is = ap is_fence_act is.1.0
asked-flush (place.StoreWord a v) acted is = ap is_fence_act is.0
asked-flush place.Idle acted is = absurd is
asked-flush (place.Prepare step) acted is = absurd is
asked-flush (place.Learn k) acted is = absurd is
asked-flush (place.Help step) acted is = absurd is
asked-flush (place.ReadWord a) acted is = absurd is
asked-flush (place.AskRead a v) acted is = absurd is
asked-flush (place.FenceRead a v) acted is = absurd is
asked-flush (place.ClearRead a v) acted is = absurd is
asked-flush (place.AskLine line) acted is = ap is_fence_act is.0
asked-flush (place.FenceLine line) acted is = ap is_fence_act is.0

-- and what is done next
asked-idle : (at : Place) (o : Operation) (acted : Acted) → IsAsked at acted → doing_at (next_place at) o ≡ doing_after (doing_at at o) acted.done
asked-idle (place.LoadWord a) o acted is = rw is.1.1 refl
asked-idle (place.StoreWord a v) o acted is = rw is.1 refl
asked-idle place.Idle o acted is = absurd is
asked-idle (place.Prepare step) o acted is = absurd is
asked-idle (place.Learn k) o acted is = absurd is
asked-idle (place.Help step) o acted is = absurd is
asked-idle (place.ReadWord a) o acted is = absurd is
asked-idle (place.AskRead a v) o acted is = absurd is
asked-idle (place.FenceRead a v) o acted is = absurd is
asked-idle (place.ClearRead a v) o acted is = absurd is
asked-idle (place.AskLine line) o acted is = rw is.1 refl
asked-idle (place.FenceLine line) o acted is = rw is.1 refl

-- the act is one on a word or line of the memory
asked-within : (st : Store) (at : Place) (acted : Acted) → RecoversAt st at → IsAsked at acted → IsWithin (length st.cached) acted.act
asked-within st (place.LoadWord a) acted lies is = rw is.1.0 lies
asked-within st (place.StoreWord a v) acted lies is = rw is.0 lies
asked-within st place.Idle acted lies is = absurd is
asked-within st (place.Prepare step) acted lies is = absurd is
asked-within st (place.Learn k) acted lies is = absurd is
asked-within st (place.Help step) acted lies is = absurd is
asked-within st (place.ReadWord a) acted lies is = absurd is
asked-within st (place.AskRead a v) acted lies is = absurd is
asked-within st (place.FenceRead a v) acted lies is = absurd is
asked-within st (place.ClearRead a v) acted lies is = absurd is
asked-within st (place.AskLine line) acted lies is = rw is.0 lies
asked-within st (place.FenceLine line) acted lies is = rw is.0 tt

-- an ask is counted
count-act : (m : State) (w : ℕ) (at : Place) (acted : Acted) → IsAsked at acted → (after_act w m acted.act).count ≤ m.count + 1
count-act m w (place.LoadWord a) acted is = omega (arith, ap (λ (made : Act). (after_act w m made).count) is.1.0)
count-act m w (place.StoreWord a v) acted is = omega (arith, ap (λ (made : Act). (after_act w m made).count) is.0)
count-act m w (place.AskLine line) acted is = omega (arith, ap (λ (made : Act). (after_act w m made).count) is.0)
count-act m w (place.FenceLine line) acted is = omega (arith, ap (λ (made : Act). (after_act w m made).count) is.0)
count-act m w place.Idle acted is = absurd is
count-act m w (place.Prepare step) acted is = absurd is
count-act m w (place.Learn k) acted is = absurd is
count-act m w (place.Help step) acted is = absurd is
count-act m w (place.ReadWord a) acted is = absurd is
count-act m w (place.AskRead a v) acted is = absurd is
count-act m w (place.FenceRead a v) acted is = absurd is
count-act m w (place.ClearRead a v) acted is = absurd is

-- an act does not lead to an ask
next-no-ask : (at : Place) (j : ℕ) → next_place at ≢ place.AskLine j
next-no-ask place.Idle j is = absurd cc
next-no-ask (place.Prepare step) j is = absurd cc
next-no-ask (place.Learn k) j is = absurd cc
next-no-ask (place.Help step) j is = absurd cc
next-no-ask (place.ReadWord a) j is = absurd cc
next-no-ask (place.AskRead a v) j is = absurd cc
next-no-ask (place.FenceRead a v) j is = absurd cc
next-no-ask (place.ClearRead a v) j is = absurd cc
next-no-ask (place.LoadWord a) j is = absurd cc
next-no-ask (place.StoreWord a v) j is = absurd cc
next-no-ask (place.AskLine line) j is = absurd cc
next-no-ask (place.FenceLine line) j is = absurd cc

-- what may be done next, and what it takes
next-recovers : (st : Store) (at : Place) → RecoversAt st (next_place at)
next-recovers st place.Idle = tt
next-recovers st (place.Prepare step) = tt
next-recovers st (place.Learn k) = tt
next-recovers st (place.Help step) = tt
next-recovers st (place.ReadWord a) = tt
next-recovers st (place.AskRead a v) = tt
next-recovers st (place.FenceRead a v) = tt
next-recovers st (place.ClearRead a v) = tt
next-recovers st (place.LoadWord a) = tt
next-recovers st (place.StoreWord a v) = tt
next-recovers st (place.AskLine line) = tt
next-recovers st (place.FenceLine line) = tt

next-left : (st : Store) (at : Place) → RecoversAt st at → at ≢ place.Idle → left_at (next_place at) + 1 ≤ left_at at
next-left st place.Idle lies busy = absurd (busy refl)
next-left st (place.LoadWord a) lies busy = omega arith
next-left st (place.StoreWord a v) lies busy = omega arith
next-left st (place.AskLine line) lies busy = omega arith
next-left st (place.FenceLine line) lies busy = omega arith
next-left st other lies busy = absurd lies

few-left : (st : Store) (at : Place) → RecoversAt st at → left_at at ≤ 2
few-left st place.Idle lies = omega arith
few-left st (place.LoadWord a) lies = omega arith
few-left st (place.StoreWord a v) lies = omega arith
few-left st (place.AskLine line) lies = omega arith
few-left st (place.FenceLine line) lies = omega arith
few-left st other lies = absurd lies

few-lines : (st : Store) (at : Place) → RecoversAt st at → lines_at at ≤ 1
few-lines st place.Idle lies = omega arith
few-lines st (place.LoadWord a) lies = omega arith
few-lines st (place.StoreWord a v) lies = omega arith
few-lines st (place.AskLine line) lies = omega arith
few-lines st (place.FenceLine line) lies = omega arith
few-lines st other lies = absurd lies

-- how many lines are asked for then
next-asked : (m n : State) (w : ℕ) (at : Place) (acted : Acted) → IsAsked at acted → n ≡ after_act w m acted.act → w < length m.asks → length (asks_of m w) ≤ lines_at at → length (asks_of n w) ≤ lines_at (next_place at)
next-asked m n w (place.LoadWord a) acted is after within few = load-none m n w acted.act a _ after is.1.0 few
next-asked m n w (place.StoreWord a v) acted is after within few = store-none m n w acted.act a v after is.0 few
next-asked m n w (place.AskLine line) acted is after within few = omega (arith, ask-more m n w line acted.act after within is.0, few)
next-asked m n w (place.FenceLine line) acted is after within few = fence-none m n w acted.act after within is.0
next-asked m n w place.Idle acted is after within few = absurd is
next-asked m n w (place.Prepare step) acted is after within few = absurd is
next-asked m n w (place.Learn k) acted is after within few = absurd is
next-asked m n w (place.Help step) acted is after within few = absurd is
next-asked m n w (place.ReadWord a) acted is after within few = absurd is
next-asked m n w (place.AskRead a v) acted is after within few = absurd is
next-asked m n w (place.FenceRead a v) acted is after within few = absurd is
next-asked m n w (place.ClearRead a v) acted is after within few = absurd is

-- the worker may ask for a line
pub raw-asks : (p : Parts) (k : IsKept p) (w : ℕ) → p.phase ≡ Recovering → w < length p.workers → doing_of (seen p) w ≢ Idle → p.steps < 2 ^ 36 → MayAsk p.store w
raw-asks p k w phase within busy steps =
    let r = recovering p k phase in
    let zero = is-zero p r w busy in
    let lines = few-lines p.store (worker_at p 0).place r.recoverer in
    record {
      worker = omega (arith, within, k.workers);
      room = rw zero (omega (arith, r.asked 0, lines));
      counted = omega (arith, k.counted, steps);
    }

-- what is kept after the step
-- as many steps are left to the worker as its place takes
left-at : (p : Parts) (k : IsKept p) (w : ℕ) (l : Worker) → p.phase ≡ Recovering → w < length p.workers → doing_of (seen p) w ≢ Idle → l ≡ worker_at p w → left_at l.place ≤ steps_left p.allowance.runner p.allowance.left p.allowance.all w
left-at p k w l phase within busy is =
    let r = recovering p k phase in
    let zero = is-zero p r w busy in
    let lies = recovers-at p k w l phase busy is in
    let here : l.place ≡ (worker_at p 0).place = ap (λ (u : Worker). u.place) (is ∙ ap (worker_at p) zero) in
    let left : left_at l.place ≤ p.allowance.left = rw here r.enough in
    let most = few-left p.store l.place lies.0 in
    let all : for_worker ≤ p.allowance.all = rw k.allowed (allowed-some p.workers w within (busy-place p w busy)) in
    least (left_at l.place) p.allowance.runner p.allowance.left p.allowance.all w (omega (arith, all, most)) (λ _. left)

pub raw-kept : (p : Parts) (k : IsKept p) (w : ℕ) (store : Store) (l : Worker) (acted : Acted) → p.phase ≡ Recovering → w < length (seen p).workers → doing_of (seen p) w ≢ Idle → l ≡ worker_at p w
    → IsRawAct p.store w l.place acted store → IsKept (after_step p w store (placed l (next_place l.place)))
raw-kept p k w store l acted phase within busy is made =
    let r = recovering p k phase in
    let inside = workers-within p w within in
    let idle : (placed l (next_place l.place)).operation ≡ operation.Nothing = ap (λ u. u.operation) is ∙ r.rest w in
    let zero = is-zero p r w busy in
    let lies = recovers-at p k w l phase busy is in
    let here : worker_at (after_step p w store (placed l (next_place l.place))) 0 ≡ placed l (next_place l.place) = ap (worker_at (after_step p w store (placed l (next_place l.place)))) (sym zero) ∙ same-worker p w store (placed l (next_place l.place)) inside in
    let fewer = next-left p.store l.place lies.0 lies.1 in
    let left = left-at p k w l phase inside busy is in
    record {
      room = made.room;
      swaps = rw made.after k.swaps;
      workers = length-set p.workers w _ ∙ k.workers ∙ ap (λ (u : Store). length u.next_tags) (sym made.after);
      counted = (let same = ap (λ (u : Store). u.past.count) made.after in let more = count-act (store_state p.store) w l.place acted made.asked in omega (arith, k.counted, same, more));
      few = rw (length-set p.workers w (placed l (next_place l.place))) k.few;
      some = rw (length-set p.workers w (placed l (next_place l.place))) k.some;
      allowed = ap (λ n. all_after n (next_place l.place)) k.allowed ∙ sym (allowed-stepped p.workers w (placed l (next_place l.place)) inside (busy-place p w busy));
      kept = subst (λ x. KeptIn x (after_step p w store (placed l (next_place l.place)))) (sym phase) (record {
        recoverer = rw here (next-recovers store l.place);
        others = λ v some. (let zero = is-zero p r w busy in rw (other-worker p w v store (placed l (next_place l.place)) (omega (arith, some, zero))) (r.others v some));
        rest = λ v. elim (cases_eq v w) [
          | inl e ↦ rw (e, same-worker p w store (placed l (next_place l.place)) inside) idle
          | inr ne ↦ rw (other-worker p w v store (placed l (next_place l.place)) ne) (r.rest v)
        ];
        enough = rw here (omega (arith, left, fewer));
        asked = λ v. elim (cases_eq v w) [
          | inl e ↦ rw (e, same-worker p w store (placed l (next_place l.place)) inside) (next-asked (store_state p.store) (store_state store) w l.place acted made.asked (ap store_state made.after) (omega (arith, inside, k.workers, k.room.workers)) (rw is (r.asked w)))
          | inr ne ↦ rw (other-worker p w v store (placed l (next_place l.place)) ne, others-asked (store_state p.store) (store_state store) w acted.act (ap store_state made.after) v ne) (r.asked v)
        ];
      });
    }

length-if : (b : Bool) (xs : List ℕ) (a v : ℕ) → length (if b then slice_set xs a v else xs) ≡ length xs
length-if true xs a v = length-set xs a v
length-if false xs a v = refl

-- an act leaves as many words
length-act : (m : State) (w : ℕ) (made : Act) → length (after_act w m made).words.cached ≡ length m.words.cached
length-act m w (Load a v) = refl
length-act m w (StoreAct a v) = length-set m.words.cached a v
length-act m w (Cas a o v found) = length-if (slice_index m.words.cached a == o) m.words.cached a v
length-act m w (Ask line) = refl
length-act m w Fence = refl

none-begun : (phase : Phase) (p : Parts) → phase ≡ Recovering → (st : Store) (q : Parts) → begun_seen phase st q.workers ≡ begun_seen phase p.store p.workers
none-begun Recovering p is st q = refl
none-begun Opened p is st q = absurd cc
none-begun Running p is st q = absurd cc

-- the worker has a step left
raw-left : (p : Parts) (k : IsKept p) (w : ℕ) (l : Worker) → p.phase ≡ Recovering → w < length p.workers → doing_of (seen p) w ≢ Idle → l ≡ worker_at p w → 0 < steps_left p.allowance.runner p.allowance.left p.allowance.all w
raw-left p k w l phase within busy is =
    let lies = recovers-at p k w l phase busy is in
    omega (arith, left-at p k w l phase within busy is, next-left p.store l.place lies.0 lies.1)

pub raw-seen : (p : Parts) (k : IsKept p) (w : ℕ) (store : Store) (l : Worker) (acted : Acted) → p.phase ≡ Recovering → w < length (seen p).workers → doing_of (seen p) w ≢ Idle → p.steps < 2 ^ 36 → l ≡ worker_at p w
    → IsRawAct p.store w l.place acted store → IsRawStep (seen p) w acted.act acted.done None (seen (after_step p w store (placed l (next_place l.place))))
raw-seen p k w store l acted phase within busy steps is made =
    let q : Parts = after_step p w store (placed l (next_place l.place)) in
    let was : worker_of (seen p) w ≡ working l = worker-seen p w ∙ ap working (sym is) in
    let now : worker_of (seen q) w ≡ working (placed l (next_place l.place)) = worker-seen q w ∙ ap working (same-worker p w store (placed l (next_place l.place)) (workers-within p w within)) in
    record {
      one = record {
        may = record { state = k.room.state; fit = k.room.fit; worker = omega (arith, workers-within p w within, k.workers, k.room.workers); counted = omega (arith, k.counted, steps) };
        act = record { found = made.found; after = ap store_state made.after };
        within = asked-within p.store l.place acted (recovers-at p k w l phase busy is).0 made.asked;
        flush = asked-flush l.place acted made.asked ∙ ap (λ (u : Working). u.flush_next) (sym was);
        doing = ap (λ (u : Working). u.doing) now ∙ asked-idle l.place l.operation acted made.asked ∙ ap (λ (u : Working). doing_after u.doing acted.done) (sym was);
        steps = refl;
        others = record {
          size = ap (λ (u : Store). length u.cached) made.after ∙ length-act (store_state p.store) w acted.act;
          count = counted p w store (placed l (next_place l.place));
          swaps = ap (λ (u : Store). u.swaps) made.after;
          phase = refl;
          begun = none-begun p.phase p phase store q;
          taken = ap (λ (u : Store). u.taken) made.after;
          workers = λ v ne. worker-seen q v ∙ ap working (other-worker p w v store (placed l (next_place l.place)) ne) ∙ sym (worker-seen p v);
        };
        answer = subst (λ d. IsAnswer (seen q) d acted.act acted.done) (ap (λ (u : Working). u.doing) (sym was)) (asked-answer (seen q) l.place l.operation acted made.asked);
        fences = λ line flushing. ap (λ (u : Working). u.flush_next) now ∙ fences-next (next_place l.place) l.operation line (next-no-ask l.place) (ap (λ (u : Working). u.doing) (sym now) ∙ flushing);
        spent = left-spent p w store (placed l (next_place l.place)) (left-seen p k w) (raw-left p k w l phase (workers-within p w within) busy is);
      };
      effect = refl;
      missed = ap (λ (u : Store). u.missed) made.after;
    }
