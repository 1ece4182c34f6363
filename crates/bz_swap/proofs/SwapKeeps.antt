-- A swap is started: what is kept of the parts is kept of those after it.
use Rattle.std.specs.Prelude.{◌≡◌, ◌≢◌, if◌then◌else◌, ℕ, ◌+◌, ◌<◌, ◌≤◌, true, false, List, [], ◌∷◌, ◌++◌, length, slice_index, None}
use Rattle.std.proofs.Common.{arith, refl, ap, sym, ◌∙◌, inl, inr}
use Rattle.std.proofs.lemmas.Bool.{cases_eq}
use Rattle.std.proofs.lemmas.List.{length-set}
use Rattle.bz_word.specs.declared.entry.Entry.{Entry}
use Rattle.bz_swap_machine.specs.declared.place.Place.TheVariants as place
use Rattle.bz_swap_machine.specs.declared.place.PrepareStep.TheVariants.{WriteWord}
use Rattle.bz_swap_machine.specs.declared.worker.Operation.TheVariants as operation
use Rattle.bz_swap_machine.specs.declared.descriptor.DescriptorWords.{DescriptorWords}
use Rattle.bz_swap_machine.specs.Allowed.{for_swap}
use Rattle.bz_swap_machine.specs.Budget.{budget}
use Rattle.bz_swap_machine.specs.State.{State, happens}
use Rattle.bz_swap_machine.specs.Budgets.{IsAmong}
use Rattle.bz_swap_machine.proofs.EventLaws.{keeps_state, keeps_range, stays_bounded}
use Rattle.bz_swap_machine.proofs.SwapStarts.{swaps_add_allowed}
use Rattle.bz_swap_acts.specs.Ready.{LiesOutside}
use Rattle.bz_swap.specs.SwapMemory.{is_target, is_among}
use Rattle.bz_swap.specs.Inside.Parts.{Parts, worker_at, listed, entry_list}
use Rattle.bz_swap.specs.Inside.Kept.{AsksFew, IsRunning, IsWorker, IsOwned, IsPrepared, state_of}
use Rattle.bz_swap.proofs.Asking.{empty-few}
use Rattle.bz_swap.proofs.Listed.{begun-more, among-more}
use Rattle.bz_swap.proofs.MaySwaps.{lies-from}
use Rattle.bz_swap.proofs.Stepped.{put-here, put-there}
use Rattle.bz_swap.proofs.Stepping.{workers-within}
use Rattle.bz_swap.proofs.StepsLeft.{enough-started}
use Rattle.bz_swap.proofs.Taken.{one_taken, store-taken, lies-taken, worker-taken}
use Rattle.bz_swap.proofs.SwapLists.{entries_from, count-listed}
use Rattle.bz_swap.proofs.WorkStarts.{idle-at, nothing-at}
use Rattle.bz_swap.proofs.Swapping.{swapper, with_swap, beside_swap, Begins, here, there, event, happening, holding, entries_swap, state-begun}

-- the targets of the entries lie outside the descriptors
lies-begun : (p : Parts) (r : IsRunning p) (w : ℕ) (words : DescriptorWords) (entries : List Entry) → Begins p w words entries
    → (s i : ℕ) → i < (entries_swap p r.entries words s).count → LiesOutside (one_taken p.store) ((entries_swap p r.entries words s).target i)
lies-begun p r w words entries h s i below = elim (cases_eq s p.store.taken) [
  | inl e ↦ (let x = put-here r.entries p.store.taken (entries_from (slice_index words.words)) s e in
      rw x (lies-taken p.store _ (lies-from p w (slice_index words.words) entries h.may h.lists i (rw x at below))))
  | inr ne ↦ (let x = put-there r.entries p.store.taken (entries_from (slice_index words.words)) s ne in
      rw x (lies-taken p.store _ (r.lies s i (rw x at below))))
]

-- the named addresses are the targets of the swaps begun
named-begun : (p : Parts) (r : IsRunning p) (w : ℕ) (words : DescriptorWords) (entries : List Entry) → Begins p w words entries
    → (a : ℕ) → (if is_target entries a then true else r.beside.named a) ≡ is_among (listed (λ s. entry_list (entries_swap p r.entries words s)) 0 (p.store.taken + 1)) a
named-begun p r w words entries h a =
    let before : List (List Entry) = listed (λ s. entry_list (r.entries s)) 0 p.store.taken in
    let more : listed (λ s. entry_list (entries_swap p r.entries words s)) 0 (p.store.taken + 1) ≡ before ++ entries ∷ [] =
    begun-more r.entries p.store.taken (entries_from (slice_index words.words)) ∙ ap (λ l. before ++ l ∷ []) h.lists.list in
    ap (λ b. if is_target entries a then true else b) (r.named a) ∙ sym (among-more before entries a) ∙ ap (λ l. is_among l a) (sym more)

-- an idle worker is no owner of a swap without an answer
owner-differs : (p : Parts) (r : IsRunning p) (w s : ℕ) → (worker_at p w).place ≡ place.Idle → IsOwned p r.beside s → r.beside.owner s ≢ w
owner-differs p r w s idle own is =
    let does : (worker_at p w).operation ≡ operation.Swapping s = rw is at own.operation in
    let bad = sym (nothing-at p r w idle) ∙ does in
    absurd cc

-- nor does it prepare one
preparer-differs : (p : Parts) (r : IsRunning p) (w s : ℕ) → (worker_at p w).place ≡ place.Idle → IsPrepared p r.beside s → r.beside.owner s ≢ w
preparer-differs p r w s idle own is =
    let stands : (worker_at p w).place ≡ place.Prepare own.step = rw is at own.place in
    let bad = sym idle ∙ stands in
    absurd cc

owned-begun : (p : Parts) (r : IsRunning p) (w : ℕ) (words : DescriptorWords) (entries : List Entry) → Begins p w words entries
    → (s : ℕ) → s < p.store.taken + 1 → r.beside.answer s ≡ None → IsOwned (with_swap p w words) (beside_swap r.beside p.store.taken w entries) s
owned-begun p r w words entries h s below none = elim (cases_eq s p.store.taken) [
  | inl e ↦ (let owner = put-here r.beside.owner p.store.taken w s e in
      let within = workers-within p w h.may.work.within in
      record {
        owner = rw (owner, length-set p.workers w (swapper p.store.taken words)) within;
        operation = rw (owner, here p w words within) (ap operation.Swapping (sym e));
      })
  | inr ne ↦ (let owner = put-there r.beside.owner p.store.taken w s ne in
      let old = r.owned s (omega (arith, below, ne)) none in
      let other = there p w (r.beside.owner s) words (owner-differs p r w s (idle-at p r w h.may.work.idle) old) in
      record {
        owner = rw (owner, length-set p.workers w (swapper p.store.taken words)) old.owner;
        operation = rw (owner, other) old.operation;
      })
]

prepared-begun : (p : Parts) (r : IsRunning p) (w : ℕ) (words : DescriptorWords) (entries : List Entry) → Begins p w words entries
    → (s : ℕ) → s < p.store.taken + 1 → r.beside.published s ≡ false → IsPrepared (with_swap p w words) (beside_swap r.beside p.store.taken w entries) s
prepared-begun p r w words entries h s below unset = elim (cases_eq s p.store.taken) [
  | inl e ↦ (let owner = put-here r.beside.owner p.store.taken w s e in
      let own = here p w words (workers-within p w h.may.work.within) in
      record { step = WriteWord 0; place = rw (owner, own) refl; current = rw (owner, own) (sym e) })
  | inr ne ↦ (let owner = put-there r.beside.owner p.store.taken w s ne in
      let old = r.prepared s (omega (arith, below, ne)) unset in
      let other = there p w (r.beside.owner s) words (preparer-differs p r w s (idle-at p r w h.may.work.idle) old) in
      record { step = old.step; place = rw (owner, other) old.place; current = rw (owner, other) old.current })
]

workers-begun : (p : Parts) (r : IsRunning p) (w : ℕ) (words : DescriptorWords) (entries : List Entry) → Begins p w words entries
    → (u : ℕ) → IsWorker (one_taken p.store) (worker_at (with_swap p w words) u)
workers-begun p r w words entries h u = elim (cases_eq u w) [
  | inl e ↦ rw (e, here p w words (workers-within p w h.may.work.within)) (record { rests = tt; operation = tt; place = tt })
  | inr ne ↦ rw (there p w u words ne) (worker-taken p.store (worker_at p u) (r.workers u))
]

-- the worker has asked for nothing yet
asked-begun : (p : Parts) (r : IsRunning p) (w : ℕ) (words : DescriptorWords) (entries : List Entry) → Begins p w words entries
    → (u : ℕ) → AsksFew p.store.past u (worker_at (with_swap p w words) u)
asked-begun p r w words entries h u = elim (cases_eq u w) [
  | inl e ↦ rw (e, here p w words (workers-within p w h.may.work.within)) (empty-few p.store.past w (swapper p.store.taken words) (rw (idle-at p r w h.may.work.idle) at (r.asked w).few))
  | inr ne ↦ rw (there p w u words ne) (r.asked u)
]

-- the swap has few entries, whose targets rise
among-begun : (p : Parts) (w : ℕ) (words : DescriptorWords) (entries : List Entry) → Begins p w words entries → IsAmong (length p.workers) (event p w words entries)
among-begun p w words entries h =
    let count : slice_index words.words 0 ≡ length entries = count-listed (slice_index words.words) entries h.lists in
    (workers-within p w h.may.work.within, h.lists.rising, omega (arith, count, h.lists.few))

-- the start adds to the worker's budget what it allows
swap-adds : (p : Parts) (r : IsRunning p) (w : ℕ) (words : DescriptorWords) (entries : List Entry) → Begins p w words entries
    → budget (happens (state_of p r.entries r.beside) (event p w words entries)) w (length p.workers) ≤ budget (state_of p r.entries r.beside) w (length p.workers) + for_swap
swap-adds p r w words entries h =
    swaps_add_allowed (state_of p r.entries r.beside) w (length p.workers) (entries_from (slice_index words.words)) (is_target entries) r.bounded (happening p r w words entries h) (among-begun p w words entries h).2

-- the parts after the start, and the entries of its swaps
pub record RunsBegun (p : Parts) (r : IsRunning p) (w : ℕ) (words : DescriptorWords) : Type 0 where
  pub running : IsRunning (with_swap p w words)
  pub entries : running.entries ≡ entries_swap p r.entries words

pub swap-running : (p : Parts) (r : IsRunning p) (w : ℕ) (words : DescriptorWords) (entries : List Entry) → Begins p w words entries → RunsBegun p r w words
swap-running p r w words entries h =
    let x : State = state_of p r.entries r.beside in
    let path = state-begun p r w words entries h in
    record {
      running = record {
        entries = entries_swap p r.entries words;
        beside = beside_swap r.beside p.store.taken w entries;
        words = store-taken p.store r.words h.left;
        state = rw path (keeps_state x (event p w words entries) (happening p r w words entries h) r.state);
        range = rw path (keeps_range x (event p w words entries) (holding p r w words entries h) r.state r.range);
        bounded = rw (path, length-set p.workers w (swapper p.store.taken words)) (stays_bounded x (length p.workers) (event p w words entries) (happening p r w words entries h) (among-begun p w words entries h) r.bounded);
        enough = rw (path, length-set p.workers w (swapper p.store.taken words)) (enough-started x p.allowance w (length p.workers) for_swap (event p w words entries) r.bounded r.enough h.allowed (workers-within p w h.may.work.within) (swap-adds p r w words entries h));
        lies = lies-begun p r w words entries h;
        named = named-begun p r w words entries h;
        owned = owned-begun p r w words entries h;
        prepared = prepared-begun p r w words entries h;
        workers = workers-begun p r w words entries h;
        tags = r.tags;
        recoverer = rw (there p w 0 words (omega (arith, h.may.work.some))) r.recoverer;
        asked = asked-begun p r w words entries h;
      };
      entries = refl;
    }
